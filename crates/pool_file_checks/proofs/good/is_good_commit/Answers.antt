use Rattle.std.proofs.Common.{◌≡◌, ◌≤◌, ℕ, List, length, subst, arith}
use Rattle.std.specs.Prelude.{All, IfSome}
use Rattle.std.proofs.lemmas.Bool.{OnTrue_from}
use Rattle.git_model.specs.Commit.{Commit, CanWriteCommit, commit_contents}
use Rattle.git_model.specs.References.{commit_references}
use Rattle.git_model.specs.GoodRepository.{StandsBefore}
use Rattle.git_objects.specs.Parts.{commit_of}
use Rattle.pool_file_checks.specs.Own.{objects_in}
use Rattle.pool_file_format.specs.Shown.{objects_of}
use Rattle.pool_file_checks.proofs.GoodLemmas.{commit_within}
use Rattle.pool_file_checks.proofs.good.is_good_commit.Goals as goal

pub returns-else-as_slice-gt-PARENTS_LIMIT-clause-text : goal.returns-else-as_slice-gt-PARENTS_LIMIT-clause-text
returns-else-as_slice-gt-PARENTS_LIMIT-clause-text c =
    let found = subst (λ o. IfSome o (λ parts. CanWriteCommit (commit_of parts) × (c.args.bytes.now ≡ commit_contents (commit_of parts))))
    c.in-Ok-Some.field-0-is c.in-Ok-Some.ensures.found in
    let few = c.if-as_slice-gt-PARENTS_LIMIT.false in
    OnTrue_from c.commit_stands.result _ (λ _. commit_within c.args.bytes.now (commit_of c.in-Ok-Some.parts) found.0 found.1
    (subst (λ (ps : List (List ℕ)). length ps ≤ 1024) c.as_slice.ensures.value (omega (arith, few))))

pub returns-else-as_slice-gt-PARENTS_LIMIT-clause-stands : goal.returns-else-as_slice-gt-PARENTS_LIMIT-clause-stands
returns-else-as_slice-gt-PARENTS_LIMIT-clause-stands c =
    let read = rw c.in-Ok-Some.field-0-is at c.in-Ok-Some.ensures.read in
    let P = StandsBefore (objects_in (objects_of c.args.objects.now) c.args.index.now.entries) c.args.place in
    OnTrue_from c.commit_stands.result _ (λ y. subst (λ (made : Commit). All P (commit_references made)) read (c.commit_stands.ensures.0 y))
