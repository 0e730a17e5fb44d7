use Rattle.std.proofs.Common.{◌∷◌, [], ap, subst}
use Rattle.std.specs.Option.{is_some}
use Rattle.std.specs.Prelude.{◌↔◌, All, IsTrue}
use Rattle.std.proofs.lemmas.Bool.{false≢true}
use Rattle.git_model.specs.Commit.{Commit}
use Rattle.git_model.specs.Tag.{Tag}
use Rattle.git_model.specs.References.{commit_references, reference}
use Rattle.git_model.specs.GoodRepository.{StandsBefore}
use Rattle.git_objects.specs.Parts.{entries_of}
use Rattle.pool_file_checks.specs.Own.{objects_in}
use Rattle.pool_file_format.specs.Shown.{objects_of}
use Rattle.pool_file_checks.proofs.ConnectLemmas.{one_stands, tree_connected}
use Rattle.pool_file_checks.proofs.references.is_connected.Goals as goal

pub returns-in-Ok-Some : goal.returns-in-Ok-Some
returns-in-Ok-Some c =
    let read = rw c.in-Ok-Some.field-0-is at c.in-Ok-Some.ensures.read in
    let both = rw c.deref.ensures.value at c.entries_stand.ensures in
    rw c.in-Tree.is (λ _. tree_connected (objects_in (objects_of c.args.objects.now) c.args.index.now.entries) c.args.place (entries_of c.in-Ok-Some.entries.items)
    c.args.bytes.now c.entries_stand.result read both)

pub returns-in-Ok-Some-read_commit : goal.returns-in-Ok-Some-read_commit
returns-in-Ok-Some-read_commit c =
    let read = rw c.in-Ok-Some-read_commit.field-0-is at c.in-Ok-Some-read_commit.ensures.read in
    let P = StandsBefore (objects_in (objects_of c.args.objects.now) c.args.index.now.entries) c.args.place in
    rw c.in-Commit.is (λ _. subst (λ (made : Commit). IsTrue c.commit_stands.result ↔ All P (commit_references made)) read c.commit_stands.ensures)

pub returns-in-Ok-None-read_commit : goal.returns-in-Ok-None-read_commit
returns-in-Ok-None-read_commit c = rw c.in-Commit.is (λ text. (
  λ e. absurd (false≢true e),
  λ all. absurd (c.in-Ok-None-read_commit.ensures.exact (ap is_some c.in-Ok-None-read_commit.field-0-is) text.0 text.1.writable text.1.contents),
))

pub returns-in-Ok-Some-read_tag : goal.returns-in-Ok-Some-read_tag
returns-in-Ok-Some-read_tag c =
    let read = rw c.in-Ok-Some-read_tag.field-0-is at c.in-Ok-Some-read_tag.ensures.read in
    let P = StandsBefore (objects_in (objects_of c.args.objects.now) c.args.index.now.entries) c.args.place in
    rw c.in-Tag.is (λ _. subst (λ (t : Tag). IsTrue c.stands_before.result ↔ All P (reference t.kind t.target ∷ [])) read
    (one_stands P (reference c.in-Ok-Some-read_tag.parts.kind c.in-Ok-Some-read_tag.parts.target) c.stands_before.result c.stands_before.ensures))
