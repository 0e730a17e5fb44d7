use Rattle.std.proofs.lemmas.Bool.{false≢true, iff_false}
use Rattle.std.proofs.lemmas.List.Elements.{All-cons, All-head, All-tail, All-map}
use Rattle.git_model.specs.declared.kind.Kind.TheVariants as kind
use Rattle.git_model.specs.References.{reference}
use Rattle.git_model.specs.GoodRepository.{StandsBefore}
use Rattle.pool_file_checks.specs.Own.{objects_in}
use Rattle.pool_file_format.specs.Shown.{objects_of}
use Rattle.pool_file_checks.proofs.ConnectLemmas.{all_mapped}
use Rattle.pool_file_checks.proofs.standing.commit_stands.Goals as goal

pub returns-then-not-stands_before : goal.returns-then-not-stands_before
returns-then-not-stands_before c =
    let P = StandsBefore (objects_in (objects_of c.args.objects.now) c.args.index.now.entries) c.args.place in (
      λ e. absurd (false≢true e),
      λ q. absurd (iff_false c.stands_before.ensures c.if-not-stands_before.true (All-head P _ _ q)),
    )

pub returns : goal.returns
returns c =
    let P = StandsBefore (objects_in (objects_of c.args.objects.now) c.args.index.now.entries) c.args.place in
    let both = rw c.deref.ensures.value at c.parents_stand.ensures in (
      λ y. All-cons P _ _ (c.stands_before.ensures.0 c.if-not-stands_before.false)
          (All-map P (reference kind.Commit) c.args.parts.now.ancestors.items (both.0 y)),
      λ q. both.1 (all_mapped P (reference kind.Commit) c.args.parts.now.ancestors.items (All-tail P _ _ q)),
    )
