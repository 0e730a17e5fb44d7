use Rattle.std.proofs.Common.{ℕ, List, refl, subst, arith, take_all}
use Rattle.std.specs.Prelude.{All}
use Rattle.std.proofs.lemmas.List.Elements.{All-more}
use Rattle.git_model.specs.declared.kind.Kind.TheVariants as kind
use Rattle.git_model.specs.References.{reference}
use Rattle.git_model.specs.GoodRepository.{StandsBefore}
use Rattle.pool_file_checks.specs.Own.{objects_in}
use Rattle.pool_file_format.specs.Shown.{objects_of}
use Rattle.pool_file_checks.proofs.standing.parents_stand.Goals as goal

pub loop-parent-preserved : goal.loop-parent-preserved
loop-parent-preserved c =
    let P = λ (id : List ℕ). StandsBefore (objects_in (objects_of c.args.objects.now) c.args.index.now.entries) c.args.place (reference kind.Commit id) in
    All-more P c.args.parents.now c.loop-parent.parent-index c.parent-item.result (let t = c.loop-parent-test.true in omega (arith, t)) c.loop-parent.invariant
    (subst P c.parent-item.is (c.stands_before.ensures.0 c.if-not-stands_before.false))

pub returns : goal.returns
returns c =
    let P = λ (id : List ℕ). StandsBefore (objects_in (objects_of c.args.objects.now) c.args.index.now.entries) c.args.place (reference kind.Commit id) in (
      λ _. subst (All P) (take_all c.loop-parent.parent-index c.args.parents.now (let t = c.loop-parent-test.false in omega (arith, t))) c.loop-parent.invariant,
      λ _. refl,
    )
