use Rattle.std.proofs.Common.{sym, subst, arith}
use Rattle.std.specs.Prelude.{All}
use Rattle.std.proofs.lemmas.Bool.{OnTrue_at}
use Rattle.std.proofs.lemmas.List.{drop_all}
use Rattle.std.proofs.lemmas.List.Elements.{All-nil}
use Rattle.pool_file_format.specs.Shown.{object_of, objects_of}
use Rattle.pool_file_checks.specs.Quick.{HasKind}
use Rattle.pool_file_checks.proofs.TenantLemmas.{all_on}
use Rattle.pool_file_checks.proofs.quick.have_kinds.Goals as goal

pub loop-object-init : goal.loop-object-init
loop-object-init c = λ all. all

pub loop-object-preserved : goal.loop-object-preserved
loop-object-preserved c =
    let xs = c.args.objects.now in
    all_on object_of HasKind xs c.loop-object.object-index c.object-item.result (All HasKind (objects_of xs))
    (let t = c.loop-object-test.true in omega (arith, t)) c.object-item.is (OnTrue_at c.if-not-has_kind.false c.has_kind.ensures) c.loop-object.invariant

pub returns : goal.returns
returns c =
    c.loop-object.invariant (subst (λ left. All HasKind (objects_of left))
    (sym (drop_all c.loop-object.object-index c.args.objects.now c.loop-object-test.false)) (All-nil HasKind))
