use Rattle.std.proofs.Common.{List, refl, sym, subst, arith}
use Rattle.std.specs.Prelude.{All}
use Rattle.std.proofs.lemmas.List.{drop_all}
use Rattle.std.proofs.lemmas.List.Elements.{All-nil}
use Rattle.std.proofs.lemmas.Bool.{false≢true, iff_false}
use Rattle.pool_file_checks.specs.FileRefs.{IsGoodRef}
use Rattle.pool_file_format.specs.declared.raw.RawRef.{RawRef}
use Rattle.pool_file_format.specs.Shown.{objects_of, ref_of, refs_of}
use Rattle.pool_file_checks.proofs.TenantLemmas.{all_on, fails_at}
use Rattle.pool_file_checks.proofs.refs.are_good_refs.Goals as goal

pub returns-then-not-branch : goal.returns-then-not-branch
returns-then-not-branch c = (
  λ e. absurd (false≢true e),
  λ q. absurd (fails_at ref_of (IsGoodRef c.args.front.now (objects_of c.args.objects.now) c.args.numbers.now) c.args.refs.now c.loop-one.one-index c.one-item.result
      (let t = c.loop-one-test.true in omega (arith, t)) c.one-item.is (iff_false c.in_ok-is_good_ref.ensures c.if-not-branch.true) q),
)

pub loop-one-preserved : goal.loop-one-preserved
loop-one-preserved c =
    all_on ref_of (IsGoodRef c.args.front.now (objects_of c.args.objects.now) c.args.numbers.now) c.args.refs.now c.loop-one.one-index c.one-item.result
    (All (IsGoodRef c.args.front.now (objects_of c.args.objects.now) c.args.numbers.now) (refs_of c.args.refs.now))
    (let t = c.loop-one-test.true in omega (arith, t)) c.one-item.is (c.in_ok-is_good_ref.ensures.0 c.if-not-branch.false) c.loop-one.invariant

pub loop-one-init : goal.loop-one-init
loop-one-init c = λ all. all

pub returns : goal.returns
returns c =
    let P = IsGoodRef c.args.front.now (objects_of c.args.objects.now) c.args.numbers.now in (
      λ e. c.loop-one.invariant (subst (λ (left : List RawRef). All P (refs_of left))
          (sym (drop_all c.loop-one.one-index c.args.refs.now c.loop-one-test.false)) (All-nil P)),
      λ all. refl,
    )
