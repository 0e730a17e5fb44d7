use Rattle.std.proofs.Common.{◌≡◌, length, arith}
use Rattle.std.proofs.lemmas.List.{nil_from_length}
use Rattle.pack_text.proofs.Sums.{summed-none, summed-next, summed-all}
use Rattle.pack_text.proofs.adler.adler32.Goals as goal

pub loop-left-init : goal.loop-left-init
loop-left-init c = (summed-none c.args.bytes.now, omega arith, omega arith)

pub loop-left-preserved : goal.loop-left-preserved
loop-left-preserved c =
    let sums = c.sums_after-sums.ensures in (
      summed-next _ c.loop-left.left.now c.split_at.result.0.now c.split_at.result.1.now _
          c.loop-left.low c.loop-left.high _ _ c.split_at.ensures.front c.split_at.ensures.back
          sums.low sums.high c.loop-left.invariant.0,
      omega arith,
      omega arith,
    )

pub returns : goal.returns
returns c =
    let none : length c.loop-left.left.now ≡ 0 =
    grind (arith, c.is_empty.ensures, c.loop-left-test.false) in
    summed-all _ c.loop-left.left.now _ _ (nil_from_length _ none) c.loop-left.invariant.0
