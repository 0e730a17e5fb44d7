use Rattle.std.proofs.Common.{◌<◌, length, refl, sym, ◌∙◌, arith}
use Rattle.std.proofs.lemmas.Bool.{false≢true}
use Rattle.git_model.proofs.Places.{at_place}
use Rattle.repository_copies.proofs.Fitting.{Fits, all-fit, one-fits}
use Rattle.repository_copies.proofs.fits.all_fit.Goals as goal

pub loop-place-preserved : goal.loop-place-preserved
loop-place-preserved g c good =
    let n = c.len-place-end.ensures in
    let test = c.loop-place-test.true in
    one-fits c.args.objects.now c.loop-place.place (c.loop-place.invariant good)
    ((c.in_ok-fits_at.ensures good (omega (arith, n, test))).0 c.if-not-branch.false)

pub returns-then-not-branch : goal.returns-then-not-branch
returns-then-not-branch g c good =
    let n = c.len-place-end.ensures in
    let test = c.loop-place-test.true in
    let lt : c.loop-place.place < length c.args.objects.now = omega (arith, n, test) in (
      λ no. absurd (false≢true no),
      λ all. sym c.if-not-branch.true
          ∙ (c.in_ok-fits_at.ensures good lt).1 (at_place Fits c.args.objects.now c.loop-place.place all lt),
    )

pub returns : goal.returns
returns g c good =
    let n = c.len-place-end.ensures in
    let test = c.loop-place-test.false in (
      λ yes. all-fit c.args.objects.now c.loop-place.place (omega (arith, n, test)) (c.loop-place.invariant good),
      λ all. refl,
    )
