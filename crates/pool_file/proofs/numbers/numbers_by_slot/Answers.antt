use Rattle.std.proofs.Common.{ℕ, ◌<◌, get_or, refl, sym, subst, ◌∙◌, arith}
use Rattle.std.proofs.lemmas.List.{length-set}
use Rattle.std.proofs.lemmas.Option.{slice_get-get_or, slice_get_within}
use Rattle.pool_file.proofs.Numbered.{first_more, unlisted}
use Rattle.pool_file.proofs.numbers.numbers_by_slot.Goals as goal

pub loop-place-preserved : goal.loop-place-preserved
loop-place-preserved c =
    let here = c.args.contents.now in
    let place = c.loop-place.place in
    let at = slice_get-get_or here place unlisted c.loop-place-test.true in (
      length-set _ _ _ ∙ c.loop-place.invariant.0,
      first_more here c.loop-place.numbers.items _ (get_or here place unlisted) place c.requires.once at
          (subst (λ (n : ℕ). (get_or here place unlisted).slot < n) (sym c.loop-place.invariant.0)
          (c.requires.within place unlisted c.loop-place-test.true))
          refl c.loop-place.invariant.1,
    )

pub returns : goal.returns
returns c = λ n d e.
    let w = slice_get_within c.args.contents.now n d e in
    let end = c.loop-place-test.false in
    c.loop-place.invariant.1 n d (omega (arith, w, end)) e
