use Rattle.std.proofs.Common.{◌≡◌, ℕ, ◌+◌, ◌<◌, suc, List, ◌∷◌, Ok, drop, get_or, length, ap, sym, ◌∙◌, arith}
use Rattle.std.proofs.Math.Seq.{drop-cons}
use Rattle.git_model.specs.Repository.{Object}
use Rattle.revisions.specs.declared.suffix.Suffix.{Suffix}
use Rattle.revisions.specs.Resolution.{after_suffix, after_suffixes}
use Rattle.revisions.proofs.Steps.{went_on}
use Rattle.revisions.proofs.resolving.after_suffixes.Goals as goal

-- the suffixes that are left, after the first of them
one_more : (os : List Object) (suffixes : List Suffix) (i : ℕ) (suffix : Suffix) (at next : List ℕ)
    → i < length suffixes → suffix ≡ get_or suffixes i suffix → after_suffix os suffix at ≡ Ok next
    → after_suffixes os (drop i suffixes) at ≡ after_suffixes os (drop (i + 1) suffixes) next
one_more os suffixes i suffix at next within is found =
    let add-one : i + 1 ≡ suc i = omega arith in
    let first : drop i suffixes ≡ suffix ∷ drop (suc i) suffixes = drop-cons suffixes i suffix within
    ∙ ap (λ (s : Suffix). s ∷ drop (suc i) suffixes) (sym is) in
    rw (add-one, first) (went_on (after_suffix os suffix at) next (after_suffixes os (drop (suc i) suffixes)) found)

pub loop-suffix-preserved : goal.loop-suffix-preserved
loop-suffix-preserved g c held = let was = c.loop-suffix.invariant held in record {
  rest = λ first ends.
      was.rest first ends ∙ one_more c.args.objects.now c.args.suffixes.now c.loop-suffix.suffix-index
      c.suffix-item.result c.loop-suffix.at c.in_ok-at.at c.loop-suffix-test.true c.suffix-item.is
      (c.in_ok-at.ensures.found held (was.chain first) (was.tags ends));
  chain = λ first. c.after_suffix.ensures.chain held (was.chain first);
  tags = λ ends. c.after_suffix.ensures.tags held (was.tags ends);
}
