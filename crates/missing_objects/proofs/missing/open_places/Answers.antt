use Rattle.std.proofs.Common.{◌≡◌, ◌++◌, [], ◌∷◌, sym, ap, ◌∙◌, arith}
use Rattle.missing_objects.specs.Marks.{open_places}
use Rattle.missing_objects.proofs.Places.{places-more, places-same}
use Rattle.missing_objects.proofs.missing.open_places.Goals as goal
use Rattle.missing_objects.proofs.missing.open_places.Goals.{then-is_open+in_ok-push, else-is_open}

pub loop-place-preserved : goal.loop-place-preserved
loop-place-preserved c = elim c.if-is_open.branch [
  | then-is_open+in_ok-push w ↦ λ none. rw w.places-is
      (w.in_ok-push.ensures.items ∙ ap (λ ps. ps ++ c.loop-place.place ∷ []) (c.loop-place.invariant none)
      ∙ sym (places-more c.args.marks.now c.loop-place.place (sym c.is_open.ensures ∙ w.if-is_open.true)))
  | else-is_open w ↦ λ none. rw w.places-is
      (c.loop-place.invariant none
      ∙ sym (places-same c.args.marks.now c.loop-place.place (sym c.is_open.ensures ∙ w.if-is_open.false)))
]

pub returns : goal.returns
returns c = λ none.
    c.loop-place.invariant none
    ∙ ap (open_places c.args.marks.now) (omega (arith, c.loop-place.auto.place-end c.requires.within))
