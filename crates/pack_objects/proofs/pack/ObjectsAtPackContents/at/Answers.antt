use Rattle.std.proofs.Common.{ℕ, List, Some, sym, ap, ◌∙◌}
use Rattle.std.proofs.lemmas.Option.{slice_get-get_or}
use Rattle.pack_objects.proofs.MissingTold.{at-found, at-none}
use Rattle.pack_objects.proofs.pack.ObjectsAtPackContents.at.Goals as goal

pub returns-in-Some : goal.returns-in-Some
returns-in-Some g c =
    let places : List ℕ = c.args.self.now.places.now in
    let there = c.in_ok-place.ensures.lookup.3 in
    at-found c.args.self.now.objects.now places c.args.position c.in_ok-place.field-0.now _
    (slice_get-get_or places c.args.position 0 there.0 ∙ ap (λ (n : ℕ). Some n) (sym (there.1 0))) c.in-Some.ensures

pub returns-in-None : goal.returns-in-None
returns-in-None g c =
    let places : List ℕ = c.args.self.now.places.now in
    let there = c.in_ok-place.ensures.lookup.3 in
    at-none c.args.self.now.objects.now places c.args.position c.in_ok-place.field-0.now
    (slice_get-get_or places c.args.position 0 there.0 ∙ ap (λ (n : ℕ). Some n) (sym (there.1 0))) c.in-None.ensures
