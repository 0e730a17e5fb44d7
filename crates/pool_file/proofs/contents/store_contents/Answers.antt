use Rattle.std.proofs.Common.{◌≡◌, ℕ, ◌<◌, ◌^◌, List, ◌∷◌, length, sym, ap, subst, arith}
use Rattle.std.proofs.lemmas.List.{length-map}
use Rattle.std.specs.Vec.Iter.{into_iter_items}
use Rattle.git_model.specs.Content.{name_by}
use Rattle.pool_file_format.specs.Shown.{object_of, objects_of}
use Rattle.pool_file_checks.specs.Own.{content_of}
use Rattle.pool_file.proofs.StoredContents.{stored_none, place_in, name_in, room_to_store, stored_on}
use Rattle.pool_file.proofs.contents.store_contents.Goals as goal

pub loop-object-init : goal.loop-object-init
loop-object-init g c =
    let all = c.args.objects in
    let gives = c.into_iter-object-iterator.ensures.into_iter_gives in
    let size : length (objects_of all.items) ≡ length all.items = length-map all.items object_of in
    let ok = all.ok in
    let small = all.small in
    let few : length (objects_of all.items) < 2 ^ 64 = omega (arith, size, ok, small, gives.1, gives.2) in
    rw (c.in_ok-slots.ensures.items, gives.0) (stored_none c.args.pool.now (objects_of all.items) c.requires.vacant c.requires.checked few)

pub bounds-names-place : goal.bounds-names-place
bounds-names-place g c =
    let at = c.loop-object in
    let steps : into_iter_items at.object-iterator ≡ c.in-Some.object ∷ into_iter_items c.next.new.self = c.in-Some.ensures.steps.0 in
    subst (λ (k : ℕ). k < length c.args.names.now) (ap (λ (l : List ℕ). length l) (sym c.as_slice-place.ensures.value))
    (place_in at.pool at.slots.items (object_of c.in-Some.object) (objects_of (into_iter_items c.next.new.self)) (objects_of c.args.objects.items)
    g.N.Naming.digest_of c.args.names.now (rw (ap objects_of steps) at at.invariant) c.requires.named)

pub offset_bounds-names-place : goal.offset_bounds-names-place
offset_bounds-names-place g c =
    let all = c.args.objects in
    let reach = bounds-names-place g c in
    let named = ap (λ (l : List (List ℕ)). length l) c.requires.named in
    let size = length-map (objects_of all.items) (λ x. name_by g.N.Naming.digest_of (content_of x)) in
    let shown = length-map all.items object_of in
    let ok = all.ok in
    let small = all.small in
    omega (arith, reach, named, size, shown, ok, small)

pub store_content-requires-clause-named : goal.store_content-requires-clause-named
store_content-requires-clause-named g c =
    let at = c.loop-object in
    let steps : into_iter_items at.object-iterator ≡ c.in-Some.object ∷ into_iter_items c.next.new.self = c.in-Some.ensures.steps.0 in
    name_in at.pool at.slots.items (object_of c.in-Some.object) (objects_of (into_iter_items c.next.new.self)) (objects_of c.args.objects.items)
    g.N.Naming.digest_of c.args.names.now _ _ _ (rw (ap objects_of steps) at at.invariant) c.requires.named
    (ap (λ (l : List ℕ). length l) c.as_slice-place.ensures.value) c.index-names-place.is

pub store_content-requires-clause-room : goal.store_content-requires-clause-room
store_content-requires-clause-room g c =
    let at = c.loop-object in
    let steps : into_iter_items at.object-iterator ≡ c.in-Some.object ∷ into_iter_items c.next.new.self = c.in-Some.ensures.steps.0 in
    room_to_store at.pool at.slots.items (object_of c.in-Some.object) (objects_of (into_iter_items c.next.new.self)) (objects_of c.args.objects.items)
    (rw (ap objects_of steps) at at.invariant)

pub loop-object-preserved : goal.loop-object-preserved
loop-object-preserved g c =
    let at = c.loop-object in
    let steps : into_iter_items at.object-iterator ≡ c.in-Some.object ∷ into_iter_items c.next.new.self = c.in-Some.ensures.steps.0 in
    rw c.in_ok-push.ensures.items
    (stored_on at.pool c.store_content.new.pool at.slots.items c.in_ok-slot.slot (object_of c.in-Some.object) (objects_of (into_iter_items c.next.new.self)) (objects_of c.args.objects.items)
    (rw (ap objects_of steps) at at.invariant) c.in_ok-slot.ensures)
