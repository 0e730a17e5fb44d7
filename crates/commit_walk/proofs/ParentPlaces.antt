-- The positions of parents: those of each object, and marks by them.
use Rattle.std.proofs.Common.{◌≡◌, ℕ, ◌+◌, ◌<◌, Bool, List, [], ◌∷◌, ◌++◌, length, map, take, get_or, sym, ap, subst, ◌∙◌, arith}
use Rattle.std.specs.Global.{Vec}
use Rattle.std.proofs.lemmas.List.{get_or-map, length-map, map-append, take_more}
use Rattle.git_model.specs.Repository.{Object}
use Rattle.git_model.specs.References.{place_of, object_at, no_object}
use Rattle.commit_walk.specs.Marks.{Marks}
use Rattle.commit_walk.specs.Remembered.{parent_places, AreParentPlaces}
use Rattle.commit_walk.proofs.Flags.{Marks-append}

abbrev of_ids : List Object → List (List ℕ) → List ℕ
of_ids os ids = map (λ (id : List ℕ). place_of id os) ids

abbrev of_objects : List Object → List Object → List (List ℕ)
of_objects os some = map (λ (o : Object). parent_places os o.id) some

abbrev of_rows : List (Vec ℕ) → List (List ℕ)
of_rows rows = map (λ (row : Vec ℕ). row.items) rows

pub as_many : (os : List Object) (rows : List (Vec ℕ)) → AreParentPlaces os rows
    → length rows ≡ length os
as_many os rows are =
    sym (length-map rows (λ (row : Vec ℕ). row.items)) ∙ ap length are
    ∙ length-map os (λ (o : Object). parent_places os o.id)

-- a row has the positions of the parents of its object
pub row_is : (os : List Object) (rows : List (Vec ℕ)) (place : ℕ) (row : Vec ℕ)
    → AreParentPlaces os rows → place < length rows → row ≡ get_or rows place row
    → row.items ≡ parent_places os (object_at place os).id
unfolding object_at
row_is os rows place row are within is =
    let size = as_many os rows are in
    ap (λ (r : Vec ℕ). r.items) is
    ∙ sym (get_or-map (λ (r : Vec ℕ). r.items) rows place row [] within)
    ∙ ap (λ (lists : List (List ℕ)). get_or lists place []) are
    ∙ get_or-map (λ (o : Object). parent_places os o.id) os place no_object [] (omega arith)

-- one more row
pub one_row : (os : List Object) (rows : List (Vec ℕ)) (place : ℕ) (row : Vec ℕ) → place < length os
    → of_rows rows ≡ of_objects os (take place os)
    → row.items ≡ parent_places os (object_at place os).id
    → of_rows (rows ++ row ∷ []) ≡ of_objects os (take (place + 1) os)
unfolding object_at
one_row os rows place row within had is =
    map-append (λ (r : Vec ℕ). r.items) rows (row ∷ [])
    ∙ ap (λ (lists : List (List ℕ)). lists ++ row.items ∷ []) had
    ∙ ap (λ (last : List ℕ). of_objects os (take place os) ++ last ∷ []) is
    ∙ sym (ap (of_objects os) (take_more os place no_object within)
    ∙ map-append (λ (o : Object). parent_places os o.id) (take place os) (get_or os place no_object ∷ []))

-- one more position
pub one_place : (os : List Object) (ids : List (List ℕ)) (i : ℕ) (id : List ℕ) (places : List ℕ)
    (place : ℕ) → i < length ids → id ≡ get_or ids i id → places ≡ of_ids os (take i ids)
    → place ≡ place_of id os → places ++ place ∷ [] ≡ of_ids os (take (i + 1) ids)
one_place os ids i id places place within is had at =
    ap (λ (ps : List ℕ). ps ++ place ∷ []) had
    ∙ ap (λ (p : ℕ). of_ids os (take i ids) ++ p ∷ []) (at ∙ ap (λ (x : List ℕ). place_of x os) is)
    ∙ sym (ap (of_ids os) (take_more ids i id within)
    ∙ map-append (λ (x : List ℕ). place_of x os) (take i ids) (get_or ids i id ∷ []))

-- one more mark
pub one_mark : (os : List Object) (floor : ℕ) (first old new : List Bool) (places : List ℕ)
    (ids : List (List ℕ)) (i : ℕ) → i < length places → places ≡ of_ids os ids
    → Marks os floor first old (take i ids)
    → ((id : List ℕ) → get_or places i 0 ≡ place_of id os → Marks os floor old new (id ∷ []))
    → Marks os floor first new (take (i + 1) ids)
one_mark os floor first old new places ids i within are had one =
    let size : length places ≡ length ids =
    ap length are ∙ length-map ids (λ (id : List ℕ). place_of id os) in
    let lt : i < length ids = omega arith in
    subst (λ (some : List (List ℕ)). Marks os floor first new some) (sym (take_more ids i [] lt))
    (Marks-append os floor first old new (take i ids) (get_or ids i [] ∷ []) had
    (one (get_or ids i [])
    (ap (λ (ps : List ℕ). get_or ps i 0) are
    ∙ get_or-map (λ (id : List ℕ). place_of id os) ids i [] 0 lt)))
