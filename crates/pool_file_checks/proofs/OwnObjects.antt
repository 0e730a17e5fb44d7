-- A tenant's objects: their names, their numbers and their places.
use Rattle.std.proofs.Common.{◌≡◌, ℕ, zero, suc, ◌<◌, Bool, true, false, List, [], ◌∷◌, map, length, get_or, Option, refl, sym, ap, subst, ◌∙◌, arith}
use Rattle.std.specs.Prelude.{All, slice_get}
use Rattle.std.specs.List.{AllByRecursion, IsDistinct}
use Rattle.std.specs.Map.{keys_of}
use Rattle.std.specs.Option.{option_map_or}
use Rattle.std.specs.Str.{bytes_eq}
use Rattle.std.proofs.lemmas.Slice.Eq.{bytes_eq-Decides}
use Rattle.std.proofs.lemmas.List.Elements.{All-head, All-tail}
use Rattle.std.proofs.lemmas.Option.{slice_get-get_or}
use Rattle.git_model.specs.Repository.{Object}
use Rattle.git_model.specs.References.{place_of}
use Rattle.git_model.proofs.Places.{first_place, later_place}
use Rattle.pool_file_format.specs.Format.{RawObject}
use Rattle.pool_file_checks.specs.Own.{content_at, Rows, rows_of, names_of, objects_in, own_objects, AreDistinct}
use Rattle.pool_file_checks.specs.Repositories.{number_in}
use Rattle.pool_file_checks.proofs.Keys.{AreSorted}
use Rattle.pool_file_checks.proofs.Numbers.{number_is}
use Rattle.pool_file_checks.proofs.FileContents.{contents_in, content_is}

abbrev pub ids : List Object → List (List ℕ)
ids os = map (λ o. o.id) os

-- ---- names

pub ids_of_rows : (os : List RawObject) (rows : Rows) → ids (objects_in os rows) ≡ keys_of rows
unfolding objects_in
ids_of_rows os [] = refl
ids_of_rows os (r ∷ rs) = ap (λ (l : List (List ℕ)). r.0 ∷ l) (ids_of_rows os rs)

pub own_distinct : (digest : List ℕ → List ℕ) (os : List RawObject) (numbers : List ℕ)
    → AreDistinct (rows_of (names_of digest os) numbers)
    → IsDistinct bytes_eq (ids (own_objects digest os numbers))
own_distinct digest os numbers d =
    subst (IsDistinct bytes_eq) (sym (ids_of_rows os (rows_of (names_of digest os) numbers))) d

pub own_length : (digest : List ℕ → List ℕ) (os : List RawObject) (numbers : List ℕ)
    → length (own_objects digest os numbers) ≡ length numbers
unfolding objects_in
own_length digest os [] = refl
own_length digest os (n ∷ ns) = ap suc (own_length digest os ns)

-- ---- numbers

pub numbers_again : (os : List RawObject) (names : List (List ℕ)) (numbers : List ℕ)
    → AreSorted (contents_in os) → (size : length (contents_in os) ≡ length os)
    → All (λ n. n < length os) numbers
    → map (λ o. number_in (contents_in os) o.content) (objects_in os (rows_of names numbers))
    ≡ numbers
unfolding objects_in
numbers_again os names [] s size all = refl
numbers_again os names (n ∷ ns) s size all =
    let l : n < length os = All-head (λ m. m < length os) n ns all in
    let is : number_in (contents_in os) (content_at os n) ≡ n =
    ap (number_in (contents_in os)) (sym (content_is os n (content_at os n) l))
    ∙ number_is (contents_in os) n (content_at os n) s (omega (arith, l, size)) in
    let rest = numbers_again os names ns s size (All-tail (λ m. m < length os) n ns all) in
    λ i. is i ∷ rest i

-- ---- places

pub apart : (b : Bool) → (b ≡ true → ⊥) → b ≡ false
apart true never = absurd (never refl)
apart false never = refl

differs_at : (id : List ℕ) (os : List Object) (k : ℕ) (d : Object)
    → AllByRecursion (λ y. bytes_eq id y ≡ false) (ids os) → k < length os
    → bytes_eq (get_or os k d).id id ≡ false
differs_at id [] k d all l = absurd (omega (arith, l))
differs_at id (o ∷ os) zero d all l = apart (bytes_eq o.id id) (λ e.
    let back : bytes_eq id o.id ≡ true =
    (bytes_eq-Decides id o.id).1 (sym ((bytes_eq-Decides o.id id).0 e)) in
    let w = sym back ∙ all.0 in cc)
differs_at id (o ∷ os) (suc k) d all l = differs_at id os k d all.1 (omega (arith, l))

pub place_at : (os : List Object) (k : ℕ) (d : Object) → IsDistinct bytes_eq (ids os)
    → k < length os → place_of (get_or os k d).id os ≡ k
unfolding IsDistinct
place_at [] k d distinct l = absurd (omega (arith, l))
place_at (o ∷ os) zero d distinct l =
    first_place o.id o os ((bytes_eq-Decides o.id o.id).1 refl)
place_at (o ∷ os) (suc k) d distinct l =
    let within : k < length os = omega (arith, l) in
    later_place (get_or os k d).id o os (differs_at o.id os k d distinct.0 within)
    ∙ ap suc (place_at os k d distinct.1 within)

-- the place of the name at a place
pub place_again : (os : List Object) (k : ℕ) → IsDistinct bytes_eq (ids os) → k < length os
    → (d : Object)
    → place_of (option_map_or (λ o. o.id) (slice_get os k) []) os ≡ k
place_again os k distinct l d =
    ap (λ (o : Option Object). place_of (option_map_or (λ x. x.id) o []) os)
    (slice_get-get_or os k d l) ∙ place_at os k d distinct l
