-- What holds of all elements of a list, tested in turn.
use Rattle.std.proofs.Common.{◌≡◌, ℕ, ◌<◌, ◌+◌, suc, Bool, List, [], ◌∷◌, Option, None, Some, map, drop, length, get_or, refl, sym, ap, subst, ◌∙◌, drop-cons, arith}
use Rattle.std.specs.Prelude.{All, nat_lt}
use Rattle.std.specs.Bool.{Decides}
use Rattle.std.specs.List.{list_all}
use Rattle.std.proofs.lemmas.List.{get_or-map, length-map}
use Rattle.std.proofs.lemmas.List.Elements.{All-cons}
use Rattle.std.proofs.lemmas.List.Folds.{list_all-map}
use Rattle.std.proofs.lemmas.Bool.Decides.{Decides-at, Decides-by_and, Decides-ltb}
use Rattle.pool_file_checks.specs.Objects.{IsAfter}
use Rattle.pool_file_checks.specs.FileRefs.{AreRising}

pub decides_all : {X : Type 0} (p : X → Bool) (P : X → Type 0) → ((x : X) → Decides (p x) (P x))
    → (xs : List X) (b : Bool) → b ≡ list_all p xs → Decides b (All P xs)
decides_all p P each xs b e =
    Decides-at b (list_all p xs) e (Decides-by_and p P (list_all p) each refl (λ x xs. refl) xs)

pub decides_below : {X Y : Type 0} (shown : X → Y) (f : Y → ℕ) (count : ℕ) (xs : List X) (b : Bool)
    → b ≡ list_all (λ x. nat_lt (f (shown x)) count) xs → Decides b (All (λ y. f y < count) (map shown xs))
decides_below shown f count xs b e =
    decides_all (λ y. nat_lt (f y) count) (λ y. f y < count) (λ y. Decides-ltb (f y) count) (map shown xs) b
    (e ∙ sym (list_all-map (λ y. nat_lt (f y) count) shown xs))

-- ---- each element of the code's list

pub left_at : {X : Type 0} (xs : List X) (i : ℕ) (x : X) → i < length xs → x ≡ get_or xs i x
    → drop i xs ≡ x ∷ drop (i + 1) xs
left_at xs i x l e =
    let next : suc i ≡ i + 1 = omega arith in
    drop-cons xs i x l ∙ ap (λ y. y ∷ drop (suc i) xs) (sym e) ∙ ap (λ (n : ℕ). x ∷ drop n xs) next

-- Where those that are left hold, all do.
pub all_on : {X Y : Type 0} (shown : X → Y) (P : Y → Type 0) (xs : List X) (i : ℕ) (x : X) (whole : Type 0)
    → i < length xs → x ≡ get_or xs i x → P (shown x)
    → (All P (map shown (drop i xs)) → whole) → All P (map shown (drop (i + 1) xs)) → whole
all_on {X} shown P xs i x whole l e p before rest =
    before (subst (λ (ys : List X). All P (map shown ys)) (sym (left_at xs i x l e))
    (All-cons P (shown x) (map shown (drop (i + 1) xs)) p rest))

-- One that does not hold.
pub fails_at : {X Y : Type 0} (shown : X → Y) (P : Y → Type 0) (xs : List X) (i : ℕ) (x : X)
    → i < length xs → x ≡ get_or xs i x → ¬ P (shown x) → ¬ All P (map shown xs)
fails_at shown P xs i x l e not_one h =
    not_one (subst P (get_or-map shown xs i x (shown x) l ∙ ap shown (sym e)) (h i (shown x) (rw length-map l)))

-- ---- names that rise

-- The names that are left rise after the last one where all do.
pub record Rises (last : Option (List ℕ)) (rest whole : List (List ℕ)) : Type 0 where
  pub forth : AreRising last rest → AreRising None whole
  pub back : AreRising None whole → AreRising last rest

pub rises_start : (whole : List (List ℕ)) → Rises None whole whole
rises_start whole = record { forth = λ p. p; back = λ p. p }

pub rises_on : (last : Option (List ℕ)) (text : List ℕ) (rest whole : List (List ℕ))
    → Rises last (text ∷ rest) whole → IsAfter last text → Rises (Some text) rest whole
unfolding AreRising
rises_on last text rest whole r p = record { forth = λ q. r.forth (p, q); back = λ q. (r.back q).1 }

pub rises_not : (last : Option (List ℕ)) (text : List ℕ) (rest whole : List (List ℕ))
    → Rises last (text ∷ rest) whole → ¬ IsAfter last text → ¬ AreRising None whole
unfolding AreRising
rises_not last text rest whole r not_after q = not_after (r.back q).0

pub rises_end : (last : Option (List ℕ)) (whole : List (List ℕ)) → Rises last [] whole → AreRising None whole
unfolding AreRising
rises_end last whole r = r.forth tt
