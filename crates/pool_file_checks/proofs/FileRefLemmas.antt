-- The refs of a tenant in a file, with their names and places as the file says them.
use Rattle.std.proofs.Common.{◌≡◌, ℕ, ◌<◌, List, [], ◌∷◌, ◌++◌, map, length, drop, None, T, refl, sym, ap, subst, ◌∙◌}
use Rattle.std.specs.Prelude.{All}
use Rattle.std.specs.List.{IsDistinct}
use Rattle.std.specs.Str.{bytes_eq}
use Rattle.std.specs.FinMap.{entries-from_sorted, is_sorted}
use Rattle.std.proofs.lemmas.List.{drop_at}
use Rattle.std.proofs.lemmas.List.Elements.{All-head, All-tail}
use Rattle.git_model.specs.Repository.{Object}
use Rattle.git_model.specs.References.{no_object}
use Rattle.git_model.specs.RefStore.{listed_refs}
use Rattle.tenant_refs.specs.FullName.{namespaces, full_name}
use Rattle.pool_file_format.specs.Format.{RawObject, RawRef}
use Rattle.pool_file_checks.specs.FileRefs.{IsGoodRef, AreRising}
use Rattle.pool_file_checks.specs.Repositories.{Named, raw_ref}
use Rattle.pool_file_checks.specs.Saved.{ref_at, refs_at}
use Rattle.pool_file_checks.proofs.Keys.{key_cmp}
use Rattle.pool_file_checks.proofs.Rising.{sorted_rising, rising_without_front}
use Rattle.pool_file_checks.proofs.OwnObjects.{ids, place_again}

pub short_name : (tenant ref : List ℕ) → drop (length (namespaces tenant)) (full_name tenant ref) ≡ ref
unfolding full_name
short_name tenant ref = drop_at (namespaces tenant) ref (length (namespaces tenant)) refl

pub full_is : (tenant ref : List ℕ) → full_name tenant ref ≡ namespaces tenant ++ ref
unfolding full_name
full_is tenant ref = refl

-- without the namespaces of its tenant
abbrev pub shortened : List ℕ → RawRef → List ℕ
shortened tenant r = drop (length (namespaces tenant)) r.name

pub shortened_is : (os : List RawObject) (numbers : List ℕ) (tenant : List ℕ) (r : RawRef)
    → (g : IsGoodRef (namespaces tenant) os numbers r) → shortened tenant r ≡ g.ref
shortened_is os numbers tenant r g =
    ap (drop (length (namespaces tenant))) g.full
    ∙ drop_at (namespaces tenant) g.ref (length (namespaces tenant)) refl

whole_again : (os : List RawObject) (numbers : List ℕ) (tenant : List ℕ) (r : RawRef)
    → IsGoodRef (namespaces tenant) os numbers r → namespaces tenant ++ shortened tenant r ≡ r.name
whole_again os numbers tenant r g =
    ap (λ (l : List ℕ). namespaces tenant ++ l) (shortened_is os numbers tenant r g) ∙ sym g.full

names_again : (os : List RawObject) (numbers : List ℕ) (tenant : List ℕ) (rs : List RawRef)
    → All (IsGoodRef (namespaces tenant) os numbers) rs
    → map (λ r. r.name) rs ≡ map (λ a. namespaces tenant ++ a) (map (shortened tenant) rs)
names_again os numbers tenant [] all = refl
names_again os numbers tenant (r ∷ rs) all =
    let Good : RawRef → Type 0 = IsGoodRef (namespaces tenant) os numbers in
    let name = whole_again os numbers tenant r (All-head Good r rs all) in
    let rest = names_again os numbers tenant rs (All-tail Good r rs all) in
    λ i. sym name i ∷ rest i

keys_of_refs : (tenant : List ℕ) (own : List Object) (rs : List RawRef)
    → map (λ e. e.0) (map (ref_at tenant own) rs) ≡ map (shortened tenant) rs
keys_of_refs tenant own [] = refl
keys_of_refs tenant own (r ∷ rs) =
    ap (λ (l : List (List ℕ)). shortened tenant r ∷ l) (keys_of_refs tenant own rs)

module _ (os : List RawObject) (numbers : List ℕ) (tenant : List ℕ) (own : List Object)
    (rs : List RawRef) (good : All (IsGoodRef (namespaces tenant) os numbers) rs)
    (rising : AreRising None (map (λ r. r.name) rs)) where
  pub sorted_refs : T (is_sorted key_cmp (map (ref_at tenant own) rs))
  sorted_refs =
      sorted_rising None (map (ref_at tenant own) rs)
      (subst (AreRising None) (sym (keys_of_refs tenant own rs))
      (rising_without_front (namespaces tenant) None (map (shortened tenant) rs)
      (subst (AreRising None) (names_again os numbers tenant rs good) rising)))

  pub entries_are : (head : List ℕ)
      → listed_refs (refs_at tenant own rs head) ≡ map (ref_at tenant own) rs
  entries_are head = entries-from_sorted key_cmp (map (ref_at tenant own) rs) sorted_refs

-- ---- a ref of a file is the raw ref of what it says

ref_again : (os : List RawObject) (numbers : List ℕ) (n : Named) (r : RawRef)
    → IsGoodRef (namespaces n.tenant) os numbers r
    → IsDistinct bytes_eq (ids n.repository.objects) → r.place < length n.repository.objects
    → raw_ref n (ref_at n.tenant n.repository.objects r) ≡ r
ref_again os numbers n r g distinct l =
    let name = full_is n.tenant (shortened n.tenant r) ∙ whole_again os numbers n.tenant r g in
    let place = place_again n.repository.objects r.place distinct l no_object in
    λ i. record { name = name i; place = place i }

pub refs_again : (os : List RawObject) (numbers : List ℕ) (n : Named) (rs : List RawRef)
    → All (IsGoodRef (namespaces n.tenant) os numbers) rs
    → IsDistinct bytes_eq (ids n.repository.objects)
    → All (λ r. r.place < length n.repository.objects) rs
    → map (raw_ref n) (map (ref_at n.tenant n.repository.objects) rs) ≡ rs
refs_again os numbers n [] good distinct places = refl
refs_again os numbers n (r ∷ rs) good distinct places =
    let Good : RawRef → Type 0 = IsGoodRef (namespaces n.tenant) os numbers in
    let Within : RawRef → Type 0 = λ x. x.place < length n.repository.objects in
    let one = ref_again os numbers n r (All-head Good r rs good) distinct
    (All-head Within r rs places) in
    let rest = refs_again os numbers n rs (All-tail Good r rs good) distinct
    (All-tail Within r rs places) in
    λ i. one i ∷ rest i
