-- The position of a ref in a list of refs in the order of their bytes.
use Rattle.std.specs.Prelude.{◌≡◌, ℕ, List, [], ◌∷◌, ◌++◌, length, IsTrue, Bool, false, not}
use Rattle.std.specs.Ordering.{nat_cmp, is_lt}
use Rattle.std.specs.FinMap.{is_sorted}
use Rattle.std.specs.List.{AllByRecursion}
use Rattle.std.specs.Cmp.Lexicographic.{slice_cmp}
use Rattle.std.specs.declared.cmp.Ordering.TheVariants.{Less, Greater}

-- Refs with the object name that each holds.
abbrev pub Entries : Type 0
Entries = List (List ℕ × List ℕ)

-- The refs are in the order of their bytes, and none is there twice.
abbrev pub IsInOrder : Entries → Type 0
IsInOrder entries = IsTrue (is_sorted (slice_cmp nat_cmp) entries)

-- The ref is at this position: its entry comes after so many entries.
pub record IsPlaceOf (entries : Entries) (ref : List ℕ) (position : ℕ) : Type 0 where
  pub before : Entries
  pub target : List ℕ
  pub after : Entries
  pub stands : entries ≡ before ++ (ref, target) ∷ after
  pub position_is : length before ≡ position

-- The ref would go to this position: the entries before it are lower than the ref, and the others
-- are higher.
pub record IsGapFor (entries : Entries) (ref : List ℕ) (position : ℕ) : Type 0 where
  pub before : Entries
  pub after : Entries
  pub parts : entries ≡ before ++ after
  pub position_is : length before ≡ position
  pub below : AllByRecursion (λ entry. slice_cmp nat_cmp ref entry.0 ≡ Greater) before
  pub above : AllByRecursion (λ entry. slice_cmp nat_cmp ref entry.0 ≡ Less) after

-- The refs of all entries are above this ref.
abbrev pub AreAbove : List ℕ → Entries → Type 0
AreAbove ref entries = AllByRecursion (λ entry. slice_cmp nat_cmp ref entry.0 ≡ Less) entries

-- Whether there is a first entry, and its ref is not above this ref.
abbrev pub starts_up_to : List ℕ → Entries → Bool
starts_up_to ref [] = false
starts_up_to ref (entry ∷ rest) = not (is_lt (slice_cmp nat_cmp ref entry.0))
