-- Lists in the order of their keys, which are bytes.
use Rattle.std.specs.Prelude.{ℕ, List, map, IsTrue}
use Rattle.std.specs.Ordering.{nat_cmp}
use Rattle.std.specs.Cmp.Lexicographic.{slice_cmp}
use Rattle.std.specs.FinMap as finite

-- A list in rising order of its keys. Of several elements with one key, the first.
unfoldable pub listed_by : {X : Type 0} → (X → List ℕ) → List X → List X
listed_by key xs =
    finite.values (finite.from_entries {R = slice_cmp nat_cmp} (map (λ x. (key x, x)) xs))

-- The keys of a list rise.
abbrev pub IsInOrder : {X : Type 0} → (X → List ℕ) → List X → Type 0
IsInOrder key xs = IsTrue (finite.is_sorted (slice_cmp nat_cmp) (map (λ x. (key x, x)) xs))
