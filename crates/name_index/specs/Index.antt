-- What contracts see of an index of names.
use Rattle.std.specs.Prelude.{◌≡◌, ◌≤◌, ◌+◌, ◌/◌, ◌==◌, ◌++◌, ◌∷◌, [], ℕ, ◌&&◌, Bool, if◌then◌else◌, max, true, false, List, not, take, drop, length, IsPermutation}
use Rattle.std.specs.Cmp.Lexicographic.{slice_cmp}
use Rattle.std.specs.List.{flat_map}
use Rattle.std.specs.Ordering.{nat_cmp, is_lt, is_le}
use Rattle.std.specs.Str.{bytes_eq}
use Rattle.name_index.specs.declared.found.Between.{Between}
use Rattle.name_index.specs.declared.found.Between.TheVariants as found

-- Whether a name is before the first in the order of their bytes.
abbrev pub is_before : List ℕ → List ℕ → Bool
is_before first id = is_lt (slice_cmp nat_cmp id first)

-- Whether a name is not after the last.
abbrev pub is_up_to : List ℕ → List ℕ → Bool
is_up_to last id = is_le (slice_cmp nat_cmp id last)

-- Whether a name is between two, or one of them.
abbrev pub is_between : List ℕ → List ℕ → List ℕ → Bool
is_between first last id = not (is_before first id) && is_up_to last id

-- The names of all runs.
abbrev pub names_of : List (List (List ℕ)) → List (List ℕ)
names_of runs = flat_map (λ run. run) runs

-- None, the only one, or many.
abbrev pub two_of : List (List ℕ) → Between
two_of [] = found.None
two_of (id ∷ []) = found.One id
two_of (id ∷ other ∷ more) = found.Many

-- What is found with more names.
abbrev pub with_more : Between → List (List ℕ) → Between
with_more b [] = b
with_more found.None (id ∷ more) = two_of (id ∷ more)
with_more (found.One only) (id ∷ more) = found.Many
with_more found.Many (id ∷ more) = found.Many

-- How many leading hexadecimal digits two names share.
abbrev pub shared_digits : List ℕ → List ℕ → ℕ
shared_digits [] other = 0
shared_digits (a ∷ id) [] = 0
shared_digits (a ∷ id) (b ∷ other) =
    if a == b then 2 + shared_digits id other else if a / 16 == b / 16 then 1 else 0

-- How many of them a name shares with another; 0 for the name itself.
abbrev pub shared_apart : List ℕ → List ℕ → ℕ
shared_apart id other = if bytes_eq other id then 0 else shared_digits id other

-- The most digits that one of these names, other than `id`, shares with it; 0 if there is no other.
abbrev pub most_shared : List ℕ → List (List ℕ) → ℕ
most_shared id [] = 0
most_shared id (other ∷ more) = max (shared_apart id other) (most_shared id more)

-- What contracts see of an index: the committed names, those of the open stream, and whether there
-- is room for one more.
pub record View : Type 0 where
  pub committed : List (List ℕ)
  pub added : List (List ℕ)
  pub room : Bool

-- The names in sight: all, or the committed ones.
abbrev pub in_sight : Bool → View → List (List ℕ)
in_sight true index = index.committed ++ index.added
in_sight false index = index.committed

-- The same names in another order.
pub record Reorders (old new : View) : Type 0 where
  pub committed : IsPermutation old.committed new.committed
  pub added : IsPermutation old.added new.added

-- What an index with these fields has committed, and what was added since.
abbrev pub committed_of : List (List (List ℕ)) → List (List ℕ) → ℕ → Bool → List (List ℕ)
committed_of runs few base true = names_of (take base runs) ++ few
committed_of runs few base false = names_of (take base runs)

abbrev pub added_of : List (List (List ℕ)) → List (List ℕ) → ℕ → Bool → List (List ℕ)
added_of runs few base true = []
added_of runs few base false = names_of (drop base runs) ++ few

-- Where the last few are committed, all runs are.
pub record IsIndex (runs : List (List (List ℕ))) (base : ℕ) (closed : Bool) : Type 0 where
  pub within : base ≤ length runs
  pub all : closed ≡ true → base ≡ length runs

-- Runs after a merge of the last ones, none of them below `floor`, with the last few names.
pub record Merges (floor : ℕ) (old new : List (List (List ℕ))) (few : List (List ℕ)) : Type 0 where
  pub kept : ℕ
  pub from : floor ≤ kept
  pub within : kept ≤ length old
  pub run : List (List ℕ)
  pub has : IsPermutation (names_of (drop kept old) ++ few) run
  pub runs : new ≡ take kept old ++ run ∷ []
