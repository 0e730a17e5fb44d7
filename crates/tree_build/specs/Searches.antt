-- The order of entries, on which a search for a name depends, for private contracts.
use Rattle.std.specs.Prelude.{◌≡◌, ◌≢◌, ℕ, ◌<◌, ◌-◌, Bool, true, false, not, List, All, Option, None, Some, length, slice_index_or}
use Rattle.std.specs.Cmp.Lexicographic.{slice_cmp}
use Rattle.std.specs.List.Sorted.{IsPartitionPoint}
use Rattle.std.specs.Ordering.{nat_cmp, is_lt}
use Rattle.tree_build.specs.declared.dir.Node.{Node}
use Rattle.tree_build.specs.declared.names.Found.{Found}
use Rattle.tree_build.specs.declared.names.Found.TheVariants as found
use Rattle.tree_build.specs.Shape.{Shape, none, row}
use Rattle.tree_build.specs.Branch.{slash_after, key_of, IsBeforeAll}
use Rattle.tree_build.specs.Nodes.{held}

-- The direct entries of a directory, and of each opened directory below it, are in Git's order and
-- have distinct names.
abbrev pub AreOrdered : Shape → Type 0
AreOrdered none = Unit {0}
AreOrdered (row c what inside rest) =
    IsBeforeAll c what rest × AreOrdered inside × AreOrdered rest

-- Whether an entry comes after this key in Git's order.
abbrev pub is_after : List ℕ → List ℕ × Node → Bool
is_after key e = is_lt (slice_cmp nat_cmp key (key_of e.0 (held e.1).what))

-- The entries from a place on come after this key, and no others do.
abbrev pub IsPlaceAfter : List ℕ → List (List ℕ × Node) → ℕ → Type 0
IsPlaceAfter key =
    IsPartitionPoint (λ e. not (is_after key e) ≡ true) (λ e. not (is_after key e) ≡ false)

-- The last entry, if there is one, has another name.
abbrev pub IsNotLast : List ℕ → List (List ℕ × Node) → Type 0
IsNotLast c es = (d : List ℕ × Node) → 0 < length es
    → (slice_index_or es (length es - 1) d).0 ≢ c

-- No entry has both this name and this ending: a slash for a directory, nothing for a file.
abbrev pub HasNone : List ℕ → List ℕ → List (List ℕ × Node) → Type 0
HasNone c slash = All (λ e. e.0 ≡ c → slash_after (held e.1).what ≢ slash)

-- The place that a search found.
abbrev pub place_found : Found → Option ℕ
place_found (found.At at) = Some at
place_found found.PastAll = None
place_found found.Absent = None
