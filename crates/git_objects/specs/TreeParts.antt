-- The parts of a tree entry's text, each with the byte that ends it.
use Rattle.std.specs.Prelude.{◌≡◌, ◌==◌, ◌||◌, ◌⊎◌, ℕ, Bool, List, [], ◌∷◌, ◌++◌, length, Any, codes}
use Rattle.std.specs.List.{AllAdjacentBelow}
use Rattle.std.specs.declared.cmp.Ordering.TheVariants.{Less}
use Rattle.git_model.specs.declared.file_mode.FileMode.{FileMode}
use Rattle.git_model.specs.declared.file_mode.FileMode.TheVariants as mode
use Rattle.git_model.specs.Tree.{TreeEntry, mode_digits, order_key, tree_cmp}

abbrev pub mode_text : FileMode → List ℕ
mode_text mode = mode_digits mode ++ codes " "

abbrev pub name_text : List ℕ → List ℕ
name_text name = name ++ 0 ∷ []

-- No name has a NUL or a slash.
abbrev pub ends_name : ℕ → Bool
ends_name byte = (byte == 0) || (byte == 47)

-- The names that stand for a directory itself and for the one above it, and the empty name.
abbrev pub IsReserved : List ℕ → Type 0
IsReserved name = (name ≡ []) ⊎ ((name ≡ codes ".") ⊎ (name ≡ codes ".."))

-- Each entry comes before the next, so no two compare as equal.
abbrev pub AreInOrder : List TreeEntry → Type 0
AreInOrder es = AllAdjacentBelow (λ a b. tree_cmp a b ≡ Less) es (length es)

-- The twin of a directory is a file of the same name: its order key is that name without a slash.
abbrev pub HasTwin : List TreeEntry → TreeEntry → Type 0
HasTwin es e = (e.mode ≡ mode.Directory) × Any (λ other. order_key other ≡ e.name) es

-- An entry can follow the entries of a tree if it comes after them and has no twin among them.
abbrev pub CanFollow : List TreeEntry → TreeEntry → Type 0
CanFollow es e = AreInOrder (es ++ e ∷ []) × (HasTwin es e → ⊥)
