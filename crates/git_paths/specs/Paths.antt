-- Paths: git-fast-import(1), `M`, on the canonical form of a path.
-- A path is the list of its components from the root down, each a list of bytes; the root has none.
use Rattle.std.specs.Prelude.{ℕ, ◌≤◌, Bool, ◌&&◌, not, ◌==◌, nat_le, if◌then◌else◌, List, [], ◌∷◌, ◌++◌, length, All, Option, Some, None, codes}
use Rattle.std.specs.List.{join_with_byte, slice_split, list_any, list_all}
use Rattle.std.specs.Str.{bytes_eq}
use Rattle.git_model.specs.Limits.{path_bytes_limit, path_components_limit}
use Rattle.git_model.specs.Tree.{IsEntryName}

-- A component is what a tree entry may have as its name: it has no NUL and no `/`, and is not
-- empty, `.` or `..`.
abbrev pub IsComponent : List ℕ → Type 0
IsComponent name = IsEntryName name

-- A list is a path if each of its elements is a component.
abbrev pub IsPath : List (List ℕ) → Type 0
IsPath path = All IsComponent path

-- the bytes of a path: its components with `/` between them
abbrev pub joined : List (List ℕ) → List ℕ
joined path = join_with_byte 47 path

-- whether a byte is `/`
abbrev pub is_slash : ℕ → Bool
is_slash b = b == 47

-- the components between the slashes of some bytes; the empty text is the root
abbrev pub components_of : List ℕ → List (List ℕ)
components_of [] = []
components_of (b ∷ bytes) = slice_split is_slash (b ∷ bytes)

-- A path is within the limits if it has at most 16,383 bytes and 256 components.
pub record IsWithinLimits (path : List (List ℕ)) : Type 0 where
  pub bytes : length (joined path) ≤ path_bytes_limit
  pub components : length path ≤ path_components_limit

-- what the path q has after its prefix p, if p is a prefix of it
abbrev pub strip_prefix : List (List ℕ) → List (List ℕ) → Option (List (List ℕ))
strip_prefix [] q = Some q
strip_prefix (c ∷ p) [] = None
strip_prefix (c ∷ p) (d ∷ q) = if bytes_eq c d then strip_prefix p q else None

-- the bytes of one path followed by another
abbrev pub joined_both : List ℕ → List ℕ → List ℕ
joined_both [] rest = rest
joined_both (b ∷ top) [] = b ∷ top
joined_both (b ∷ top) (c ∷ rest) = (b ∷ top) ++ 47 ∷ c ∷ rest

-- ---- the same three facts as tests

-- whether the bytes between two slashes are a component
unfoldable pub is_part : List ℕ → Bool
is_part name =
    not (bytes_eq name []) && not (bytes_eq name (codes ".")) && not (bytes_eq name (codes ".."))
    && not (list_any (λ b. b == 0) name)

-- whether a name of bytes is a component
abbrev pub is_component : List ℕ → Bool
is_component name = is_part name && not (list_any is_slash name)

-- whether each of these names is a component
abbrev pub is_path : List (List ℕ) → Bool
is_path path = list_all is_component path

-- whether a path is within the limits
abbrev pub is_within_limits : List (List ℕ) → Bool
is_within_limits path =
    nat_le (length (joined path)) path_bytes_limit && nat_le (length path) path_components_limit
