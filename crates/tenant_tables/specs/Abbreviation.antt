-- Abbreviated object names: gitrevisions(7), "<sha1>".
use Rattle.std.specs.Prelude.{ℕ, ◌≡◌, ◌/◌, ◌%◌, Bool, List, [], ◌∷◌, Some, filter, map, nat_eq}
use Rattle.std.specs.BTreeMap.Range.{IsLeBy, range_contains}
use Rattle.std.specs.Cmp.Lexicographic.{slice_cmp}
use Rattle.std.specs.declared.ops.Bound.TheVariants.{Included}
use Rattle.std.specs.Ordering.{nat_cmp}
use Rattle.git_model.specs.ObjectName.{IsObjectName}
use Rattle.std.specs.List.{starts_with}
use Rattle.std.specs.Option.{option_eq}
use Rattle.hex.specs.Hex.{hex_digit_value}
use Rattle.tenant_tables.specs.declared.found.Found.{Found}
use Rattle.tenant_tables.specs.declared.found.Found.TheVariants as found

-- A name in half bytes. Each hexadecimal digit writes one.
abbrev pub half_bytes : List ℕ → List ℕ
half_bytes [] = []
half_bytes (byte ∷ bytes) = byte / 16 ∷ byte % 16 ∷ half_bytes bytes

-- Digits of either case abbreviate a name if its half bytes begin with their values.
unfoldable pub begins : List ℕ → List ℕ → Bool
begins digits id = starts_with (option_eq nat_eq) (map Some (half_bytes id))
    (map hex_digit_value digits)

-- None, the only one, or many.
abbrev pub only_of : List (List ℕ) → Found
only_of [] = found.None
only_of (id ∷ []) = found.One id
only_of (id ∷ other ∷ more) = found.Many

-- What digits find among names: the names that begin with them.
abbrev pub found_among : List ℕ → List (List ℕ) → Found
found_among digits ids = only_of (filter (begins digits) ids)

-- The object names that begin with the digits are exactly those from the first to the last.
pub record Bounds (digits : List ℕ) (first last : List ℕ) : Type 0 where
  pub forward : IsLeBy (slice_cmp nat_cmp) first last
  pub between : (id : List ℕ) → IsObjectName id
      → range_contains (slice_cmp nat_cmp) (Included first) (Included last) id ≡ begins digits id
