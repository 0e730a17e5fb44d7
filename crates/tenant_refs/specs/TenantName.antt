-- Tenant names: the names of namespaces in gitnamespaces(7), with rules of gitpool.
use Rattle.std.specs.Prelude.{◌≡◌, ℕ, ◌≤◌, List, [], ◌∷◌, codes, Bool, true, false, ◌&&◌, ◌||◌, ◌==◌, not, nat_le, nat_eq, length}
use Rattle.std.specs.List.{slice_split, starts_with, list_all, AllByRecursion}
use Rattle.std.specs.Char.{is_ascii_alphanumeric}
use Rattle.git_model.specs.Bytes.{BeginsWith}
use Rattle.git_model.specs.Limits.{tenant_name_limit}

-- The parts of a tenant name are the texts between its slashes.
abbrev pub parts_of : List ℕ → List (List ℕ)
parts_of text = slice_split (λ byte. byte == 47) text

-- An ASCII letter or digit, a dash or an underscore.
abbrev pub is_part_byte : ℕ → Bool
is_part_byte byte = is_ascii_alphanumeric byte || byte == 45 || byte == 95

-- What holds of each part of a text.
abbrev pub EachPart : (List ℕ → Type 0) → List ℕ → Type 0
EachPart P text = AllByRecursion P (parts_of text)

-- A tenant name has at most 64 bytes, in one or more parts with slashes between them. The parts
-- have letters, digits, dashes and underscores. An empty text has one part, which is empty.
pub record IsTenantName (text : List ℕ) : Type 0 where
  pub no_part_is_empty : EachPart (λ part. ¬ (part ≡ [])) text
  pub no_part_begins_with_a_dash : EachPart (λ part. ¬ BeginsWith part (codes "-")) text
  pub only_part_bytes : EachPart (AllByRecursion (λ byte. is_part_byte byte ≡ true)) text
  pub at_most_64_bytes : length text ≤ tenant_name_limit

-- The same rules as a function.
abbrev pub is_part : List ℕ → Bool
is_part [] = false
is_part (byte ∷ rest) =
    not (starts_with nat_eq (byte ∷ rest) (codes "-")) && list_all is_part_byte (byte ∷ rest)

unfoldable pub is_tenant_name : List ℕ → Bool
is_tenant_name text = nat_le (length text) tenant_name_limit && list_all is_part (parts_of text)
