-- How expressions and ranges are read: gitrevisions(7).
use Rattle.std.specs.Prelude.{◌≡◌, true, false, ℕ, ◌^◌, ◌≤◌, ◌==◌, ◌&&◌, ◌||◌, not, nat_lt, nat_le, nat_eq, Bool, if◌then◌else◌, List, [], ◌∷◌, ◌++◌, length, drop, Option, None, Some, codes}
use Rattle.std.specs.List.{list_any, starts_with, before_first, after_first}
use Rattle.std.specs.Option.{option_map, option_and_then}
use Rattle.std.specs.Str.{bytes_eq}
use Rattle.numerals.specs.Numbers.{number_of}
use Rattle.git_model.specs.declared.kind.Kind.TheVariants as kind
use Rattle.git_model.specs.Bytes.{holds}
use Rattle.git_paths.specs.Reading.{canonical_path}
use Rattle.revisions.specs.declared.suffix.Suffix.{Suffix}
use Rattle.revisions.specs.declared.suffix.Suffix.TheVariants.{Parent, Ancestor, PeelTo, PeelTags, Itself, AtPath}
use Rattle.revisions.specs.declared.commit_range.Range.{Range}
use Rattle.revisions.specs.declared.commit_range.Range.TheVariants.{From, Between, Either}
use Rattle.revisions.specs.Expressions.{Expression, head}

-- ---- one suffix

-- <n>: no digits mean 1; else at most ten, with a value below 2^32.
abbrev pub in_32_bits : ℕ → Option ℕ
in_32_bits number = if nat_lt number (2 ^ 32) then Some number else None

unfoldable pub count_of : List ℕ → Option ℕ
count_of [] = Some 1
count_of (digit ∷ digits) =
    if nat_le (length (digit ∷ digits)) 10
    then option_and_then in_32_bits (number_of (digit ∷ digits)) else None

-- {<type>}, with both braces
unfoldable pub braced : List ℕ → Option Suffix
braced text =
    if bytes_eq text (codes "{commit}") then Some (PeelTo kind.Commit)
    else if bytes_eq text (codes "{tree}") then Some (PeelTo kind.Tree)
    else if bytes_eq text (codes "{blob}") then Some (PeelTo kind.Blob)
    else if bytes_eq text (codes "{tag}") then Some (PeelTo kind.Tag)
    else if bytes_eq text (codes "{object}") then Some Itself
    else if bytes_eq text (codes "{}") then Some PeelTags
    else None

-- What stands after a `^`: a type in braces, or which parent.
unfoldable pub after_caret : List ℕ → Option Suffix
after_caret text =
    if starts_with nat_eq text (codes "{") then braced text else option_map Parent (count_of text)

-- A piece of an expression begins with `^` or `~`.
unfoldable pub suffix_of : List ℕ → Option Suffix
suffix_of [] = None
suffix_of (byte ∷ text) =
    if byte == 94 then after_caret text else option_map Ancestor (count_of text)

-- Each piece must be a suffix.
abbrev pub with_suffix : Suffix → Option (List Suffix) → Option (List Suffix)
with_suffix suffix None = None
with_suffix suffix (Some suffixes) = Some (suffix ∷ suffixes)

abbrev pub suffixes_of : List (List ℕ) → Option (List Suffix)
suffixes_of [] = Some []
suffixes_of (piece ∷ pieces) =
    option_and_then (λ suffix. with_suffix suffix (suffixes_of pieces)) (suffix_of piece)

-- ---- an expression

-- A text that is cut before each `^` and `~`: what stands before the first of them, and the pieces.
pub record Cut : Type 0 where
  pub front : List ℕ
  pub pieces : List (List ℕ)

abbrev pub is_mark : ℕ → Bool
is_mark byte = byte == 94 || byte == 126

unfoldable pub with_byte : ℕ → Cut → Cut
with_byte byte later =
    if is_mark byte
    then record { front = []; pieces = (byte ∷ later.front) ∷ later.pieces }
    else record { front = byte ∷ later.front; pieces = later.pieces }

abbrev pub cut : List ℕ → Cut
cut [] = record { front = []; pieces = [] }
cut (byte ∷ bytes) = with_byte byte (cut bytes)

-- A piece is a mark, and bytes that are none.
abbrev pub IsPiece : List ℕ → Type 0
IsPiece [] = ⊥
IsPiece (byte ∷ bytes) = (is_mark byte ≡ true) × (list_any is_mark bytes ≡ false)

-- A base is not empty and holds no `@{`.
abbrev pub is_base : List ℕ → Bool
is_base text = not (bytes_eq text []) && not (holds text (codes "@{"))

abbrev pub is_colon : ℕ → Bool
is_colon byte = byte == 58

-- What stands after the first colon, where there is one.
abbrev pub after_colon : List ℕ → Option (List ℕ)
after_colon text = if list_any is_colon text then Some (after_first is_colon text) else None

-- The path is taken as it is, and quotes in it mean themselves. It may be empty.
abbrev pub path_suffix : Option (List ℕ) → Option (List Suffix)
path_suffix None = Some []
path_suffix (Some bytes) = option_map (λ path. AtPath path ∷ []) (canonical_path bytes)

-- The suffixes before the first colon, and then the path.
abbrev pub all_suffixes : List (List ℕ) → Option (List ℕ) → Option (List Suffix)
all_suffixes pieces path = option_and_then (λ suffixes.
    option_map (λ last. suffixes ++ last) (path_suffix path)) (suffixes_of pieces)

-- The expression that a text is, where it is one.
unfoldable pub expression_of : List ℕ → Option Expression
expression_of text = let parts = cut (before_first is_colon text) in
    if is_base parts.front
    then option_map (λ suffixes. record { base = parts.front; suffixes = suffixes })
    (all_suffixes parts.pieces (after_colon text)) else None

-- ---- a range

-- What is before and after the first occurrence of a part in a text, where it occurs.
abbrev pub before_both : ℕ → Option (List ℕ × List ℕ) → Option (List ℕ × List ℕ)
before_both byte None = None
before_both byte (Some sides) = Some (byte ∷ sides.0, sides.1)

unfoldable pub parted : List ℕ → List ℕ → Option (List ℕ × List ℕ)
parted part [] = None
parted part (byte ∷ bytes) =
    if starts_with nat_eq (byte ∷ bytes) part
    then Some ([], drop (length part) (byte ∷ bytes))
    else before_both byte (parted part bytes)

-- A text is parted at the first occurrence of a part: what is before it, the part and what is after
-- it are the text, and no occurrence of the part has less before it.
pub record IsPartedAtFirst (part text before after : List ℕ) : Type 0 where
  pub whole : text ≡ before ++ (part ++ after)
  pub first : (other rest : List ℕ) → text ≡ other ++ (part ++ rest)
      → length before ≤ length other

-- One side may be empty, and then means HEAD; both may not.
abbrev pub side_of : List ℕ → Option Expression
side_of [] = Some head
side_of (byte ∷ bytes) = expression_of (byte ∷ bytes)

abbrev pub sides_of : List ℕ → List ℕ → Option (Expression × Expression)
sides_of [] [] = None
sides_of left right =
    option_and_then (λ l. option_map (λ r. (l, r)) (side_of right)) (side_of left)

abbrev pub between_of : List ℕ → List ℕ → Option (Range Expression)
between_of left right = option_map (λ sides. Between sides.0 sides.1) (sides_of left right)

abbrev pub either_of : List ℕ → List ℕ → Option (Range Expression)
either_of left right = option_map (λ sides. Either sides.0 sides.1) (sides_of left right)

-- A third dot after the two makes it the form with three.
unfoldable pub dotted : List ℕ → List ℕ → Option (Range Expression)
dotted left right =
    if starts_with nat_eq right (codes ".") then either_of left (drop 1 right)
    else between_of left right

abbrev pub range_from : List ℕ → Option (List ℕ × List ℕ) → Option (Range Expression)
range_from text None = option_map From (expression_of text)
range_from text (Some sides) = dotted sides.0 sides.1

-- The range that a text is, where it is one. It is parted at its first `..`, even inside a path.
abbrev pub range_of : List ℕ → Option (Range Expression)
range_of text = range_from text (parted (codes "..") text)
