-- How a delta makes one text of another: gitformat-pack(5), "Deltified representation".
use Rattle.std.specs.Prelude.{ℕ, zero, suc, ◌+◌, ◌*◌, ◌/◌, ◌%◌, ◌==◌, ◌||◌, nat_lt, nat_le, Bool, true, false, if◌then◌else◌, List, [], ◌∷◌, ◌++◌, length, take, drop, Option, None, Some}
use Rattle.std.specs.Option.{option_map, option_and_then}

-- What is read from the front of a text: a value, and the bytes after it.
abbrev pub Taken : Type 0 → Type 0
Taken A = Option (A × List ℕ)

-- ---- numbers

-- A size has seven bits in each byte, the lowest first. A byte that another one follows has 128
-- more. The first number is how many bytes it may have.
unfoldable pub size_in : ℕ → List ℕ → Taken ℕ
size_in zero text = None
size_in (suc n) [] = None
size_in (suc n) (byte ∷ rest) =
    if nat_lt byte 128 then Some (byte, rest)
    else option_map (λ more. (byte % 128 + 128 * more.0, more.1)) (size_in n rest)

-- Five bytes are enough for 2^35 - 1, and contents have fewer than 2^28 bytes.
abbrev pub take_size : List ℕ → Taken ℕ
take_size text = size_in 5 text

-- A byte of an offset or of a size of a copy is told if its bit is set, and else it is 0.
abbrev pub is_told : ℕ → ℕ → Bool
is_told code bit = code / bit % 2 == 1

abbrev pub byte_if : Bool → List ℕ → Taken ℕ
byte_if false text = Some (0, text)
byte_if true [] = None
byte_if true (byte ∷ rest) = Some (byte, rest)

-- The lowest byte comes first.
abbrev pub two_bytes : ℕ → ℕ → ℕ → List ℕ → Taken ℕ
two_bytes code low high text =
    option_and_then (λ a. option_map (λ b. (a.0 + 256 * b.0, b.1)) (byte_if (is_told code high) a.1))
    (byte_if (is_told code low) text)

-- An offset has four bytes, and a size three.
abbrev pub offset_in : ℕ → List ℕ → Taken ℕ
offset_in code text =
    option_and_then (λ a. option_map (λ b. (a.0 + 65536 * b.0, b.1)) (two_bytes code 4 8 a.1))
    (two_bytes code 1 2 text)

abbrev pub copy_size_in : ℕ → List ℕ → Taken ℕ
copy_size_in code text =
    option_and_then (λ a. option_map (λ b. (a.0 + 65536 * b.0, b.1)) (byte_if (is_told code 64) a.1))
    (two_bytes code 16 32 text)

-- ---- instructions

-- So many bytes of the base from an offset on, if it has them.
abbrev pub part_of : List ℕ → ℕ → ℕ → Option (List ℕ)
part_of base offset size =
    if nat_le (offset + size) (length base) then Some (take size (drop offset base)) else None

-- A copy of no bytes is one of 65536.
abbrev pub or_65536 : ℕ → ℕ
or_65536 size = if size == 0 then 65536 else size

-- A first byte from 128 on copies a part of the base. Its other bits say which bytes of the offset
-- and of the size follow.
abbrev pub copied : List ℕ → ℕ → List ℕ → Taken (List ℕ)
copied base code text =
    option_and_then (λ offset. option_and_then (λ size.
    option_map (λ part. (part, size.1)) (part_of base offset.0 (or_65536 size.0)))
    (copy_size_in code offset.1)) (offset_in code text)

-- A first byte from 1 to 127 is followed by so many bytes, which are inserted. 0 is reserved.
abbrev pub inserted : ℕ → List ℕ → Taken (List ℕ)
inserted count text =
    if count == 0 || nat_lt (length text) count then None else Some (take count text, drop count text)

abbrev pub part_in : List ℕ → ℕ → List ℕ → Taken (List ℕ)
part_in base code rest = if nat_lt code 128 then inserted code rest else copied base code rest

-- The parts that instructions make, one after another. The number is how many there may be at most.
unfoldable pub parts_in : ℕ → List ℕ → List ℕ → Option (List ℕ)
parts_in n base [] = Some []
parts_in zero base (code ∷ rest) = None
parts_in (suc n) base (code ∷ rest) =
    option_and_then (λ first. option_map (λ more. first.0 ++ more) (parts_in n base first.1))
    (part_in base code rest)

-- Each instruction has a byte at least.
abbrev pub made_by : List ℕ → List ℕ → Option (List ℕ)
made_by base instructions = parts_in (length instructions) base instructions

-- ---- a delta

-- The two sizes that a delta begins with, and its instructions.
pub record Front : Type 0 where
  pub base : ℕ
  pub size : ℕ
  pub instructions : List ℕ

abbrev pub front_of : List ℕ → Option Front
front_of delta =
    option_and_then (λ base. option_map
    (λ size. record { base = base.0; size = size.0; instructions = size.1 })
    (take_size base.1)) (take_size delta)

-- A text that has the size which the delta told.
abbrev pub of_size : ℕ → List ℕ → Option (List ℕ)
of_size size text = if length text == size then Some text else None

abbrev pub made_from : List ℕ → Front → Option (List ℕ)
made_from base front =
    if front.base == length base
    then option_and_then (of_size front.size) (made_by base front.instructions) else None

-- What a delta makes of its base: nothing if it is cut, if it was made for a base of another size,
-- if it copies what the base does not have, or if it makes a text of another size than it told.
abbrev pub patched : List ℕ → List ℕ → Option (List ℕ)
patched base delta = option_and_then (made_from base) (front_of delta)

-- The size that a delta tells of what it makes.
abbrev pub size_told : List ℕ → Option ℕ
size_told delta = option_map (λ front. front.size) (front_of delta)
