-- Reading a pack: what bytes say to a reader of gitformat-pack(5), RFC 1950 and RFC 1951. It refuses
-- deltas, compressed blocks and every version but 2.
use Rattle.std.specs.Prelude.{ℕ, zero, suc, ◌+◌, ◌-◌, ◌*◌, ◌/◌, ◌%◌, ◌==◌, ◌&&◌, nat_lt, nat_le, List, [], ◌∷◌, ◌++◌, length, take, drop, find, Option, None, Some, codes, option_and_then, if◌then◌else◌}
use Rattle.std.specs.Int.{w16, w32, from_be_bytes, from_le_bytes}
use Rattle.std.specs.Option.{option_map}
use Rattle.std.specs.Str.{bytes_eq}
use Rattle.git_model.specs.declared.kind.Kind.{Kind}
use Rattle.git_model.specs.declared.kind.Kind.TheVariants as kind
use Rattle.git_model.specs.Content.{Content, content_from}
use Rattle.pack_text.specs.Adler.{adler32}
use Rattle.pack_text.specs.PackText.{number_of}

-- What was read, and the bytes after it.
abbrev pub Read : Type 0 → Type 0
Read A = Option (A × List ℕ)

-- ---- the type and the size of an entry

-- The rest of a size: seven bits in a byte, the lowest first, up to a byte below 128. The number
-- bounds how many bytes that takes.
unfoldable pub rest_read : ℕ → List ℕ → Read ℕ
rest_read n [] = None
rest_read zero (b ∷ bs) = None
rest_read (suc n) (b ∷ bs) = if nat_lt b 128 then Some (b, bs)
    else option_map (λ r. (b % 128 + 128 * r.0, r.1)) (rest_read n bs)

-- The first byte has the type and four bits of the size, and 128 more if a rest follows.
abbrev pub head_read : List ℕ → Read (ℕ × ℕ)
head_read [] = None
head_read (b ∷ bs) = if nat_lt b 128 then Some ((b / 16, b % 16), bs)
    else option_map (λ r. ((b / 16 % 8, b % 16 + 16 * r.0), r.1)) (rest_read 10 bs)

-- ---- a zlib stream

-- The bytes of a block that has this length, and those after it. The length must stand with its
-- complement, and so many bytes must be there.
abbrev pub block_read : ℕ → ℕ → List ℕ → Read (List ℕ)
block_read size complement bs = if size + complement == 65535 && nat_le size (length bs)
    then Some (take size bs, drop size bs) else None

-- Stored blocks up to the last one, which 1 stands before; 0 stands before the others. The number
-- bounds how many there are.
unfoldable pub blocks_read : ℕ → List ℕ → Read (List ℕ)
blocks_read (suc n) (last ∷ a ∷ b ∷ c ∷ d ∷ bs) = option_and_then (λ r.
    if last == 1 then Some r
    else if last == 0 then option_map (λ more. (r.0 ++ more.0, more.1)) (blocks_read n r.1)
    else None)
    (block_read (from_le_bytes w16 (a ∷ b ∷ [])) (from_le_bytes w16 (c ∷ d ∷ [])) bs)
blocks_read n bs = None

-- The checksum of what was read must come next.
abbrev pub checked : (List ℕ × List ℕ) → Read (List ℕ)
checked r = if nat_le 4 (length r.1) && (from_be_bytes w32 (take 4 r.1) == adler32 r.0)
    then Some (r.0, drop 4 r.1) else None

abbrev pub zlib_read : List ℕ → Read (List ℕ)
zlib_read bs = if bytes_eq (take 2 bs) (0x78 ∷ 0x01 ∷ [])
    then option_and_then checked (blocks_read (length bs) (drop 2 bs)) else None

-- ---- an entry, and a pack

-- The kind of object with this type.
abbrev pub kind_of : ℕ → Option Kind
kind_of n = find (λ k. number_of k == n) (kind.Commit ∷ kind.Tree ∷ kind.Blob ∷ kind.Tag ∷ [])

-- The rest of an entry: its contents must have the size that was read.
abbrev pub entry_of : ((ℕ × ℕ) × List ℕ) → Read Content
entry_of head = option_and_then (λ r. if length r.0 == head.0.1
    then option_map (λ k. (content_from k r.0, r.1)) (kind_of head.0.0) else None)
    (zlib_read head.1)

abbrev pub entry_read : List ℕ → Read Content
entry_read bs = option_and_then entry_of (head_read bs)

-- So many entries, one after another.
unfoldable pub entries_read : ℕ → List ℕ → Read (List Content)
entries_read zero bs = Some ([], bs)
entries_read (suc n) bs = option_and_then (λ e.
    option_map (λ r. (e.0 ∷ r.0, r.1)) (entries_read n e.1)) (entry_read bs)

-- After the entries comes the digest of all bytes before it, and nothing else.
abbrev pub sealed : (List ℕ → List ℕ) → List ℕ → (List Content × List ℕ) → Option (List Content)
sealed digest text r =
    if bytes_eq r.1 (digest (take (length text - length r.1) text)) then Some r.0 else None

-- A whole pack: the signature and the version, the number of entries, as many entries, the digest.
abbrev pub pack_read : (List ℕ → List ℕ) → List ℕ → Option (List Content)
pack_read digest text =
    if bytes_eq (take 8 text) (codes "PACK" ++ 0 ∷ 0 ∷ 0 ∷ 2 ∷ []) && nat_le 12 (length text)
    then option_and_then (sealed digest text)
    (entries_read (from_be_bytes w32 (take 4 (drop 8 text))) (drop 12 text))
    else None
