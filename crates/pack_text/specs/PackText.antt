-- A pack without deltas and without compression: gitformat-pack(5), version 2.
use Rattle.std.specs.Prelude.{ℕ, zero, suc, ◌+◌, ◌*◌, ◌/◌, ◌%◌, ◌-◌, ◌==◌, nat_le, List, [], ◌∷◌, ◌++◌, length, take, drop, codes, if◌then◌else◌}
use Rattle.std.specs.Int.{w16, w32, to_be_bytes, to_le_bytes}
use Rattle.std.specs.List.{flat_map}
use Rattle.git_model.specs.declared.kind.Kind.{Kind}
use Rattle.git_model.specs.declared.kind.Kind.TheVariants as kind
use Rattle.git_model.specs.Content.{Content}
use Rattle.pack_text.specs.Adler.{adler32}

-- ---- a zlib stream

-- A stored block: a byte that is 1 on the last block and 0 on the others, the length, its one's
-- complement, and the bytes. RFC 1951, 3.2.3 and 3.2.4.
abbrev pub block_text : ℕ → List ℕ → List ℕ
block_text last bytes = last ∷ to_le_bytes w16 (length bytes)
    ++ (to_le_bytes w16 (65535 - length bytes) ++ bytes)

-- Bytes in stored blocks: all but the last have 65,535 bytes, the most that fit. The number bounds
-- how many blocks come before the last one.
unfoldable pub blocks_text : ℕ → List ℕ → List ℕ
blocks_text zero bytes = block_text 1 bytes
blocks_text (suc n) bytes =
    if nat_le (length bytes) 65535 then block_text 1 bytes
    else block_text 0 (take 65535 bytes) ++ blocks_text n (drop 65535 bytes)

-- A zlib stream: two bytes for a window of 32 KiB and the fastest level, the blocks, and the
-- checksum. RFC 1950, 2.2.
abbrev pub zlib_text : List ℕ → List ℕ
zlib_text bytes =
    0x78 ∷ 0x01 ∷ blocks_text (length bytes) bytes ++ to_be_bytes w32 (adler32 bytes)

-- ---- an entry: gitformat-pack(5), "pack-*.pack files have the following format"

-- The type of an object: "Object types".
abbrev pub number_of : Kind → ℕ
number_of kind.Commit = 1
number_of kind.Tree = 2
number_of kind.Blob = 3
number_of kind.Tag = 4

-- A byte, and then the rest of a size, seven bits in a byte, the lowest first. A byte that another
-- one follows has 128 more: "Size encoding". The first number bounds how many bytes follow.
unfoldable pub size_text : ℕ → ℕ → ℕ → List ℕ
size_text zero byte rest = byte ∷ []
size_text (suc n) byte rest =
    if rest == 0 then byte ∷ [] else (byte + 128) ∷ size_text n (rest % 128) (rest / 128)

-- The type and the size: three bits of type and four of size in the first byte. With ten more
-- bytes, every size below 2^74 fits.
abbrev pub head_text : Kind → ℕ → List ℕ
head_text kind size = size_text 10 (number_of kind * 16 + size % 16) (size / 16)

-- An object that is stored whole: its type and size, and its contents as a zlib stream.
abbrev pub entry_text : Content → List ℕ
entry_text content = head_text content.kind (length content.bytes) ++ zlib_text content.bytes

-- ---- a pack

-- The header: the signature, the version and the number of entries.
abbrev pub header_text : ℕ → List ℕ
header_text count = codes "PACK" ++ (to_be_bytes w32 2 ++ to_be_bytes w32 count)

-- All bytes before the digest: the header, and an entry for each object.
abbrev pub pack_body : List Content → List ℕ
pack_body contents = header_text (length contents) ++ flat_map entry_text contents

-- A pack ends with the digest of all bytes before it.
abbrev pub pack_text : (List ℕ → List ℕ) → List Content → List ℕ
pack_text digest contents = pack_body contents ++ digest (pack_body contents)
