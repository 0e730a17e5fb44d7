-- Entries and whole packs are read back.
use Rattle.std.proofs.Common.{◌≡◌, ◌-◌, ◌^◌, ◌<◌, ℕ, suc, List, [], ◌∷◌, ◌++◌, length, take, Bool, true, None, Some, All, arith, refl, ap, sym, ◌∙◌, append_assoc}
use Rattle.std.specs.Prelude.{nat_le, ◌==◌, ◌&&◌, if◌then◌else◌, option_and_then}
use Rattle.std.specs.Int.{w32, from_be_bytes, to_be_bytes}
use Rattle.std.specs.List.{flat_map}
use Rattle.std.specs.Option.{option_map}
use Rattle.std.specs.Str.{bytes_eq}
use Rattle.std.proofs.lemmas.Bool.Decides.{nat_tests}
use Rattle.std.proofs.lemmas.Nat.{from_be_bytes-to_be_bytes_4}
use Rattle.std.proofs.lemmas.List.{length-append}
use Rattle.std.proofs.lemmas.List.Elements.{All-head, All-tail}
use Rattle.std.proofs.lemmas.Slice.Eq.{bytes_eq-Decides}
use Rattle.std.proofs.Math.Seq.{take-append_seam}
use Rattle.git_model.specs.declared.kind.Kind.{Kind}
use Rattle.git_model.specs.declared.kind.Kind.TheVariants as kind
use Rattle.git_model.specs.Content.{Content, content_from}
use Rattle.pack_text.specs.Adler.{adler32}
use Rattle.pack_text.specs.PackText.{blocks_text, entry_text, head_text, header_text, number_of, pack_text, zlib_text}
use Rattle.pack_text.specs.PackReading.{blocks_read, checked, entries_read, entry_of, entry_read, kind_of, pack_read, sealed, zlib_read}
use Rattle.pack_text.specs.Contents.{FitsEntry}
use Rattle.pack_text.proofs.Heads.{heads-back}
use Rattle.pack_text.proofs.Blocks.{blocks-back, blocks-length}

-- A checksum fits in four bytes.
small_checksum : (bytes : List ℕ) → adler32 bytes < 2 ^ 32
small_checksum bytes = omega arith

same-checksum : (bytes rest : List ℕ) (n : ℕ) → n < 2 ^ 32 → n ≡ adler32 bytes
    → checked (bytes, to_be_bytes w32 n ++ rest) ≡ Some (bytes, rest)
same-checksum bytes rest n few is =
    let back = from_be_bytes-to_be_bytes_4 n few in
    let test : (nat_le 4 (length (to_be_bytes w32 n ++ rest))
    && (from_be_bytes w32 (to_be_bytes w32 n) == adler32 bytes)) ≡ true =
    grind (arith, nat_tests, back, is) in
    ap (λ (t : Bool). if t then Some (bytes, rest) else None) test

zlib-back : (bytes rest : List ℕ) → zlib_read (zlib_text bytes ++ rest) ≡ Some (bytes, rest)
zlib-back bytes rest =
    let blocks = blocks_text (length bytes) bytes in
    let sum = to_be_bytes w32 (adler32 bytes) in
    let after = sum ++ rest in
    let size = length-append (blocks ++ sum) rest in
    let both = length-append blocks sum in
    let fits : length bytes < suc (suc (length ((blocks ++ sum) ++ rest))) =
    omega (arith, blocks-length bytes, size, both) in
    ap (λ (l : List ℕ). option_and_then checked (blocks_read (suc (suc (length ((blocks ++ sum) ++ rest)))) l))
    (append_assoc blocks sum rest)
    ∙ ap (option_and_then checked)
    (blocks-back (suc (suc (length ((blocks ++ sum) ++ rest)))) bytes after fits)
    ∙ same-checksum bytes rest (adler32 bytes) (small_checksum bytes) refl

kinds-back : (k : Kind) → kind_of (number_of k) ≡ Some k
kinds-back kind.Commit = refl
kinds-back kind.Tree = refl
kinds-back kind.Blob = refl
kinds-back kind.Tag = refl

-- What follows the type and the size.
rest-back : (c : Content) (rest : List ℕ)
    → entry_of ((number_of c.kind, length c.bytes), zlib_text c.bytes ++ rest) ≡ Some (c, rest)
rest-back c rest =
    let test : (length c.bytes == length c.bytes) ≡ true = grind (arith, nat_tests) in
    ap (option_and_then (λ (r : List ℕ × List ℕ). if length r.0 == length c.bytes
    then option_map (λ (k : Kind). (content_from k r.0, r.1)) (kind_of (number_of c.kind)) else None))
    (zlib-back c.bytes rest)
    ∙ ap (λ (t : Bool). if t
    then option_map (λ (k : Kind). (content_from k c.bytes, rest)) (kind_of (number_of c.kind))
    else None) test
    ∙ ap (option_map (λ (k : Kind). (content_from k c.bytes, rest))) (kinds-back c.kind)

pub entries-back : (c : Content) (rest : List ℕ) → FitsEntry c
    → entry_read (entry_text c ++ rest) ≡ Some (c, rest)
entries-back c rest fits =
    let head = head_text c.kind (length c.bytes) in
    ap entry_read (append_assoc head (zlib_text c.bytes) rest)
    ∙ ap (option_and_then entry_of)
    (heads-back c.kind (length c.bytes) (zlib_text c.bytes ++ rest) fits)
    ∙ rest-back c rest

many-none : (rest : List ℕ) → entries_read 0 rest ≡ Some ([], rest)
unfolding entries_read
many-none rest = refl

many-more : (n : ℕ) (bs : List ℕ) → entries_read (suc n) bs
    ≡ option_and_then (λ (e : Content × List ℕ). option_map
    (λ (r : List Content × List ℕ). (e.0 ∷ r.0, r.1)) (entries_read n e.1)) (entry_read bs)
unfolding entries_read
many-more n bs = refl

many-back : (cs : List Content) (rest : List ℕ) → All FitsEntry cs
    → entries_read (length cs) (flat_map entry_text cs ++ rest) ≡ Some (cs, rest)
many-back [] rest fit = many-none rest
many-back (c ∷ cs) rest fit =
    let after = flat_map entry_text cs ++ rest in
    ap (entries_read (suc (length cs))) (append_assoc (entry_text c) (flat_map entry_text cs) rest)
    ∙ many-more (length cs) (entry_text c ++ after)
    ∙ ap (option_and_then (λ (e : Content × List ℕ). option_map
    (λ (r : List Content × List ℕ). (e.0 ∷ r.0, r.1)) (entries_read (length cs) e.1)))
    (entries-back c after (All-head FitsEntry c cs fit))
    ∙ ap (option_map (λ (r : List Content × List ℕ). (c ∷ r.0, r.1)))
    (many-back cs rest (All-tail FitsEntry c cs fit))

same-bytes : (xs ys : List ℕ) → xs ≡ ys → bytes_eq xs ys ≡ true
same-bytes xs ys e = grind (arith, e, bytes_eq-Decides xs ys)

sealed-back : (digest : List ℕ → List ℕ) (body : List ℕ) (contents : List Content)
    → sealed digest (body ++ digest body) (contents, digest body) ≡ Some contents
sealed-back digest body contents =
    let end = digest body in
    let size : length (body ++ end) - length end ≡ length body =
    omega (arith, length-append body end) in
    let front : take (length (body ++ end) - length end) (body ++ end) ≡ body =
    ap (λ (n : ℕ). take n (body ++ end)) size ∙ take-append_seam body end in
    ap (λ (t : Bool). if t then Some contents else None)
    (same-bytes end _ (ap digest (sym front)))

-- A header, and what follows it.
opened-back : (digest : List ℕ → List ℕ) (n : ℕ) (rest : List ℕ) → n < 2 ^ 32
    → pack_read digest (header_text n ++ rest)
    ≡ option_and_then (sealed digest (header_text n ++ rest)) (entries_read n rest)
opened-back digest n rest few =
    let test : nat_le 12 (length (header_text n ++ rest)) ≡ true = grind (arith, nat_tests) in
    let whole = header_text n ++ rest in
    let read = option_and_then (sealed digest whole)
    (entries_read (from_be_bytes w32 (to_be_bytes w32 n)) rest) in
    ap (λ (t : Bool). if t then read else None) test
    ∙ ap (λ (m : ℕ). option_and_then (sealed digest whole) (entries_read m rest))
    (from_be_bytes-to_be_bytes_4 n few)

pub packs-back : (digest : List ℕ → List ℕ) (contents : List Content) → All FitsEntry contents
    → length contents < 2 ^ 32 → pack_read digest (pack_text digest contents) ≡ Some contents
packs-back digest contents fit few =
    let header = header_text (length contents) in
    let entries = flat_map entry_text contents in
    let end = digest (header ++ entries) in
    ap (pack_read digest) (append_assoc header entries end)
    ∙ opened-back digest (length contents) (entries ++ end) few
    ∙ ap (option_and_then (sealed digest (header ++ (entries ++ end)))) (many-back contents end fit)
    ∙ ap (λ (l : List ℕ). sealed digest l (contents, end)) (sym (append_assoc header entries end))
    ∙ sealed-back digest (header ++ entries) contents
