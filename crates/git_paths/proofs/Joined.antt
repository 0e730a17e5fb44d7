-- Components and the bytes of a path, each from the other.
use Rattle.std.proofs.Common.{◌≡◌, ◌≢◌, ℕ, ◌+◌, ◌≤◌, false, eqb, List, [], ◌∷◌, length, refl, ap, ◌∙◌, All, arith}
use Rattle.std.specs.List.{slice_split, onto_first, count_by, list_all, list_any}
use Rattle.std.proofs.lemmas.List.Splits.{join_with_byte-slice_split, length-slice_split, slice_split_none, slice_split_at, slice_split-cons_yes, slice_split-cons_no}
use Rattle.std.proofs.lemmas.List.Sums.{count_by-le-length}
use Rattle.std.proofs.lemmas.List.Elements.{All-nil, All-cons, All-head, All-tail, All-weaker}
use Rattle.std.proofs.lemmas.Bool.{ne_eqb}
use Rattle.git_paths.specs.Paths.{IsComponent, IsPath, joined, is_slash, components_of, is_part, is_component, is_path}
use Rattle.git_paths.proofs.Cases.{by_cases}

-- the components of bytes, joined, are the bytes
pub joined-components_of : (bytes : List ℕ) → joined (components_of bytes) ≡ bytes
joined-components_of [] = refl
joined-components_of (b ∷ bytes) = join_with_byte-slice_split 47 (b ∷ bytes)

-- bytes that are there have one component more than slashes
pub length-components_of : (bytes : List ℕ) → eqb (length bytes) 0 ≡ false
    → length (components_of bytes) ≡ count_by is_slash bytes + 1
length-components_of [] some = absurd cc
length-components_of (b ∷ bytes) some = length-slice_split is_slash (b ∷ bytes)

-- bytes have at most one component more than bytes
pub length-components_of-le : (bytes : List ℕ) → length (components_of bytes) ≤ length bytes + 1
length-components_of-le [] = omega arith
length-components_of-le (b ∷ bytes) =
    omega (arith, length-slice_split is_slash (b ∷ bytes), count_by-le-length is_slash (b ∷ bytes))

-- The parts between the slashes have no slash, so they are components where they are parts of one.
part_test : (part : List ℕ) → list_any is_slash part ≡ false → is_component part ≡ is_part part
part_test part none = grind (arith, none)

parts_test : (parts : List (List ℕ)) → All (λ part. list_any is_slash part ≡ false) parts
    → list_all is_component parts ≡ list_all is_part parts
parts_test [] none = refl
parts_test (part ∷ parts) none =
    let head = part_test part (All-head (λ it. list_any is_slash it ≡ false) part parts none) in
    let tail = parts_test parts (All-tail (λ it. list_any is_slash it ≡ false) part parts none) in
    cc

onto_none : (b : ℕ) (parts : List (List ℕ)) → is_slash b ≡ false
    → All (λ part. list_any is_slash part ≡ false) parts
    → All (λ part. list_any is_slash part ≡ false) (onto_first b parts)
onto_none b [] other none = All-cons (λ it. list_any is_slash it ≡ false) (b ∷ []) [] (rw other refl) none
onto_none b (part ∷ parts) other none =
    All-cons (λ it. list_any is_slash it ≡ false) (b ∷ part) parts
    (rw (other, All-head (λ it. list_any is_slash it ≡ false) part parts none) refl)
    (All-tail (λ it. list_any is_slash it ≡ false) part parts none)

parts_none : (bytes : List ℕ)
    → All (λ part. list_any is_slash part ≡ false) (slice_split is_slash bytes)
parts_none [] = All-cons (λ it. list_any is_slash it ≡ false) [] [] refl (All-nil (λ it. list_any is_slash it ≡ false))
parts_none (b ∷ bytes) =
    by_cases (is_slash b)
    (λ yea. rw (slice_split-cons_yes is_slash b bytes yea)
    (All-cons (λ it. list_any is_slash it ≡ false) [] (slice_split is_slash bytes) refl (parts_none bytes)))
    (λ nay. rw (slice_split-cons_no is_slash b bytes nay)
    (onto_none b (slice_split is_slash bytes) nay (parts_none bytes)))

-- bytes are those of a path where the parts between the slashes are components
pub is_path-components_of : (bytes : List ℕ) → eqb (length bytes) 0 ≡ false
    → is_path (components_of bytes) ≡ list_all is_part (slice_split is_slash bytes)
is_path-components_of [] some = absurd cc
is_path-components_of (b ∷ bytes) some =
    parts_test (slice_split is_slash (b ∷ bytes)) (parts_none (b ∷ bytes))

no_slash : (name : List ℕ) → IsComponent name → All (λ b. is_slash b ≡ false) name
no_slash name h =
    All-weaker (λ b. b ≢ 47) (λ b. is_slash b ≡ false)
    (λ b ne. ne_eqb b 47 ne) name h.no_slash

split-joined : (name : List ℕ) (path : List (List ℕ)) → IsPath (name ∷ path)
    → slice_split is_slash (joined (name ∷ path)) ≡ name ∷ path
split-joined name [] h =
    slice_split_none is_slash name (no_slash name (All-head IsComponent name [] h))
split-joined name (next ∷ path) h =
    slice_split_at is_slash name 47 (joined (next ∷ path))
    (no_slash name (All-head IsComponent name (next ∷ path) h)) refl
    ∙ ap (λ (rest : List (List ℕ)). name ∷ rest)
    (split-joined next path (All-tail IsComponent name (next ∷ path) h))

-- bytes that are there have components by cutting
cut : (bytes : List ℕ) → bytes ≢ [] → components_of bytes ≡ slice_split is_slash bytes
cut [] some = absurd (some refl)
cut (b ∷ bytes) some = refl

some_joined : (name : List ℕ) (path : List (List ℕ)) → name ≢ [] → joined (name ∷ path) ≢ []
some_joined [] path some e = some refl
some_joined (b ∷ name) [] some e = cc
some_joined (b ∷ name) (next ∷ path) some e = cc

-- the bytes of a path have its components
pub components_of-joined : (path : List (List ℕ)) → IsPath path → components_of (joined path) ≡ path
components_of-joined [] h = refl
components_of-joined (name ∷ path) h =
    cut (joined (name ∷ path))
    (some_joined name path (All-head IsComponent name path h).not_empty)
    ∙ split-joined name path h
