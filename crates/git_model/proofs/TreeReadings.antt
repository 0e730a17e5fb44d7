-- The contents of a tree are read back.
use Rattle.std.proofs.Common.{◌≡◌, ◌≢◌, ℕ, suc, ◌≤◌, ◌+◌, ◌==◌, Bool, true, false, List, [], ◌∷◌, ◌++◌, length, take, drop, map, codes, refl, sym, ap, subst, ◌∙◌, append_assoc, arith}
use Rattle.std.specs.List.{AllByRecursion, AllPass, before_first, after_first, flat_map, list_all, position_or_len}
use Rattle.std.proofs.lemmas.Bool.{ne_eqb, false≢true}
use Rattle.std.proofs.lemmas.List.{length-append}
use Rattle.std.proofs.lemmas.List.Elements.{recursion_from_All}
use Rattle.std.proofs.lemmas.List.Sums.{AllPass-from_list_all}
use Rattle.git_model.specs.declared.file_mode.FileMode.{FileMode}
use Rattle.git_model.specs.declared.file_mode.FileMode.TheVariants as mode
use Rattle.git_model.specs.Tree.{TreeEntry, CanWriteEntry, CanWriteTree, mode_digits, entry_text, tree_contents}
use Rattle.git_model.specs.TreeReading.{mode_named_by, is_nul, first_entry, more_of_entry, entries_after, tree_read}
use Rattle.git_model.specs.Readable.{is_octal_digit, AreModeDigits, RawEntry, IsRawEntry, raw_entry_text, entry_from}
use Rattle.git_model.proofs.Texts.{all_weaker}

abbrev Fails : (ℕ → Bool) → List ℕ → Type 0
Fails p xs = AllByRecursion (λ x. p x ≡ false) xs

all_append : (p : ℕ → Bool) (xs ys : List ℕ) → Fails p xs → Fails p ys → Fails p (xs ++ ys)
all_append p [] ys h k = k
all_append p (x ∷ xs) ys h k = (h.0, all_append p xs ys h.1 k)

abbrev is_space : ℕ → Bool
is_space b = b == 32

one_more : (n : ℕ) → 1 + n ≡ suc n
one_more n = omega arith

one_more_at_end : (n : ℕ) → n + 1 ≡ suc n
one_more_at_end n = omega arith

place : (p : ℕ → Bool) (xs : List ℕ) (y : ℕ) (ys : List ℕ) → Fails p xs → p y ≡ true
    → position_or_len p (xs ++ y ∷ ys) ≡ length xs
place p [] y ys h t = rw t refl
place p (x ∷ xs) y ys h t =
    let one = h.0 in rw one (ap (λ (n : ℕ). 1 + n) (place p xs y ys h.1 t) ∙ one_more (length xs))

take_front : (xs ys : List ℕ) → take (length xs) (xs ++ ys) ≡ xs
take_front [] ys = refl
take_front (x ∷ xs) ys = ap (λ (l : List ℕ). x ∷ l) (take_front xs ys)

drop_front : (xs : List ℕ) (y : ℕ) (ys : List ℕ) → drop (suc (length xs)) (xs ++ y ∷ ys) ≡ ys
drop_front [] y ys = refl
drop_front (x ∷ xs) y ys = drop_front xs y ys

before : (p : ℕ → Bool) (xs : List ℕ) (y : ℕ) (ys : List ℕ) → Fails p xs → p y ≡ true
    → before_first p (xs ++ y ∷ ys) ≡ xs
before p xs y ys h t =
    ap (λ (n : ℕ). take n (xs ++ y ∷ ys)) (place p xs y ys h t) ∙ take_front xs (y ∷ ys)

after : (p : ℕ → Bool) (xs : List ℕ) (y : ℕ) (ys : List ℕ) → Fails p xs → p y ≡ true
    → after_first p (xs ++ y ∷ ys) ≡ ys
after p xs y ys h t =
    ap (λ (n : ℕ). drop n (xs ++ y ∷ ys))
    (ap (λ (n : ℕ). n + 1) (place p xs y ys h t) ∙ one_more_at_end (length xs)) ∙ drop_front xs y ys

-- ---- modes

pub mode_back : (m : FileMode) → mode_named_by (mode_digits m) ≡ m
unfolding mode_named_by
mode_back mode.Regular = refl
mode_back mode.Executable = refl
mode_back mode.Symlink = refl
mode_back mode.Gitlink = refl
mode_back mode.Directory = refl

octal_from : (digits : List ℕ) → digits ≢ [] → length digits ≤ 7
    → list_all is_octal_digit digits ≡ true → AreModeDigits digits
octal_from digits some short all =
    record { not_empty = some; short = short; octal = AllPass-from_list_all is_octal_digit digits all }

-- no octal digit is a space or a NUL
no_digit : (n : ℕ) → is_octal_digit n ≡ false → (digits : List ℕ) → AllPass is_octal_digit digits
    → Fails (λ b. b == n) digits
no_digit n other digits all =
    all_weaker (λ b h. ne_eqb b n (λ e. false≢true (sym other ∙ subst (λ x. is_octal_digit x ≡ true) e h)))
    digits (recursion_from_All (λ (b : ℕ). is_octal_digit b ≡ true) digits all)

first_digit : (digits : List ℕ) → digits ≢ [] → (d : ℕ) × (ds : List ℕ) × (digits ≡ d ∷ ds)
first_digit [] some = absurd (some refl)
first_digit (d ∷ ds) some = (d, ds, refl)

abbrev pub raw_of : TreeEntry → RawEntry
raw_of e = record { mode = mode_digits e.mode; name = e.name; id = e.id }

octal : (m : FileMode) → AreModeDigits (mode_digits m)
octal mode.Regular = octal_from _ (λ e. cc) (omega arith) refl
octal mode.Executable = octal_from _ (λ e. cc) (omega arith) refl
octal mode.Symlink = octal_from _ (λ e. cc) (omega arith) refl
octal mode.Gitlink = octal_from _ (λ e. cc) (omega arith) refl
octal mode.Directory = octal_from _ (λ e. cc) (omega arith) refl

-- ---- an entry

abbrev front : RawEntry → List ℕ
front e = e.mode ++ 32 ∷ e.name

text : (e : RawEntry) (rest : List ℕ) → raw_entry_text e ++ rest ≡ front e ++ 0 ∷ (e.id ++ rest)
text e rest =
    append_assoc (e.mode ++ codes " " ++ e.name) (0 ∷ e.id) rest
    ∙ ap (λ (f : List ℕ). f ++ 0 ∷ (e.id ++ rest))
    (append_assoc e.mode (codes " ") e.name)

front_fails : (e : RawEntry) → IsRawEntry e → Fails is_nul (front e)
front_fails e h =
    all_append is_nul e.mode (32 ∷ e.name) (no_digit 0 refl e.mode h.mode.octal) (
      refl,
      all_weaker (λ b ne. ne_eqb b 0 ne) e.name
          (recursion_from_All (λ (b : ℕ). b ≢ 0) e.name h.no_nul),
    )

take_id : (id rest : List ℕ) → length id ≡ 20 → take 20 (id ++ rest) ≡ id
take_id id rest size = ap (λ (n : ℕ). take n (id ++ rest)) (sym size) ∙ take_front id rest

entry_back : (e : RawEntry) (rest : List ℕ) → IsRawEntry e
    → first_entry (front e ++ 0 ∷ (e.id ++ rest)) ≡ entry_from e
unfolding first_entry
entry_back e rest h =
    let head = before is_nul (front e) 0 (e.id ++ rest) (front_fails e h) refl in
    let m = ap (λ (f : List ℕ). mode_named_by (before_first is_space f)) head
    ∙ ap mode_named_by (before is_space e.mode 32 e.name (no_digit 32 refl e.mode h.mode.octal) refl) in
    let n = ap (after_first is_space) head
    ∙ after is_space e.mode 32 e.name (no_digit 32 refl e.mode h.mode.octal) refl in
    let i = ap (take 20) (after is_nul (front e) 0 (e.id ++ rest) (front_fails e h) refl)
    ∙ take_id e.id rest h.id.size in
    λ k. record { mode = m k; name = n k; id = i k }

skip : (xs ys : List ℕ) → entries_after (length xs) (xs ++ ys) ≡ entries_after 0 ys
unfolding entries_after
skip [] ys = refl
skip (x ∷ xs) ys = skip xs ys

first_of : (b : ℕ) (bs : List ℕ)
    → entries_after 0 (b ∷ bs) ≡ first_entry (b ∷ bs) ∷ entries_after (more_of_entry (b ∷ bs)) bs
unfolding entries_after
first_of b bs = refl

-- an entry in front of others
read_one : (e : RawEntry) (rest : List ℕ) → IsRawEntry e
    → tree_read (raw_entry_text e ++ rest) ≡ entry_from e ∷ tree_read rest
read_one e rest h =
    let d = first_digit e.mode h.mode.not_empty in
    let ds : List ℕ = d.1 ++ 32 ∷ e.name in
    let split : front e ≡ d.0 ∷ ds = ap (λ (l : List ℕ). l ++ 32 ∷ e.name) d.2 in
    let place_of : position_or_len is_nul (d.0 ∷ (ds ++ 0 ∷ (e.id ++ rest))) ≡ suc (length ds) =
    ap (λ (f : List ℕ). position_or_len is_nul (f ++ 0 ∷ (e.id ++ rest))) (sym split)
    ∙ place is_nul (front e) 0 (e.id ++ rest) (front_fails e h) refl
    ∙ ap (λ (f : List ℕ). length f) split in
    let size : suc (length ds) + 20 ≡ length (ds ++ 0 ∷ e.id) = let a = length-append ds
    (0 ∷ e.id) in let b = h.id.size in omega arith in
    let whole : raw_entry_text e ++ rest ≡ d.0 ∷ (ds ++ 0 ∷ (e.id ++ rest)) = text e rest
    ∙ ap (λ (f : List ℕ). f ++ 0 ∷ (e.id ++ rest)) split in
    ap tree_read whole
    ∙ first_of d.0 (ds ++ 0 ∷ (e.id ++ rest))
    ∙ ap (λ (t : TreeEntry). t ∷ entries_after (more_of_entry (d.0 ∷ (ds ++ 0 ∷ (e.id ++ rest))))
    (ds ++ 0 ∷ (e.id ++ rest)))
    (ap (λ (f : List ℕ). first_entry (f ++ 0 ∷ (e.id ++ rest))) (sym split) ∙ entry_back e rest h)
    ∙ ap (λ (n : ℕ). entry_from e ∷ entries_after (n + 20) (ds ++ 0 ∷ (e.id ++ rest))) place_of
    ∙ ap (λ (n : ℕ). entry_from e ∷ entries_after n (ds ++ 0 ∷ (e.id ++ rest))) size
    ∙ ap (λ (l : List ℕ). entry_from e ∷ entries_after (length (ds ++ 0 ∷ e.id)) l)
    (sym (append_assoc ds (0 ∷ e.id) rest))
    ∙ ap (λ (l : List TreeEntry). entry_from e ∷ l) (skip (ds ++ 0 ∷ e.id) rest)

-- the entries of any readable tree
pub raw_back : (es : List RawEntry) → AllByRecursion IsRawEntry es
    → tree_read (flat_map raw_entry_text es) ≡ map entry_from es
unfolding entries_after
raw_back [] h = refl
raw_back (e ∷ es) h =
    read_one e (flat_map raw_entry_text es) h.0
    ∙ ap (λ (l : List TreeEntry). entry_from e ∷ l) (raw_back es h.1)

-- ---- entries that can be written

pub raw_is : (e : TreeEntry) → CanWriteEntry e → IsRawEntry (raw_of e)
raw_is e h = record { mode = octal e.mode; not_empty = h.name.not_empty; no_nul = h.name.no_nul; id = h.id }

pub raws_are : (es : List TreeEntry) → AllByRecursion CanWriteEntry es
    → AllByRecursion IsRawEntry (map raw_of es)
raws_are [] h = tt
raws_are (e ∷ es) h = (raw_is e h.0, raws_are es h.1)

pub raw_text : (es : List TreeEntry) → flat_map raw_entry_text (map raw_of es) ≡ tree_contents es
raw_text [] = refl
raw_text (e ∷ es) = ap (λ (l : List ℕ). entry_text e ++ l) (raw_text es)

back : (es : List TreeEntry) → map entry_from (map raw_of es) ≡ es
back [] = refl
back (e ∷ es) = λ i. record { mode = mode_back e.mode i; name = e.name; id = e.id } ∷ back es i

-- whether or not they make a tree
pub entries_back : (es : List TreeEntry) → AllByRecursion CanWriteEntry es
    → tree_read (tree_contents es) ≡ es
entries_back es h =
    ap tree_read (sym (raw_text es)) ∙ raw_back (map raw_of es) (raws_are es h) ∙ back es

pub tree_back : (es : List TreeEntry) → CanWriteTree es → tree_read (tree_contents es) ≡ es
tree_back es h = entries_back es (recursion_from_All CanWriteEntry es h.entries)
