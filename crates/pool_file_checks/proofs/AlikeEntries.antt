-- The entries of two trees, one after the other, where the second tree has other object names.
use Rattle.std.proofs.Common.{◌≡◌, ℕ, ◌+◌, ◌-◌, ◌<◌, ◌≤◌, ◌==◌, List, [], ◌∷◌, ◌++◌, length, take, drop, get_or, All, codes, Fits, w8, refl, sym, ap, ◌∙◌, inl, inr, arith, true, Bool, not, Some}
use Rattle.std.proofs.lemmas.Bool.{cases_order, ne_eqb}
use Rattle.std.proofs.lemmas.List.{append_assoc, take-append-drop, take-take, take_all, take_at, drop_at, drop-take, drop-drop, length-append, length-drop, get_or_append_left}
use Rattle.std.proofs.Math.Seq.{get_or-append_seam, take-add}
use Rattle.std.specs.List.{AllPass}
use Rattle.std.proofs.lemmas.List.Sums.{AllPass-from_list_all}
use Rattle.std.proofs.lemmas.List.Elements.{All-append, All-head, All-tail}
use Rattle.memchr.specs.Find.{IsFirstByte, is_byte}
use Rattle.git_model.specs.declared.file_mode.FileMode.{FileMode}
use Rattle.git_model.specs.declared.file_mode.FileMode.TheVariants as mode
use Rattle.git_model.specs.Tree.{TreeEntry, CanWriteEntry, mode_digits, entry_text, tree_contents}
use Rattle.git_model.specs.Repository.{Object}
use Rattle.git_objects.proofs.TreeFronts.{id_there, after_fits}
use Rattle.tenant_tables.specs.declared.summary.Summary.{Summary}
use Rattle.pool_file_checks.specs.Alike.{Agree, AreRenamed, BeginsAlike, IsAlike, MayName, renamed}

-- ---- texts that begin alike

pub agree_none : (a b : List ℕ) → Agree 0 a b
agree_none a b = record { first = omega arith; second = omega arith; bytes = refl }

-- some more bytes are the same
pub agree_more : (n m : ℕ) (a b : List ℕ) → Agree n a b → n + m ≤ length a → n + m ≤ length b
    → take m (drop n a) ≡ take m (drop n b) → Agree (n + m) a b
agree_more n m a b h long longer more = record {
  first = long;
  second = longer;
  bytes = take-add n m a ∙ ap (λ (l : List ℕ). l ++ take m (drop n a)) h.bytes
      ∙ ap (λ (l : List ℕ). take n b ++ l) more ∙ sym (take-add n m b);
}

fewer : (n m : ℕ) (a b : List ℕ) → Agree n a b → m ≤ n → take m a ≡ take m b
fewer n m a b h le = sym (take-take m n a le) ∙ ap (take m) h.bytes ∙ take-take m n b le

-- after the first bytes
pub agree_after : (n m : ℕ) (a b : List ℕ) → Agree n a b → m ≤ n → Agree (n - m) (drop m a) (drop m b)
agree_after n m a b h le =
    let split : m + (n - m) ≡ n = omega (arith, le) in
    let f = h.first in let s = h.second in record {
      first = omega (arith, f, le, length-drop m a);
      second = omega (arith, s, le, length-drop m b);
      bytes = sym (drop-take m (n - m) a) ∙ ap (λ (k : ℕ). drop m (take k a)) split ∙ ap (drop m) h.bytes
          ∙ ap (λ (k : ℕ). drop m (take k b)) (sym split) ∙ drop-take m (n - m) b;
    }

pub agree_all : (n : ℕ) (a b : List ℕ) → Agree n a b → length a ≡ length b → length a ≤ n → a ≡ b
agree_all n a b h same long =
    sym (take_all n a long) ∙ h.bytes ∙ take_all n b (omega (arith, same, long))

-- ---- the first entry

-- What stands before the NUL.
abbrev front : TreeEntry → List ℕ
front e = mode_digits e.mode ++ codes " " ++ e.name

text : (e : TreeEntry) (rest : List ℕ) → entry_text e ++ rest ≡ front e ++ 0 ∷ (e.id ++ rest)
text e rest = append_assoc (front e) (0 ∷ e.id) rest

abbrev is_no_nul : ℕ → Bool
is_no_nul b = not (b == 0)

digits_no_nul : (m : FileMode) → AllPass is_no_nul (mode_digits m ++ codes " ")
digits_no_nul mode.Regular = AllPass-from_list_all is_no_nul (codes "100644 ") refl
digits_no_nul mode.Executable = AllPass-from_list_all is_no_nul (codes "100755 ") refl
digits_no_nul mode.Symlink = AllPass-from_list_all is_no_nul (codes "120000 ") refl
digits_no_nul mode.Gitlink = AllPass-from_list_all is_no_nul (codes "160000 ") refl
digits_no_nul mode.Directory = AllPass-from_list_all is_no_nul (codes "40000 ") refl

front_no_nul : (e : TreeEntry) → CanWriteEntry e → AllPass is_no_nul (front e)
front_no_nul e w =
    All-append (λ b. is_no_nul b ≡ true) (mode_digits e.mode ++ codes " ") e.name (digits_no_nul e.mode)
    (λ k d lt. ap not (ne_eqb (get_or e.name k d) 0 (w.name.no_nul k d lt)))

-- The first NUL stands after the mode and the name.
first_nul : (e : TreeEntry) (rest old : List ℕ) (nul : ℕ) → CanWriteEntry e → old ≡ entry_text e ++ rest
    → IsFirstByte (is_byte 0) old (Some nul) → nul ≡ length (front e)
first_nul e rest old nul w is found = elim (cases_order nul (length (front e))) [
  | inl same ↦ same
  | inr far ↦ elim far [
    | inl less ↦
        let here : get_or old nul 0 ≡ get_or (front e) nul 0 =
        ap (λ (l : List ℕ). get_or l nul 0) (is ∙ text e rest)
        ∙ get_or_append_left (front e) (0 ∷ (e.id ++ rest)) 0 nul less in
        let yes : (get_or (front e) nul 0 == 0) ≡ true = ap (λ (b : ℕ). b == 0) (sym here) ∙ found.1 in
        let no : not (get_or (front e) nul 0 == 0) ≡ true = front_no_nul e w nul 0 less in
        let both = ap not yes in cc
    | inr more ↦
        let here : get_or old (length (front e)) 0 ≡ 0 =
        ap (λ (l : List ℕ). get_or l (length (front e)) 0) (is ∙ text e rest)
        ∙ get_or-append_seam (front e) 0 (e.id ++ rest) 0 in
        absurd (found.0.before (length (front e)) (omega arith) more (ap (λ (b : ℕ). b == 0) here))
  ]
]

entry_size : (e : TreeEntry) → CanWriteEntry e → length (entry_text e) ≡ length (front e) + 21
entry_size e w = let a = length-append (front e) (0 ∷ e.id) in let b = w.id.size in omega (arith, a, b)

-- The entry is the same in both.
pub begins_same : (os : List Object) (place : ℕ) (kept : List Summary) (old new : List ℕ) (nul equal : ℕ)
    → IsFirstByte (is_byte 0) old (Some nul) → Agree equal old new → nul + 21 ≤ equal
    → BeginsAlike os place kept old new (nul + 21)
begins_same os place kept old new nul equal found agree le e rest w is =
    let at = first_nul e rest old nul w is found in
    let size : length (entry_text e) ≡ nul + 21 = entry_size e w ∙ ap (λ (n : ℕ). n + 21) (sym at) in
    let ours : take (nul + 21) new ≡ entry_text e =
    sym (fewer equal (nul + 21) old new agree le) ∙ ap (take (nul + 21)) is
    ∙ take_at (entry_text e) rest (nul + 21) size in (
      ap (drop (nul + 21)) is ∙ drop_at (entry_text e) rest (nul + 21) size,
      (
        e,
        sym (take-append-drop (nul + 21) new) ∙ ap (λ (l : List ℕ). l ++ drop (nul + 21) new) ours,
        inl refl,
      ),
    )

-- The entry has another object name.
pub begins_renamed : (os : List Object) (place : ℕ) (kept : List Summary) (old new : List ℕ) (nul equal : ℕ)
    → IsFirstByte (is_byte 0) old (Some nul) → Agree equal old new → nul < equal
    → ((i : ℕ) → Fits w8 (get_or new i 0)) → 20 ≤ length (drop (nul + 1) new)
    → ((e : TreeEntry) (rest : List ℕ) → CanWriteEntry e → old ≡ entry_text e ++ rest
    → e.id ≡ take 20 (drop (nul + 1) old) → MayName os place kept e (take 20 (drop (nul + 1) new)))
    → BeginsAlike os place kept old new (nul + 21)
begins_renamed os place kept old new nul equal found agree lt fits long may e rest w is =
    let at = first_nul e rest old nul w is found in
    let size : length (entry_text e) ≡ nul + 21 = entry_size e w ∙ ap (λ (n : ℕ). n + 21) (sym at) in
    let begin : List ℕ = front e ++ 0 ∷ [] in
    let begin_size : length begin ≡ nul + 1 = let a = length-append (front e) (0 ∷ []) in omega (arith, a, at) in
    let split : old ≡ begin ++ (e.id ++ rest) = is ∙ text e rest ∙ sym (append_assoc (front e) (0 ∷ []) (e.id ++ rest)) in
    let id : List ℕ = take 20 (drop (nul + 1) new) in
    let was : e.id ≡ take 20 (drop (nul + 1) old) =
    sym (ap (λ (l : List ℕ). take 20 (drop (nul + 1) l)) split
    ∙ ap (take 20) (drop_at begin (e.id ++ rest) (nul + 1) begin_size) ∙ take_at e.id rest 20 w.id.size) in
    let ours : take (nul + 1) new ≡ begin =
    sym (fewer equal (nul + 1) old new agree (omega (arith, lt))) ∙ ap (take (nul + 1)) split
    ∙ take_at begin (e.id ++ rest) (nul + 1) begin_size in
    let skip : drop 20 (drop (nul + 1) new) ≡ drop (nul + 21) new =
    drop-drop 20 (nul + 1) new ∙ ap (λ (n : ℕ). drop n new) (let q : (nul + 1) + 20 ≡ nul + 21 = omega arith in q) in
    let whole : new ≡ begin ++ (id ++ drop (nul + 21) new) =
    sym (take-append-drop (nul + 1) new) ∙ ap (λ (l : List ℕ). l ++ drop (nul + 1) new) ours
    ∙ ap (λ (l : List ℕ). begin ++ l) (sym (take-append-drop 20 (drop (nul + 1) new)) ∙ ap (λ (l : List ℕ). id ++ l) skip) in (
      ap (drop (nul + 21)) is ∙ drop_at (entry_text e) rest (nul + 21) size,
      (
        renamed e id,
        whole ∙ append_assoc (front e) (0 ∷ []) (id ++ drop (nul + 21) new) ∙ sym (text (renamed e id) (drop (nul + 21) new)),
        inr (
          id,
          refl,
          (id_there (drop (nul + 1) new) (after_fits new (take (nul + 1) new) (drop (nul + 1) new) (sym (take-append-drop (nul + 1) new)) fits) long).found.0,
          may e rest w is was,
        ),
      ),
    )

-- What stands after the 20 bytes after a NUL.
pub after_id : (nul : ℕ) (text back rest : List ℕ) → back ≡ drop (nul + 1) text → rest ≡ drop 20 back
    → rest ≡ drop (nul + 21) text
after_id nul text back rest after is =
    is ∙ ap (drop 20) after ∙ drop-drop 20 (nul + 1) text
    ∙ ap (λ (n : ℕ). drop n text) (let q : (nul + 1) + 20 ≡ nul + 21 = omega arith in q)

-- ---- entry after entry

-- Whatever entries the old contents have, some are left; and where those of the new contents that
-- are left are these, renamed, all are.
abbrev pub Leads : List Object → ℕ → List Summary → List ℕ → List ℕ → List ℕ → List ℕ → Type 0
Leads os place kept whole_old whole_new old new = (es : List TreeEntry) → All CanWriteEntry es
    → whole_old ≡ tree_contents es
    → (rest : List TreeEntry) × All CanWriteEntry rest × (old ≡ tree_contents rest)
    × ((more : List TreeEntry) → new ≡ tree_contents more → AreRenamed os place kept rest more
    → (fs : List TreeEntry) × (whole_new ≡ tree_contents fs) × AreRenamed os place kept es fs)

pub leads_start : (os : List Object) (place : ℕ) (kept : List Summary) (old new : List ℕ)
    → Leads os place kept old new old new
leads_start os place kept old new = λ es all text. (es, all, text, λ more is r. (more, is, r))

pub leads_on : (os : List Object) (place : ℕ) (kept : List Summary) (whole_old whole_new old new : List ℕ) (size : ℕ)
    → Leads os place kept whole_old whole_new old new → 0 < length old → BeginsAlike os place kept old new size
    → Leads os place kept whole_old whole_new (drop size old) (drop size new)
leads_on os place kept whole_old whole_new old new size h some begins = λ es all text. by es (h es all text)
  where
    by : (es : List TreeEntry)
        → ((rest : List TreeEntry) × All CanWriteEntry rest × (old ≡ tree_contents rest)
        × ((more : List TreeEntry) → new ≡ tree_contents more → AreRenamed os place kept rest more
        → (fs : List TreeEntry) × (whole_new ≡ tree_contents fs) × AreRenamed os place kept es fs))
        → (rest : List TreeEntry) × All CanWriteEntry rest × (drop size old ≡ tree_contents rest)
        × ((more : List TreeEntry) → drop size new ≡ tree_contents more → AreRenamed os place kept rest more
        → (fs : List TreeEntry) × (whole_new ≡ tree_contents fs) × AreRenamed os place kept es fs)
    by es ([], all, is, go) = absurd (omega (arith, some, ap length is))
    by es (e ∷ rest, all, is, go) =
        let b = begins e (tree_contents rest) (All-head CanWriteEntry e rest all) is in (
          rest,
          All-tail CanWriteEntry e rest all,
          b.0,
          λ more there r. go (b.1.0 ∷ more) (b.1.1 ∙ ap (λ (l : List ℕ). entry_text b.1.0 ++ l) there) (b.1.2, r),
        )

all_same : (os : List Object) (place : ℕ) (kept : List Summary) (es : List TreeEntry) → AreRenamed os place kept es es
all_same os place kept [] = tt
all_same os place kept (e ∷ es) = (inl refl, all_same os place kept es)

pub leads_end : (os : List Object) (place : ℕ) (kept : List Summary) (whole_old whole_new old new : List ℕ)
    → Leads os place kept whole_old whole_new old new → old ≡ new → IsAlike os place kept whole_old whole_new
leads_end os place kept whole_old whole_new old new h same = λ es all text.
    let l = h es all text in l.3 l.0 (sym same ∙ l.2) (all_same os place kept l.0)
