-- The lines at the front of a commit's contents, and the digits of their names.
use Rattle.std.proofs.Common.{◌≡◌, ◌≢◌, ℕ, ◌+◌, ◌≤◌, List, [], ◌∷◌, ◌++◌, length, map, take, drop, slice_get, Some, All, Ok, refl, sym, ap, subst, ◌∙◌, arith, codes}
use Rattle.std.specs.List.{flat_map}
use Rattle.std.proofs.lemmas.List.{append_assoc, append-nil, length-append, length-map, take_at, drop_at}
use Rattle.std.proofs.lemmas.List.Elements.{All-head, All-tail}
use Rattle.hex.specs.Hex.{decode_sized}
use Rattle.git_model.specs.Bytes.{BeginsWith}
use Rattle.git_model.specs.Commit.{line}
use Rattle.git_model.specs.HeaderReading.{id_of_digits}
use Rattle.git_model.specs.CommitReading.{commit_read}
use Rattle.git_model.specs.Readable.{AreNameDigits, CommitFront, commit_front, IsCommitFront}
use Rattle.git_objects.specs.Fronts.{IsFront}
use Rattle.git_objects.specs.DigitParents.{AreDigitParents}
use Rattle.git_objects.proofs.DigitLines.{digits_decoded, digits_decode}
use Rattle.git_objects.proofs.LookedCommits.{parts, commit_said}
use Rattle.commit_walk.specs.HeaderLines.{after_tree}

-- ---- the line of a name

pub long_line : (word digits : List ℕ) → AreNameDigits digits
    → length (line word digits) ≡ length word + 41
long_line word digits is =
    omega (
      arith,
      length-append (word ++ digits) (10 ∷ []),
      length-append word digits,
      is.size,
    )

line_first : (word digits rest : List ℕ) → line word digits ++ rest ≡ word ++ (digits ++ 10 ∷ rest)
line_first word digits rest = simp append_assoc

pub digits_of_line : (word digits rest : List ℕ) (n : ℕ) → AreNameDigits digits → length word ≡ n
    → take 40 (drop n (line word digits ++ rest)) ≡ digits
digits_of_line word digits rest n is long =
    ap (λ (t : List ℕ). take 40 (drop n t)) (line_first word digits rest)
    ∙ ap (take 40) (drop_at word (digits ++ 10 ∷ rest) n long)
    ∙ take_at digits (10 ∷ rest) 40 is.size

-- the same where the line stands alone
pub digits_alone : (word digits : List ℕ) (n : ℕ) → AreNameDigits digits → length word ≡ n
    → take 40 (drop n (line word digits)) ≡ digits
digits_alone word digits n is long =
    ap (λ (t : List ℕ). take 40 (drop n t)) (sym (append-nil (line word digits)))
    ∙ digits_of_line word digits [] n is long

-- ---- a commit's contents

abbrev parent_line : List ℕ → List ℕ
parent_line = line (codes "parent ")

pub contents_parted : (front : CommitFront) (rest : List ℕ)
    → commit_front front ++ rest ≡ line (codes "tree ") front.tree ++ after_tree front rest
contents_parted front rest =
    append_assoc (line (codes "tree ") front.tree) (flat_map parent_line front.parents) rest

-- the text begins with a parent's line, which is long enough
pub parent_begins : (digits rest text : List ℕ) → AreNameDigits digits
    → text ≡ parent_line digits ++ rest → BeginsWith text (codes "parent ") × (48 ≤ length text)
parent_begins digits rest text is e = (
  (digits ++ 10 ∷ rest, e ∙ line_first (codes "parent ") digits rest),
  omega (arith, ap length e, length-append (parent_line digits) rest, long_line (codes "parent ") digits is),
)

-- the name is read from the digits on it
pub digits_there : (digits rest text cut : List ℕ) → AreNameDigits digits
    → text ≡ parent_line digits ++ rest → cut ≡ take 48 text → take 40 (drop 7 cut) ≡ digits
digits_there digits rest text cut is e is_cut =
    ap (λ (t : List ℕ). take 40 (drop 7 t))
    (is_cut ∙ ap (take 48) e
    ∙ take_at (parent_line digits) rest 48 (long_line (codes "parent ") digits is))
    ∙ digits_alone (codes "parent ") digits 7 is refl

pub parent_read : (digits rest text cut id : List ℕ) → AreNameDigits digits
    → text ≡ parent_line digits ++ rest → cut ≡ take 48 text
    → decode_sized (take 40 (drop 7 cut)) 20 ≡ Ok id → id ≡ id_of_digits digits
parent_read digits rest text cut id is e is_cut decoded =
    (digits_decoded (take 40 (drop 7 cut)) id decoded).1
    ∙ ap id_of_digits (digits_there digits rest text cut is e is_cut)

pub parent_unread : (digits rest text cut : List ℕ) → AreNameDigits digits
    → text ≡ parent_line digits ++ rest → cut ≡ take 48 text
    → ((id : List ℕ) → decode_sized (take 40 (drop 7 cut)) 20 ≢ Ok id) → ⊥
parent_unread digits rest text cut is e is_cut none =
    digits_decode (take 40 (drop 7 cut))
    (subst AreNameDigits (sym (digits_there digits rest text cut is e is_cut)) is) none

-- ---- what is read of a readable commit

same_line : (word d other x y : List ℕ) → AreNameDigits d → AreNameDigits other
    → line word d ++ x ≡ line word other ++ y → ◌≡◌ {A = List ℕ × List ℕ} (d, x) (other, y)
same_line word d other x y p q e =
    let digits : d ≡ other =
    sym (digits_of_line word d x (length word) p refl)
    ∙ ap (λ (t : List ℕ). take 40 (drop (length word) t)) e
    ∙ digits_of_line word other y (length word) q refl in
    let rests : x ≡ y =
    sym (drop_at (line word d) x (length word + 41) (long_line word d p))
    ∙ ap (drop (length word + 41)) e
    ∙ drop_at (line word other) y (length word + 41) (long_line word other q) in
    λ i. (digits i, rests i)

tree_there : (front : CommitFront) (rest : List ℕ) → IsCommitFront front rest
    → IsFront AreNameDigits (line (codes "tree ")) (commit_front front ++ rest)
    (Some (front.tree, after_tree front rest))
tree_there front rest is = record {
  found = (is.tree, contents_parted front rest);
  only = λ d more names e.
      ap Some
      (same_line (codes "tree ") front.tree d (after_tree front rest) more is.tree names
      (sym (contents_parted front rest) ∙ e));
}

all_parents : (front : CommitFront) (rest : List ℕ) → IsCommitFront front rest
    → AreDigitParents (after_tree front rest) (map id_of_digits front.parents) rest
all_parents front rest is = record {
  lines = record { digits = front.parents; names = is.parents; are = refl; lines = refl };
  no_more = λ d more names e.
      is.no_more_parents (d ++ 10 ∷ more, e ∙ line_first (codes "parent ") d more);
}

pub parents_read : (bytes : List ℕ) (front : CommitFront) (rest : List ℕ) → IsCommitFront front rest
    → bytes ≡ commit_front front ++ rest
    → (commit_read bytes).parents ≡ map id_of_digits front.parents
parents_read bytes front rest is e =
    ap (λ (b : List ℕ). (commit_read b).parents) e
    ∙ sym (ap (λ c. c.parents)
    (commit_said (commit_front front ++ rest) front.tree (after_tree front rest)
    (map id_of_digits front.parents) rest (parts front rest) (tree_there front rest is)
    (all_parents front rest is) (omega (arith, is.few_parents, length-map front.parents id_of_digits))
    (record { not_all = is.not_all; no_more_parents = is.no_more_parents })
    refl refl refl refl refl refl).1)

-- ---- the parents in turn

more_parents : (d : List ℕ) (ds : List (List ℕ)) (rest : List ℕ)
    → flat_map parent_line (d ∷ ds) ++ rest ≡ parent_line d ++ (flat_map parent_line ds ++ rest)
more_parents d ds rest = append_assoc (parent_line d) (flat_map parent_line ds) rest

module _ (front : CommitFront) (rest text : List ℕ) where
  -- the parents whose lines begin a text, after those that were taken
  abbrev pub AreLeft : List (List ℕ) → List (List ℕ) → List ℕ → Type 0
  AreLeft items ds after = All AreNameDigits ds
      × (items ++ map id_of_digits ds ≡ map id_of_digits front.parents)
      × (after ≡ flat_map parent_line ds ++ rest)

  pub first_there : (ds : List (List ℕ)) (parent : List ℕ) → All AreNameDigits ds
      → text ≡ flat_map parent_line ds ++ rest
      → ((d more : List ℕ) → AreNameDigits d → text ≡ parent_line d ++ more → parent ≡ id_of_digits d)
      → (text ≡ rest → ⊥) → Some parent ≡ slice_get (map id_of_digits ds) 0
  first_there [] parent names e there none = absurd (none e)
  first_there (d ∷ ds) parent names e there none =
      ap Some (there d _ (All-head AreNameDigits d ds names) (e ∙ more_parents d ds rest))

  pub first_missing : (ds : List (List ℕ)) → All AreNameDigits ds
      → text ≡ flat_map parent_line ds ++ rest
      → ((d more : List ℕ) → AreNameDigits d → text ≡ parent_line d ++ more → ⊥) → ds ≡ []
  first_missing [] names e none = refl
  first_missing (d ∷ ds) names e none =
      absurd (none d _ (All-head AreNameDigits d ds names) (e ∙ more_parents d ds rest))

  pub one_taken : (items ds : List (List ℕ)) (parent after : List ℕ) → AreLeft items ds text
      → ((d more : List ℕ) → AreNameDigits d → text ≡ parent_line d ++ more
      → (parent ≡ id_of_digits d) × (after ≡ more))
      → (text ≡ rest → ⊥)
      → (es : List (List ℕ)) × AreLeft (items ++ parent ∷ []) es after
  one_taken items [] parent after left there none = absurd (none left.2)
  one_taken items (d ∷ ds) parent after left there none =
      let told = there d _ (All-head AreNameDigits d ds left.0) (left.2 ∙ more_parents d ds rest) in
      let joined : items ++ parent ∷ [] ++ map id_of_digits ds ≡ map id_of_digits front.parents =
      append_assoc items (parent ∷ []) (map id_of_digits ds)
      ∙ ap (λ (x : List ℕ). items ++ x ∷ map id_of_digits ds) told.0 ∙ left.1 in
      (ds, (All-tail AreNameDigits d ds left.0, joined, told.1))

  pub none_left : (items ds : List (List ℕ)) → AreLeft items ds text
      → ((d more : List ℕ) → AreNameDigits d → text ≡ parent_line d ++ more → ⊥)
      → items ≡ map id_of_digits front.parents
  none_left items ds left none =
      sym (append-nil items)
      ∙ ap (λ (xs : List (List ℕ)). items ++ map id_of_digits xs)
      (sym (first_missing ds left.0 left.2 none))
      ∙ left.1
