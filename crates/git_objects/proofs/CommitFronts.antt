-- The header of a commit at the front of a text: its tree, its parents, its idents and its end.
use Rattle.std.proofs.Common.{◌≡◌, ◌≢◌, ℕ, List, [], ◌∷◌, ◌++◌, length, take, drop, get_or, refl, sym, ap, ◌∙◌, Option, Some, None, All, arith, codes}
use Rattle.std.specs.List.{flat_map}
use Rattle.std.proofs.lemmas.List.{append_assoc, append_cancel_left, take_at, drop_at}
use Rattle.std.proofs.lemmas.List.Elements.{All-head, All-tail}
use Rattle.std.proofs.lemmas.Option.{none-some, some_pair_parts}
use Rattle.hex.specs.Hex.{encode_lower, lower_digits}
use Rattle.hex.proofs.HexLemmas.{length-encode_with}
use Rattle.git_model.specs.ObjectName.{IsObjectName}
use Rattle.git_model.specs.Commit.{Commit, CanWriteCommit, commit_contents, line, name_line, optional_line}
use Rattle.git_model.specs.CommitReading.{commit_read}
use Rattle.git_model.proofs.CommitReadings.{commit_back}
use Rattle.git_objects.specs.Fronts.{IsFront}
use Rattle.git_objects.specs.HeaderParts.{end_lines}
use Rattle.git_objects.specs.CommitParts.{AreParents, IsIdents, idents_text, IsEncoded}
use Rattle.git_objects.proofs.Fronts.{no_front, Both, both, first_missing, second_missing, both_there}
use Rattle.git_objects.proofs.Lines.{same_digits}

-- ---- parents

abbrev parent_line : List ℕ → List ℕ
parent_line = name_line (codes "parent ")

long_digits : (id : List ℕ) → IsObjectName id → length (encode_lower id) ≡ 40
long_digits id is = omega (arith, length-encode_with lower_digits id, is.size)

-- lines of names at the front of one text are one
same_line : (id other x y : List ℕ) → IsObjectName id → IsObjectName other
    → parent_line id ++ x ≡ parent_line other ++ y → (id ≡ other) × (x ≡ y)
same_line id other x y p q e =
    let after : encode_lower id ++ (10 ∷ x) ≡ encode_lower other ++ (10 ∷ y) =
    append_cancel_left (codes "parent ") (encode_lower id ++ (10 ∷ x))
    (encode_lower other ++ (10 ∷ y))
    (sym (regroup id x) ∙ e ∙ regroup other y) in
    let digits : encode_lower id ≡ encode_lower other =
    sym (take_at (encode_lower id) (10 ∷ x) 40 (long_digits id p)) ∙ ap (take 40) after
    ∙ take_at (encode_lower other) (10 ∷ y) 40 (long_digits other q) in
    let rests : ◌≡◌ {A = List ℕ} (10 ∷ x) (10 ∷ y) =
    sym (drop_at (encode_lower id) (10 ∷ x) 40 (long_digits id p)) ∙ ap (drop 40) after
    ∙ drop_at (encode_lower other) (10 ∷ y) 40 (long_digits other q) in
    (same_digits id other p q digits, ap (drop 1) rests)
  where
    regroup : (id x : List ℕ)
        → parent_line id ++ x ≡ codes "parent " ++ (encode_lower id ++ (10 ∷ x))
    regroup id x = simp append_assoc

abbrev NoParent : List ℕ → Type 0
NoParent rest = (id : List ℕ) (more : List ℕ) → IsObjectName id → rest ≢ parent_line id ++ more

same_parents : (ps qs : List (List ℕ)) (x y : List ℕ) → All IsObjectName ps → All IsObjectName qs
    → NoParent x → NoParent y → flat_map parent_line ps ++ x ≡ flat_map parent_line qs ++ y
    → (ps ≡ qs) × (x ≡ y)
same_parents [] [] x y p q no_x no_y e = (refl, e)
same_parents [] (b ∷ qs) x y p q no_x no_y e =
    absurd
    (no_x b (flat_map parent_line qs ++ y) (All-head IsObjectName b qs q) (e ∙ append_assoc (parent_line b) (flat_map parent_line qs) y))
same_parents (a ∷ ps) [] x y p q no_x no_y e =
    absurd
    (no_y a (flat_map parent_line ps ++ x) (All-head IsObjectName a ps p) (sym e ∙ append_assoc (parent_line a) (flat_map parent_line ps) x))
same_parents (a ∷ ps) (b ∷ qs) x y p q no_x no_y e =
    let heads = same_line a b (flat_map parent_line ps ++ x) (flat_map parent_line qs ++ y) (All-head IsObjectName a ps p) (All-head IsObjectName b qs q)
    (sym (append_assoc (parent_line a) (flat_map parent_line ps) x) ∙ e ∙ append_assoc (parent_line b) (flat_map parent_line qs) y) in
    let tails =
    same_parents ps qs x y (All-tail IsObjectName a ps p)
    (All-tail IsObjectName b qs q) no_x no_y heads.1 in
    (rw (heads.0, tails.0) refl, tails.1)

-- ---- what follows the parents

abbrev pub Tail : (List ℕ × List ℕ) × Option (List ℕ) → Type 0
Tail = Both IsIdents IsEncoded idents_text (end_lines (codes "encoding "))

abbrev pub tail : (List ℕ × List ℕ) × Option (List ℕ) → List ℕ
tail = both IsIdents IsEncoded idents_text (end_lines (codes "encoding "))

-- no parent's line stands there: the author's line begins with another letter
no_parent : (t : (List ℕ × List ℕ) × Option (List ℕ)) (rest : List ℕ) → NoParent (tail t ++ rest)
no_parent t rest id more is e =
    let letters : ◌≡◌ {A = ℕ} 97 112 = ap (λ l. get_or l 0 0) e in omega arith

abbrev pub Lines : List (List ℕ) × ((List ℕ × List ℕ) × Option (List ℕ)) → Type 0
Lines = Both (All IsObjectName) Tail (flat_map (name_line (codes "parent "))) tail

abbrev pub lines : List (List ℕ) × ((List ℕ × List ℕ) × Option (List ℕ)) → List ℕ
lines = both (All IsObjectName) Tail (flat_map (name_line (codes "parent "))) tail

parted : (bytes : List ℕ) (ps : List (List ℕ)) (r : List ℕ) → AreParents bytes ps r
    → (q : List (List ℕ) × ((List ℕ × List ℕ) × Option (List ℕ))) (rest : List ℕ) → Lines q
    → bytes ≡ lines q ++ rest → (ps ≡ q.0) × (r ≡ tail q.1 ++ rest)
parted bytes ps r h q rest is e =
    same_parents ps q.0 r (tail q.1 ++ rest) h.names is.0 h.no_more (no_parent q.1 rest)
    (sym h.lines ∙ e ∙ append_assoc (flat_map parent_line q.0) (tail q.1) rest)

pub tail_missing : (bytes : List ℕ) (ps : List (List ℕ)) (r : List ℕ) → AreParents bytes ps r
    → IsFront Tail tail r None → IsFront Lines lines bytes None
tail_missing bytes ps r h f =
    no_front bytes
    (λ q rest is e. none-some _ (f.only q.1 rest is.1 (parted bytes ps r h q rest is e).1))

pub tail_there : (bytes : List ℕ) (ps : List (List ℕ)) (r : List ℕ)
    (t : (List ℕ × List ℕ) × Option (List ℕ)) (s : List ℕ)
    → AreParents bytes ps r → IsFront Tail tail r (Some (t, s))
    → IsFront Lines lines bytes (Some ((ps, t), s))
tail_there bytes ps r t s h f = record {
  found =
      ((h.names, f.found.0), h.lines ∙ ap (λ x. flat_map parent_line ps ++ x) f.found.1 ∙ sym (append_assoc (flat_map parent_line ps) (tail t) s));
  only = λ q rest is e.
      let first = parted bytes ps r h q rest is e in
      let same = some_pair_parts _ _ _ _ (f.only q.1 rest is.1 first.1) in
      rw (first.0, same.0, same.1) refl;
}

-- ---- the whole

abbrev Head : Type 0
Head = List ℕ × (List (List ℕ) × ((List ℕ × List ℕ) × Option (List ℕ)))

abbrev pub IsHead : Head → Type 0
IsHead = Both IsObjectName Lines (name_line (codes "tree ")) lines

abbrev pub head_text : Head → List ℕ
head_text = both IsObjectName Lines (name_line (codes "tree ")) lines

abbrev commit_from : Head → List ℕ → Commit
commit_from h message = record { tree = h.0; parents = h.1.0; author = h.1.1.0.0; committer = h.1.1.0.1; encoding = h.1.1.1; message = message }

abbrev head_of : Commit → Head
head_of c = (c.tree, (c.parents, ((c.author, c.committer), c.encoding)))

regroup : (tree parents author committer encoding message : List ℕ)
    → (tree ++ (parents ++ ((author ++ committer) ++ (encoding ++ 10 ∷ [])))) ++ message
    ≡ tree ++ parents ++ author ++ committer ++ encoding ++ 10 ∷ message
regroup tree parents author committer encoding message = simp append_assoc

whole_text : (c : Commit) → head_text (head_of c) ++ c.message ≡ commit_contents c
whole_text c =
    regroup (name_line (codes "tree ") c.tree) (flat_map parent_line c.parents)
    (line (codes "author ") c.author) (line (codes "committer ") c.committer)
    (optional_line (codes "encoding ") c.encoding) c.message

head_is : (c : Commit) → CanWriteCommit c → IsHead (head_of c)
head_is c is = (is.tree, (is.parents, ((is.author, is.committer), is.encoding)))

pub no_commit : (bytes : List ℕ) → IsFront IsHead head_text bytes None → (c : Commit)
    → CanWriteCommit c → bytes ≡ commit_contents c → ⊥
no_commit bytes f c is e =
    none-some _ (f.only (head_of c) c.message (head_is c is) (e ∙ sym (whole_text c)))

pub commit_found : (bytes : List ℕ) (h : Head) (message : List ℕ)
    → IsFront IsHead head_text bytes (Some (h, message))
    → CanWriteCommit (commit_from h message) × (bytes ≡ commit_contents (commit_from h message))
commit_found bytes h message f = (
  record { tree = f.found.0.0; parents = f.found.0.1.0; author = f.found.0.1.1.0.0; committer = f.found.0.1.1.0.1; encoding = f.found.0.1.1.1 },
  f.found.1 ∙ whole_text (commit_from h message),
)

pub commit_reads : (bytes : List ℕ) (h : Head) (message : List ℕ)
    → IsFront IsHead head_text bytes (Some (h, message)) → commit_from h message ≡ commit_read bytes
commit_reads bytes h message f =
    let found = commit_found bytes h message f in sym (ap commit_read found.1 ∙ commit_back (commit_from h message) found.0)

pub commit_only : (bytes : List ℕ) (h : Head) (message : List ℕ)
    → IsFront IsHead head_text bytes (Some (h, message)) → (c : Commit) → CanWriteCommit c
    → bytes ≡ commit_contents c → commit_from h message ≡ c
commit_only bytes h message f c is e =
    let same =
    some_pair_parts _ _ _ _
    (f.only (head_of c) c.message (head_is c is) (e ∙ sym (whole_text c))) in
    ap (λ (p : Head × List ℕ). commit_from p.0 p.1) (λ i. (same.0 i, same.1 i))

-- ---- line after line

-- The line of a commit's tree and those of its parents were taken: these, and what stands after.
pub record HasParents (bytes tree : List ℕ) (parents : List (List ℕ)) (rest : List ℕ) : Type 0 where
  pub after_tree : List ℕ
  pub tree_line : IsFront IsObjectName (name_line (codes "tree ")) bytes (Some (tree, after_tree))
  pub parent_lines : AreParents after_tree parents rest

-- The lines of its idents were taken, too.
pub record HasIdents (bytes tree : List ℕ) (parents : List (List ℕ)) (who : List ℕ × List ℕ)
    (rest : List ℕ) : Type 0 where
  pub after_parents : List ℕ
  pub has_parents : HasParents bytes tree parents after_parents
  pub ident_lines : IsFront IsIdents idents_text after_parents (Some (who, rest))

pub parents_taken : (bytes tree after_tree : List ℕ) (parents : List (List ℕ)) (rest : List ℕ)
    → IsFront IsObjectName (name_line (codes "tree ")) bytes (Some (tree, after_tree))
    → AreParents after_tree parents rest → HasParents bytes tree parents rest
parents_taken bytes tree after_tree parents rest line lines =
    record { after_tree = after_tree; tree_line = line; parent_lines = lines }

pub idents_taken : (bytes tree : List ℕ) (parents : List (List ℕ)) (after_parents : List ℕ)
    (who : List ℕ × List ℕ) (rest : List ℕ) → HasParents bytes tree parents after_parents
    → IsFront IsIdents idents_text after_parents (Some (who, rest))
    → HasIdents bytes tree parents who rest
idents_taken bytes tree parents after_parents who rest has lines =
    record { after_parents = after_parents; has_parents = has; ident_lines = lines }

-- ---- what is missing

-- What follows the tree is missing.
after_tree_missing : (bytes tree : List ℕ) (parents : List (List ℕ)) (rest : List ℕ)
    → HasParents bytes tree parents rest → IsFront Tail tail rest None
    → IsFront IsHead head_text bytes None
after_tree_missing bytes tree parents rest h none =
    second_missing IsObjectName Lines
    (name_line (codes "tree ")) lines bytes tree h.after_tree h.tree_line
    (tail_missing h.after_tree parents rest h.parent_lines none)

pub tree_missing : (bytes : List ℕ) → IsFront IsObjectName (name_line (codes "tree ")) bytes None
    → IsFront IsHead head_text bytes None
tree_missing bytes none =
    first_missing IsObjectName Lines (name_line (codes "tree ")) lines bytes none

pub idents_missing : (bytes tree : List ℕ) (parents : List (List ℕ)) (rest : List ℕ)
    → HasParents bytes tree parents rest → IsFront IsIdents idents_text rest None
    → IsFront IsHead head_text bytes None
idents_missing bytes tree parents rest h none =
    after_tree_missing bytes tree parents rest h
    (first_missing IsIdents IsEncoded idents_text (end_lines (codes "encoding ")) rest none)

pub encoding_missing : (bytes tree : List ℕ) (parents : List (List ℕ)) (who : List ℕ × List ℕ)
    (rest : List ℕ) → HasIdents bytes tree parents who rest
    → IsFront IsEncoded (end_lines (codes "encoding ")) rest None
    → IsFront IsHead head_text bytes None
encoding_missing bytes tree parents who rest h none =
    after_tree_missing bytes tree parents h.after_parents h.has_parents
    (second_missing IsIdents IsEncoded idents_text (end_lines (codes "encoding "))
    h.after_parents who rest h.ident_lines none)

-- Nothing is missing.
pub head_there : (bytes tree : List ℕ) (parents : List (List ℕ)) (who : List ℕ × List ℕ)
    (rest : List ℕ) (encoding : Option (List ℕ)) (message : List ℕ)
    → HasIdents bytes tree parents who rest
    → IsFront IsEncoded (end_lines (codes "encoding ")) rest (Some (encoding, message))
    → IsFront IsHead head_text bytes (Some ((tree, (parents, (who, encoding))), message))
head_there bytes tree parents who rest encoding message h last =
    let p = h.has_parents in
    both_there IsObjectName Lines (name_line (codes "tree ")) lines
    bytes tree p.after_tree (parents, (who, encoding)) message p.tree_line
    (tail_there p.after_tree parents h.after_parents (who, encoding) message p.parent_lines
    (both_there IsIdents IsEncoded idents_text (end_lines (codes "encoding "))
    h.after_parents who rest encoding message h.ident_lines last))
