-- The contents of a commit are read back.
use Rattle.std.proofs.Common.{◌≡◌, ℕ, List, [], ◌∷◌, ◌++◌, map, refl, sym, ap, ◌∙◌, append_assoc, drop, Option, None, Some, All, IfSome, codes}
use Rattle.std.specs.Prelude.{filter_map, slice_get, unwrap_or}
use Rattle.std.specs.List.{AllByRecursion, cons_option, flat_map}
use Rattle.std.proofs.lemmas.List.Elements.{All-head, All-tail}
use Rattle.hex.specs.Hex.{encode_lower}
use Rattle.git_model.specs.ObjectName.{IsObjectName}
use Rattle.git_model.specs.Commit.{Commit, CanWriteCommit, IsEncoding, commit_contents, line, name_line, optional_line}
use Rattle.git_model.specs.HeaderReading.{after_word, leading_values, values_of, id_of_digits}
use Rattle.git_model.specs.CommitReading.{commit_read, parent_values}
use Rattle.git_model.proofs.OneLine.{digits_one_line, ident_one_line}
use Rattle.git_model.proofs.HeaderLines.{IsLine, worded, lines_text, first_line_text, lines_back, message_back, values_back, named_back}

-- ---- the lines of its header

abbrev pub parent_text : List ℕ → List ℕ
parent_text id = codes "parent " ++ encode_lower id

abbrev pub encoding_lines : Option (List ℕ) → List (List ℕ)
encoding_lines None = []
encoding_lines (Some text) = (codes "encoding " ++ text) ∷ []

abbrev pub last_lines : Commit → List (List ℕ)
last_lines c =
    (codes "author " ++ c.author) ∷ (codes "committer " ++ c.committer) ∷ encoding_lines c.encoding

abbrev pub lines_of : Commit → List (List ℕ)
lines_of c = (codes "tree " ++ encode_lower c.tree) ∷ map parent_text c.parents ++ last_lines c

parents_text : (ps : List (List ℕ)) (ts : List (List ℕ)) (m : List ℕ)
    → lines_text (map parent_text ps ++ ts) m ≡ flat_map
    (name_line (codes "parent ")) ps ++ lines_text ts m
parents_text [] ts m = refl
parents_text (p ∷ ps) ts m =
    first_line_text (parent_text p) (map parent_text ps ++ ts) m
    ∙ ap (λ (l : List ℕ). name_line (codes "parent ") p ++ l) (parents_text ps ts m)
    ∙ sym (append_assoc (name_line (codes "parent ") p) (flat_map (name_line (codes "parent ")) ps)
    (lines_text ts m))

encoding_text : (encoding : Option (List ℕ)) (m : List ℕ)
    → lines_text (encoding_lines encoding) m ≡ optional_line (codes "encoding ") encoding ++ 10 ∷ m
encoding_text None m = refl
encoding_text (Some text) m = first_line_text (codes "encoding " ++ text) [] m

last_text : (c : Commit) → lines_text (last_lines c) c.message
    ≡ line (codes "author ") c.author ++
    (line (codes "committer ") c.committer ++
    (optional_line (codes "encoding ") c.encoding ++ 10 ∷ c.message))
last_text c =
    first_line_text (codes "author " ++ c.author)
    ((codes "committer " ++ c.committer) ∷ encoding_lines c.encoding) c.message
    ∙ ap (λ (l : List ℕ). line (codes "author ") c.author ++ l)
    (first_line_text (codes "committer " ++ c.committer) (encoding_lines c.encoding) c.message
    ∙ ap (λ (l : List ℕ). line (codes "committer ") c.committer ++ l)
    (encoding_text c.encoding c.message))

regroup : (tree parents author committer encoding message : List ℕ)
    → tree ++ (parents ++
    (author ++ (committer ++
    (encoding ++ message)))) ≡ tree ++ parents ++ author ++ committer ++ encoding ++ message
regroup tree parents author committer encoding message = simp append_assoc

pub text_is : (c : Commit) → commit_contents c ≡ lines_text (lines_of c) c.message
text_is c =
    sym (first_line_text (codes "tree " ++ encode_lower c.tree)
    (map parent_text c.parents ++ last_lines c) c.message
    ∙ ap (λ (l : List ℕ). name_line (codes "tree ") c.tree ++ l)
    (parents_text c.parents (last_lines c) c.message
    ∙ ap (λ (l : List ℕ). flat_map (name_line (codes "parent ")) c.parents ++ l) (last_text c))
    ∙ regroup (name_line (codes "tree ") c.tree) (flat_map (name_line (codes "parent ")) c.parents)
    (line (codes "author ") c.author) (line (codes "committer ") c.committer)
    (optional_line (codes "encoding ") c.encoding) (10 ∷ c.message))

-- ---- they are lines

parents_are : (ps : List (List ℕ)) (ts : List (List ℕ)) → All IsObjectName ps
    → AllByRecursion IsLine ts → AllByRecursion IsLine (map parent_text ps ++ ts)
parents_are [] ts h t = t
parents_are (p ∷ ps) ts h t = (
  worded (codes "parent ") (encode_lower p) (λ e. cc e) refl
      (digits_one_line p (All-head IsObjectName p ps h)),
  parents_are ps ts
      (All-tail IsObjectName p ps h) t,
)

encoding_is : (encoding : Option (List ℕ)) → IfSome encoding IsEncoding
    → AllByRecursion IsLine (encoding_lines encoding)
encoding_is None h = tt
encoding_is (Some text) h = (worded (codes "encoding ") text (λ e. cc e) refl h.one_line, tt)

pub lines_are : (c : Commit) → CanWriteCommit c → AllByRecursion IsLine (lines_of c)
lines_are c h = (
  worded (codes "tree ") (encode_lower c.tree) (λ e. cc e) refl (digits_one_line c.tree h.tree),
  parents_are c.parents (last_lines c) h.parents (
    worded (codes "author ") c.author (λ e. cc e) refl (ident_one_line c.author h.author),
    (
      worded (codes "committer ") c.committer (λ e. cc e) refl
          (ident_one_line c.committer h.committer),
      encoding_is c.encoding h.encoding,
    ),
  ),
)

-- ---- what the lines with a word say

-- no parent's line has another word
past_parents : (word : List ℕ) → ((id : List ℕ) → after_word word (parent_text id) ≡ None)
    → (ps ts : List (List ℕ))
    → filter_map (after_word word) (map parent_text ps ++ ts) ≡ filter_map (after_word word) ts
past_parents word other [] ts = refl
past_parents word other (p ∷ ps) ts =
    ap (λ (o : Option (List ℕ)). cons_option o
    (filter_map (after_word word) (map parent_text ps ++ ts))) (other p)
    ∙ past_parents word other ps ts

-- the author's line follows the last parent's
of_parents : (ps : List (List ℕ)) (c : Commit)
    → leading_values (codes "parent ") (map parent_text ps ++ last_lines c) ≡ map encode_lower ps
unfolding leading_values
of_parents [] c = refl
of_parents (p ∷ ps) c = ap (λ (l : List (List ℕ)). encode_lower p ∷ l) (of_parents ps c)

pub parents_are_led : (c : Commit) → CanWriteCommit c
    → parent_values (lines_text (lines_of c) c.message) ≡ map encode_lower c.parents
unfolding parent_values
parents_are_led c h =
    ap (λ (l : List (List ℕ)). leading_values (codes "parent ") (drop 1 l))
    (lines_back (lines_of c) c.message (lines_are c h))
    ∙ of_parents c.parents c

parents_back : (ps : List (List ℕ)) → All IsObjectName ps
    → map id_of_digits (map encode_lower ps) ≡ ps
parents_back [] h = refl
parents_back (p ∷ ps) h =
    λ i. named_back p (All-head IsObjectName p ps h) i ∷ parents_back ps
    (All-tail IsObjectName p ps h) i

encoding_back : (encoding : Option (List ℕ))
    → slice_get (filter_map (after_word (codes "encoding ")) (encoding_lines encoding)) 0 ≡ encoding
encoding_back None = refl
encoding_back (Some text) = refl

pub commit_back : (c : Commit) → CanWriteCommit c → commit_read (commit_contents c) ≡ c
unfolding commit_read
commit_back c h =
    let lines = lines_are c h in
    let values : (word : List ℕ)
    → values_of word (lines_text (lines_of c) c.message) ≡ filter_map (after_word word) (lines_of c) =
    λ word. values_back word (lines_of c) c.message lines in
    let tree = ap (λ (l : List (List ℕ)). unwrap_or (slice_get (map id_of_digits l) 0) [])
    (values (codes "tree ")) ∙ named_back c.tree h.tree in
    let parents = ap (map id_of_digits) (parents_are_led c h)
    ∙ parents_back c.parents h.parents in
    let author = ap (λ (l : List (List ℕ)). unwrap_or (slice_get l 0) [])
    (values (codes "author ") ∙ past_parents (codes "author ") (λ id. refl) c.parents
    (last_lines c)) in
    let committer = ap (λ (l : List (List ℕ)). unwrap_or (slice_get l 0) [])
    (values (codes "committer ") ∙ past_parents (codes "committer ") (λ id. refl) c.parents
    (last_lines c)) in
    let encoding = ap (λ (l : List (List ℕ)). slice_get l 0)
    (values (codes "encoding ") ∙ past_parents (codes "encoding ") (λ id. refl) c.parents
    (last_lines c)) ∙ encoding_back c.encoding in
    let message = message_back (lines_of c) c.message lines in
    ap commit_read (text_is c)
    ∙ (λ i. record {
      tree = tree i;
      parents = parents i;
      author = author i;
      committer = committer i;
      encoding = encoding i;
      message = message i;
    })
