-- The contents of a tag are read back.
use Rattle.std.proofs.Common.{◌≡◌, ℕ, List, [], ◌∷◌, ◌++◌, map, refl, sym, ap, ◌∙◌, append_assoc, Option, None, Some, IfSome, codes}
use Rattle.std.specs.Prelude.{filter_map, slice_get, unwrap_or}
use Rattle.std.specs.List.{AllByRecursion}
use Rattle.hex.specs.Hex.{encode_lower}
use Rattle.git_model.specs.declared.kind.Kind.{Kind}
use Rattle.git_model.specs.declared.kind.Kind.TheVariants as kind
use Rattle.git_model.specs.Kind.{kind_word}
use Rattle.git_model.specs.Ident.{IsWrittenIdent}
use Rattle.git_model.specs.Commit.{line, name_line, optional_line}
use Rattle.git_model.specs.Tag.{Tag, CanWriteTag, tag_contents}
use Rattle.git_model.specs.HeaderReading.{after_word, values_of, id_of_digits}
use Rattle.git_model.specs.TagReading.{kind_named_by, tag_read}
use Rattle.git_model.proofs.OneLine.{IsOneLine, all_from, is_no_end, digits_one_line, ident_one_line, tag_name_one_line}
use Rattle.git_model.proofs.HeaderLines.{IsLine, worded, lines_text, first_line_text, message_back, values_back, named_back}

-- ---- the lines of its header

abbrev tagger_lines : Option (List ℕ) → List (List ℕ)
tagger_lines None = []
tagger_lines (Some text) = (codes "tagger " ++ text) ∷ []

abbrev lines_of : Tag → List (List ℕ)
lines_of t =
    (codes "object " ++ encode_lower t.target) ∷ (codes "type " ++ kind_word t.kind) ∷
    (codes "tag " ++ t.name) ∷ tagger_lines t.tagger

tagger_text : (tagger : Option (List ℕ)) (m : List ℕ)
    → lines_text (tagger_lines tagger) m ≡ optional_line (codes "tagger ") tagger ++ 10 ∷ m
tagger_text None m = refl
tagger_text (Some text) m = first_line_text (codes "tagger " ++ text) [] m

regroup : (object type tag tagger message : List ℕ)
    → object ++ (type ++ (tag ++ (tagger ++ message))) ≡ object ++ type ++ tag ++ tagger ++ message
regroup object type tag tagger message = simp append_assoc

text_is : (t : Tag) → tag_contents t ≡ lines_text (lines_of t) t.message
text_is t = sym (
    first_line_text (codes "object " ++ encode_lower t.target)
    ((codes "type " ++ kind_word t.kind) ∷
    (codes "tag " ++ t.name) ∷ tagger_lines t.tagger) t.message
    ∙ ap (λ (l : List ℕ). name_line (codes "object ") t.target ++ l)
    (first_line_text (codes "type " ++ kind_word t.kind)
    ((codes "tag " ++ t.name) ∷ tagger_lines t.tagger) t.message
    ∙ ap (λ (l : List ℕ). line (codes "type ") (kind_word t.kind) ++ l)
    (first_line_text (codes "tag " ++ t.name) (tagger_lines t.tagger) t.message
    ∙ ap (λ (l : List ℕ). line (codes "tag ") t.name ++ l) (tagger_text t.tagger t.message)))
    ∙ regroup (name_line (codes "object ") t.target) (line (codes "type ") (kind_word t.kind))
    (line (codes "tag ") t.name) (optional_line (codes "tagger ") t.tagger) (10 ∷ t.message)
    )

-- ---- they are lines

kind_one_line : (k : Kind) → IsOneLine (kind_word k)
kind_one_line kind.Commit = all_from is_no_end refl (codes "commit") refl
kind_one_line kind.Tree = all_from is_no_end refl (codes "tree") refl
kind_one_line kind.Blob = all_from is_no_end refl (codes "blob") refl
kind_one_line kind.Tag = all_from is_no_end refl (codes "tag") refl

tagger_is : (tagger : Option (List ℕ)) → IfSome tagger IsWrittenIdent
    → AllByRecursion IsLine (tagger_lines tagger)
tagger_is None h = tt
tagger_is (Some text) h =
    (worded (codes "tagger ") text (λ e. cc e) refl (ident_one_line text h), tt)

lines_are : (t : Tag) → CanWriteTag t → AllByRecursion IsLine (lines_of t)
lines_are t h = (
  worded (codes "object ") (encode_lower t.target) (λ e. cc e) refl
      (digits_one_line t.target h.target),
  (
    worded (codes "type ") (kind_word t.kind) (λ e. cc e) refl (kind_one_line t.kind),
    (
      worded (codes "tag ") t.name (λ e. cc e) refl
          (tag_name_one_line t.name h.name),
      tagger_is t.tagger h.tagger,
    ),
  ),
)

-- ---- what the lines with a word say

pub kind_back : (k : Kind) → kind_named_by (kind_word k) ≡ k
unfolding kind_named_by
kind_back kind.Commit = refl
kind_back kind.Tree = refl
kind_back kind.Blob = refl
kind_back kind.Tag = refl

tagger_back : (tagger : Option (List ℕ))
    → slice_get (filter_map (after_word (codes "tagger ")) (tagger_lines tagger)) 0 ≡ tagger
tagger_back None = refl
tagger_back (Some text) = refl

pub tag_back : (t : Tag) → CanWriteTag t → tag_read (tag_contents t) ≡ t
unfolding tag_read
tag_back t h =
    let lines = lines_are t h in
    let values : (word : List ℕ) → values_of word (lines_text (lines_of t) t.message) ≡ filter_map
    (after_word word) (lines_of t) = λ word. values_back word (lines_of t) t.message lines in
    let target = ap (λ (l : List (List ℕ)). unwrap_or (slice_get (map id_of_digits l) 0) [])
    (values (codes "object ")) ∙ named_back t.target h.target in
    let type = ap (λ (l : List (List ℕ)). kind_named_by (unwrap_or (slice_get l 0) []))
    (values (codes "type ")) ∙ kind_back t.kind in
    let name = ap (λ (l : List (List ℕ)). unwrap_or (slice_get l 0) []) (values (codes "tag ")) in
    let tagger = ap (λ (l : List (List ℕ)). slice_get l 0) (values (codes "tagger "))
    ∙ tagger_back t.tagger in
    let message = message_back (lines_of t) t.message lines in
    ap tag_read (text_is t)
    ∙ (λ i. record {
      target = target i;
      kind = type i;
      name = name i;
      tagger = tagger i;
      message = message i;
    })
