-- The suffixes that have been read, and those of the pieces that are left.
use Rattle.std.proofs.Common.{◌≡◌, ℕ, List, [], ◌∷◌, ◌++◌, Option, Some, None, refl, sym, ap, ◌∙◌, append_assoc, append-nil}
use Rattle.std.specs.Option.{option_map}
use Rattle.revisions.specs.declared.suffix.Suffix.{Suffix}
use Rattle.std.specs.Prelude.{if◌then◌else◌, false}
use Rattle.std.specs.List.{list_any, before_first}
use Rattle.revisions.specs.ExpressionReading.{Cut, cut, is_mark, is_colon, is_base, suffix_of, with_suffix, suffixes_of, all_suffixes, after_colon, expression_of}
use Rattle.revisions.proofs.Cuts.{cut-plain}

abbrev pub after_read : List Suffix → Option (List Suffix) → Option (List Suffix)
after_read suffixes more = option_map (λ others. suffixes ++ others) more

-- A text begins with a mark or is empty, and its suffixes are those that stand in a list and those
-- of the rest.
pub record IsRead (marked rest : List ℕ) (suffixes : List Suffix) : Type 0 where
  pub begins : (cut rest).front ≡ []
  pub same : suffixes_of (cut marked).pieces ≡ after_read suffixes (suffixes_of (cut rest).pieces)

pub read-none : (marked : List ℕ) → (cut marked).front ≡ [] → IsRead marked marked []
read-none marked begins = record {
  begins = begins;
  same = sym (nothing (suffixes_of
      (cut marked).pieces));
}
  where
    nothing : (o : Option (List Suffix)) → after_read [] o ≡ o
    nothing None = refl
    nothing (Some more) = refl

one_more : (suffixes : List Suffix) (suffix : Suffix) (o : Option (List Suffix))
    → after_read suffixes (with_suffix suffix o) ≡ after_read (suffixes ++ suffix ∷ []) o
one_more suffixes suffix None = refl
one_more suffixes suffix (Some more) = ap Some (sym (append_assoc suffixes (suffix ∷ []) more))

pub read-more : (marked rest after piece : List ℕ) (suffixes : List Suffix) (suffix : Suffix)
    → IsRead marked rest suffixes → (cut rest).pieces ≡ piece ∷ (cut after).pieces
    → (cut after).front ≡ [] → Some suffix ≡ suffix_of piece
    → IsRead marked after (suffixes ++ suffix ∷ [])
read-more marked rest after piece suffixes suffix read pieces begins is = record {
  begins = begins;
  same = read.same
      ∙ ap (λ (ps : List (List ℕ)). after_read suffixes (suffixes_of ps)) pieces
      ∙ rw (← is) (one_more suffixes suffix (suffixes_of (cut after).pieces));
}

pub read-bad : (marked rest after piece : List ℕ) (suffixes : List Suffix)
    → IsRead marked rest suffixes → (cut rest).pieces ≡ piece ∷ (cut after).pieces
    → None ≡ suffix_of piece → suffixes_of (cut marked).pieces ≡ None
read-bad marked rest after piece suffixes read pieces is =
    read.same
    ∙ ap (λ (ps : List (List ℕ)). after_read suffixes (suffixes_of ps)) pieces
    ∙ rw (← is) refl

pub read-all : (marked rest : List ℕ) (suffixes : List Suffix) → IsRead marked rest suffixes
    → (cut rest).pieces ≡ [] → suffixes_of (cut marked).pieces ≡ Some suffixes
read-all marked rest suffixes read none =
    read.same ∙ ap (λ (ps : List (List ℕ)). after_read suffixes (suffixes_of ps)) none
    ∙ ap (λ (s : List Suffix). Some s) (append-nil suffixes)

-- ---- a whole expression

-- What an expression is, by its base, its marked part and its path.
pub expression_is : (text base marked : List ℕ) (path : Option (List ℕ))
    → base ++ marked ≡ before_first is_colon text → list_any is_mark base ≡ false
    → (cut marked).front ≡ [] → path ≡ after_colon text
    → expression_of text
    ≡ (if is_base base
    then option_map (λ suffixes. record { base = base; suffixes = suffixes })
    (all_suffixes (cut marked).pieces path) else None)
unfolding expression_of
expression_is text base marked path both none begins is =
    ap (λ (c : Cut). (if is_base c.front
    then option_map (λ suffixes. record { base = c.front; suffixes = suffixes })
    (all_suffixes c.pieces (after_colon text)) else None)) cut_is
    ∙ ap (λ (p : Option (List ℕ)). (if is_base base
    then option_map (λ suffixes. record { base = base; suffixes = suffixes })
    (all_suffixes (cut marked).pieces p) else None)) (sym is)
  where
    cut_is : cut (before_first is_colon text) ≡ record {
      front = base;
      pieces =
          (cut marked).pieces;
    }
    cut_is =
        ap cut (sym both) ∙ cut-plain base marked none
        ∙ ap (λ (f : List ℕ). record { front = f; pieces = (cut marked).pieces })
        (ap (λ (f : List ℕ). base ++ f) begins ∙ append-nil base)
