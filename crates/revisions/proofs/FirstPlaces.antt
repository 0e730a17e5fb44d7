-- A text is parted at the first place of a part.
use Rattle.std.proofs.Common.{◌≡◌, ◌≢◌, ℕ, ◌≤◌, true, false, Bool, List, [], ◌∷◌, ◌++◌, length, take, drop, Some, None, is_some, nat_eq, refl, sym, ap, subst, ◌∙◌, append_assoc, arith}
use Rattle.std.specs.Prelude.{◌↔◌, codes}
use Rattle.std.specs.List.{starts_with}
use Rattle.std.specs.Option.{option_map}
use Rattle.std.proofs.lemmas.List.{append_cancel_left, drop_at, length-append, take_at}
use Rattle.git_model.specs.Bytes.{BeginsWith, Holds}
use Rattle.git_model.proofs.Texts.{begins_test, holds_test}
use Rattle.revisions.specs.declared.commit_range.Range.TheVariants.{From}
use Rattle.revisions.specs.ExpressionReading.{before_both, dotted, expression_of, parted, range_from, range_of, IsPartedAtFirst}
use Rattle.revisions.proofs.Parting.{Sides, parted-here, parted-later, parted-nil, holds_parted}

-- ---- a place that is met is the first

at_start : (part text : List ℕ) → BeginsWith text part
    → IsPartedAtFirst part text [] (drop (length part) text)
at_start part text begins = record {
  whole = begins.1
      ∙ ap (λ (rest : List ℕ). part ++ rest)
      (sym (ap (drop (length part)) begins.1 ∙ drop_at part begins.0 (length part) refl));
  first = λ other rest is. omega arith;
}

after_byte : (part : List ℕ) (byte : ℕ) (text before after : List ℕ)
    → (BeginsWith (byte ∷ text) part → ⊥) → IsPartedAtFirst part text before after
    → IsPartedAtFirst part (byte ∷ text) (byte ∷ before) after
after_byte part byte text before after not_here later = record {
  whole = ap (λ (bytes : List ℕ). byte ∷ bytes) later.whole;
  first = no_less;
}
  where
    no_less : (other rest : List ℕ) → byte ∷ text ≡ other ++ (part ++ rest)
        → length (byte ∷ before) ≤ length other
    no_less [] rest is = absurd (not_here (rest, is))
    no_less (b ∷ other) rest is =
        let tail : text ≡ other ++ (part ++ rest) = cc in
        let less = later.first other rest tail in omega arith

-- what is parted, if anything, is parted at the first place
abbrev AtFirst : List ℕ → List ℕ → Sides → Type 0
AtFirst part text None = Unit {0}
AtFirst part text (Some sides) = IsPartedAtFirst part text sides.0 sides.1

at_first : (part text : List ℕ) → AtFirst part text (parted part text)
at_first part [] = subst (AtFirst part []) (sym (parted-nil part)) tt
at_first part (byte ∷ text) = by (at_first part text) (starts_with nat_eq (byte ∷ text) part) refl
  where
    not_begun : starts_with nat_eq (byte ∷ text) part ≡ false → BeginsWith (byte ∷ text) part → ⊥
    not_begun fails begins = let passes = (begins_test (byte ∷ text) part).1 begins in cc

    later : starts_with nat_eq (byte ∷ text) part ≡ false → (sides : Sides) → AtFirst part text sides
        → AtFirst part (byte ∷ text) (before_both byte sides)
    later fails None at = tt
    later fails (Some sides) at = after_byte part byte text sides.0 sides.1 (not_begun fails) at

    by : AtFirst part text (parted part text) → (b : Bool)
        → starts_with nat_eq (byte ∷ text) part ≡ b
        → AtFirst part (byte ∷ text) (parted part (byte ∷ text))
    by rest true passes =
        subst (AtFirst part (byte ∷ text)) (sym (parted-here part byte text passes))
        (at_start part (byte ∷ text) ((begins_test (byte ∷ text) part).0 passes))
    by rest false fails =
        subst (AtFirst part (byte ∷ text)) (sym (parted-later part byte text fails))
        (later fails (parted part text) rest)

-- ---- a text has one first place

one_first : (part text : List ℕ) (a b : List ℕ × List ℕ) → IsPartedAtFirst part text a.0 a.1
    → IsPartedAtFirst part text b.0 b.1 → a ≡ b
one_first part text a b first_a first_b =
    let up = first_a.first b.0 b.1 first_b.whole in
    let down = first_b.first a.0 a.1 first_a.whole in
    let size : length a.0 ≡ length b.0 = omega arith in
    let same : a.0 ++ (part ++ a.1) ≡ b.0 ++ (part ++ b.1) = sym first_a.whole ∙ first_b.whole in
    let before : a.0 ≡ b.0 =
    sym (take_at a.0 (part ++ a.1) (length b.0) size) ∙ ap (take (length b.0)) same
    ∙ take_at b.0 (part ++ b.1) (length b.0) refl in
    let after : part ++ a.1 ≡ part ++ b.1 =
    sym (drop_at a.0 (part ++ a.1) (length b.0) size) ∙ ap (drop (length b.0)) same
    ∙ drop_at b.0 (part ++ b.1) (length b.0) refl in
    ap (λ (front : List ℕ). (front, a.1)) before
    ∙ ap (λ (back : List ℕ). (b.0, back)) (append_cancel_left part a.1 b.1 after)

pub nowhere : (part text : List ℕ) → part ≢ [] → (parted part text ≡ None) ↔ (Holds text part → ⊥)
nowhere [] text some = absurd (some refl)
nowhere (byte ∷ more) text some =
    let test = holds_test text (byte ∷ more) in
    let is = holds_parted byte more text in (
      λ none held. let yes = test.1 held in let no = ap is_some none in absurd (cc),
      λ not_held. by (parted (byte ∷ more) text) refl (at_first (byte ∷ more) text) not_held,
    )
  where
    by : (sides : Sides) → parted (byte ∷ more) text ≡ sides
        → AtFirst (byte ∷ more) text (parted (byte ∷ more) text)
        → (Holds text (byte ∷ more) → ⊥) → parted (byte ∷ more) text ≡ None
    by None is at not_held = is
    by (Some sides) is at not_held =
        let first = subst (AtFirst (byte ∷ more) text) is at in
        absurd (not_held (sides.0, sides.1, first.whole))

pub first : (part text before after : List ℕ) → part ≢ []
    → (parted part text ≡ Some (before, after)) ↔ IsPartedAtFirst part text before after
first part text before after some = (
  λ is. subst (AtFirst part text) is (at_first part text),
  λ is_first. by is_first (parted part text) refl (at_first part text),
)
  where
    by : IsPartedAtFirst part text before after → (sides : Sides) → parted part text ≡ sides
        → AtFirst part text (parted part text) → parted part text ≡ Some (before, after)
    by is_first None is at =
        absurd ((nowhere part text some).0 is (before, after, is_first.whole))
    by is_first (Some sides) is at =
        is
        ∙ ap (λ (s : List ℕ × List ℕ). Some s)
        (one_first part text sides (before, after) (subst (AtFirst part text) is at) is_first)

pub none_before : (part text before after : List ℕ) → part ≢ []
    → IsPartedAtFirst part text before after → Holds before part → ⊥
none_before [] text before after some is held = some refl
none_before (byte ∷ more) text before after some is held =
    let Part : List ℕ = byte ∷ more in
    let rest : List ℕ = held.1 ++ (Part ++ after) in
    let earlier : text ≡ held.0 ++ (Part ++ rest) =
    is.whole ∙ ap (λ (front : List ℕ). front ++ (Part ++ after)) held.2
    ∙ append_assoc held.0 (Part ++ held.1) (Part ++ after)
    ∙ ap (λ (back : List ℕ). held.0 ++ back) (append_assoc Part held.1 (Part ++ after)) in
    let less = is.first held.0 rest earlier in
    let size = ap length held.2 in
    let longer = length-append held.0 (Part ++ held.1) in
    absurd (omega arith)

-- ---- ranges

some_dots : codes ".." ≢ []
some_dots is = cc

pub at_dots : (text left right : List ℕ) → IsPartedAtFirst (codes "..") text left right
    → range_of text ≡ dotted left right
at_dots text left right is =
    ap (range_from text) ((first (codes "..") text left right some_dots).1 is)

pub no_dots : (text : List ℕ) → (Holds text (codes "..") → ⊥)
    → range_of text ≡ option_map From (expression_of text)
no_dots text none = ap (range_from text) ((nowhere (codes "..") text some_dots).1 none)
