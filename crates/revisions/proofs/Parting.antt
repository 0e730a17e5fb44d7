-- Where a text is parted: the first place of a part.
use Rattle.std.proofs.Common.{◌≡◌, ℕ, suc, ◌+◌, ◌<◌, true, false, List, [], ◌∷◌, ◌++◌, length, take, drop, get_or, Option, Some, None, refl, sym, ap, subst, ◌∙◌, append_assoc, append-nil, add-one, nat_eq, is_some, Bool}
use Rattle.std.specs.List.{starts_with}
use Rattle.std.specs.Option.{option_map}
use Rattle.std.proofs.Math.Seq.{take-suc, drop-cons, drop-length}
use Rattle.git_model.specs.Bytes.{holds}
use Rattle.revisions.specs.ExpressionReading.{before_both, parted}

-- Bytes before what stands before the part.
abbrev pub Sides : Type 0
Sides = Option (List ℕ × List ℕ)

abbrev pub ahead : List ℕ → Sides → Sides
ahead front sides = option_map (λ s. (front ++ s.0, s.1)) sides

pub parted-here : (part : List ℕ) (byte : ℕ) (bytes : List ℕ)
    → starts_with nat_eq (byte ∷ bytes) part ≡ true
    → parted part (byte ∷ bytes) ≡ Some ([], drop (length part) (byte ∷ bytes))
unfolding parted
parted-here part byte bytes e = rw e refl

pub parted-later : (part : List ℕ) (byte : ℕ) (bytes : List ℕ)
    → starts_with nat_eq (byte ∷ bytes) part ≡ false
    → parted part (byte ∷ bytes) ≡ before_both byte (parted part bytes)
unfolding parted
parted-later part byte bytes e = rw e refl

pub parted-nil : (part : List ℕ) → parted part [] ≡ None
unfolding parted
parted-nil part = refl

ahead-byte : (front : List ℕ) (byte : ℕ) (sides : Sides)
    → ahead front (before_both byte sides) ≡ ahead (front ++ byte ∷ []) sides
ahead-byte front byte None = refl
ahead-byte front byte (Some s) =
    ap (λ (f : List ℕ). Some (f, s.1)) (sym (append_assoc front (byte ∷ []) s.0))

pub ahead-nil : (sides : Sides) → ahead [] sides ≡ sides
ahead-nil None = refl
ahead-nil (Some s) = refl

-- What is parted, as far as the first i bytes have been passed.
pub record IsPassed (part text : List ℕ) (i : ℕ) : Type 0 where
  pub same : parted part text ≡ ahead (take i text) (parted part (drop i text))

pub passed-none : (part text : List ℕ) → IsPassed part text 0
passed-none part text = record { same = sym (ahead-nil (parted part text)) }

pub passed-more : (part text : List ℕ) (i : ℕ) → i < length text
    → starts_with nat_eq (drop i text) part ≡ false → IsPassed part text i
    → IsPassed part text (i + 1)
passed-more part text i lt e passed = record {
  same = passed.same
      ∙ ap (λ (t : List ℕ). ahead (take i text) (parted part t)) here
      ∙ ap (ahead (take i text)) (parted-later part (get_or text i 0) (drop (i + 1) text)
      (subst (λ (t : List ℕ). starts_with nat_eq t part ≡ false) here e))
      ∙ ahead-byte (take i text) (get_or text i 0) (parted part (drop (i + 1) text))
      ∙ ap (λ (f : List ℕ). ahead f (parted part (drop (i + 1) text))) (sym (front text i lt));
}
  where
    here : drop i text ≡ get_or text i 0 ∷ drop (i + 1) text
    here = rw (add-one, drop-cons text i 0) refl

    front : (xs : List ℕ) (k : ℕ) → k < length xs → take (k + 1) xs
        ≡ take k xs ++ get_or xs k 0 ∷ []
    front xs k within = rw add-one (take-suc xs k 0 within)

pub passed-found : (part text : List ℕ) (i : ℕ) → i < length text
    → starts_with nat_eq (drop i text) part ≡ true → IsPassed part text i
    → parted part text ≡ Some (take i text, drop (length part) (drop i text))
passed-found part text i lt e passed =
    passed.same ∙ ap (ahead (take i text)) found
    ∙ ap (λ (f : List ℕ). Some (f, drop (length part) (drop i text))) (append-nil (take i text))
  where
    here : drop i text ≡ get_or text i 0 ∷ drop (suc i) text
    here = drop-cons text i 0 lt

    found : parted part (drop i text) ≡ Some ([], drop (length part) (drop i text))
    found = rw here (parted-here part (get_or text i 0) (drop (suc i) text)
        (subst (λ (t : List ℕ). starts_with nat_eq t part ≡ true) here e))

pub passed-all : (part text : List ℕ) → IsPassed part text (length text)
    → parted part text ≡ None
passed-all part text passed =
    passed.same ∙ ap (λ (t : List ℕ). ahead (take (length text) text) (parted part t))
    (drop-length text)
    ∙ ap (ahead (take (length text) text)) (parted-nil part)

-- a part that is not empty stands in a text exactly where the text is parted at it
pub holds_parted : (byte : ℕ) (more text : List ℕ)
    → holds text (byte ∷ more) ≡ is_some (parted (byte ∷ more) text)
holds_parted byte more [] = sym (ap is_some (parted-nil (byte ∷ more)))
holds_parted byte more (b ∷ text) = by (holds_parted byte more text)
    (starts_with nat_eq (b ∷ text) (byte ∷ more)) refl
  where
    Part : List ℕ
    Part = byte ∷ more

    before : (o : Sides) → is_some (before_both b o) ≡ is_some o
    before None = refl
    before (Some s) = refl

    by : holds text Part ≡ is_some (parted Part text) → (c : Bool)
        → starts_with nat_eq (b ∷ text) Part ≡ c
        → holds (b ∷ text) Part ≡ is_some (parted Part (b ∷ text))
    by later true e = rw (e, parted-here Part b text e) refl
    by later false e =
        rw (e, parted-later Part b text e) (later ∙ sym (before (parted Part text)))
