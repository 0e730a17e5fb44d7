-- Marks that are set one after another.
use Rattle.std.proofs.Common.{◌≡◌, ℕ, zero, suc, ◌<◌, ◌≤◌, Bool, true, false, List, [], ◌∷◌, ◌++◌, length, set, refl, sym, ap, ◌∙◌, arith}
use Rattle.std.proofs.lemmas.List.{length-replicate}
use Rattle.git_model.specs.Repository.{Object}
use Rattle.git_model.specs.References.{place_of}
use Rattle.export_text.specs.Marking.{with_flags}
use Rattle.export_text.proofs.Leading.{marked-append, marked-length}
use Rattle.missing_objects.specs.Marks.{AreMarksOf, Marks, first_marks, no_marks, with_marks}
use Rattle.missing_objects.specs.declared.marks.Mark.{Mark}
use Rattle.missing_objects.specs.declared.marks.Mark.TheVariants as mark

set-past : (flags : List Bool) (at : ℕ) → length flags ≤ at → set flags at true ≡ flags
set-past [] zero le = refl
set-past [] (suc at) le = refl
set-past (x ∷ xs) zero le = absurd (omega arith)
set-past (x ∷ xs) (suc at) le = ap (λ ys. x ∷ ys) (set-past xs at (omega arith))

-- The name of no object marks nothing.
pub none-marked : (with : Mark) (os : List Object) (m : Marks) (id : List ℕ) → AreMarksOf os m
    → place_of id os ≡ length os → m ≡ with_marks with os m (id ∷ [])
none-marked mark.Wanted os m id size none =
    ap (λ (flags : List Bool). record { wanted = flags; had = m.had })
    (sym (set-past m.wanted (place_of id os) (let s = size.wanted in omega arith)))
none-marked mark.Had os m id size none =
    ap (λ (flags : List Bool). record { wanted = m.wanted; had = flags })
    (sym (set-past m.had (place_of id os) (let s = size.had in omega arith)))

pub marks-none : (with : Mark) (os : List Object) (m : Marks) → m ≡ with_marks with os m []
marks-none mark.Wanted os m = refl
marks-none mark.Had os m = refl

pub marks-append : (with : Mark) (os : List Object) (m : Marks) (ids more : List (List ℕ))
    → with_marks with os m (ids ++ more) ≡ with_marks with os (with_marks with os m ids) more
marks-append mark.Wanted os m ids more =
    ap (λ (flags : List Bool). record { wanted = flags; had = m.had }) (marked-append os ids more m.wanted)
marks-append mark.Had os m ids more =
    ap (λ (flags : List Bool). record { wanted = m.wanted; had = flags }) (marked-append os ids more m.had)

pub marks-size : (with : Mark) (os : List Object) (m : Marks) (ids : List (List ℕ)) → AreMarksOf os m
    → AreMarksOf os (with_marks with os m ids)
marks-size mark.Wanted os m ids size = record { wanted = marked-length os ids m.wanted ∙ size.wanted; had = size.had }
marks-size mark.Had os m ids size = record { wanted = size.wanted; had = marked-length os ids m.had ∙ size.had }

-- Marks that are such marks are of the right size.
pub size-of : (with : Mark) (os : List Object) (m l : Marks) (ids : List (List ℕ)) → AreMarksOf os m
    → l ≡ with_marks with os m ids → AreMarksOf os l
size-of with os m l ids size is = rw is (marks-size with os m ids size)

pub one-more : (with : Mark) (os : List Object) (first old new : Marks) (ids more : List (List ℕ)) (id : List ℕ)
    → more ≡ ids ++ id ∷ [] → old ≡ with_marks with os first ids → new ≡ with_marks with os old (id ∷ [])
    → new ≡ with_marks with os first more
one-more with os first old new ids more id grown before later =
    later ∙ ap (λ (m : Marks). with_marks with os m (id ∷ [])) before
    ∙ sym (marks-append with os first ids (id ∷ [])) ∙ ap (with_marks with os first) (sym grown)

pub none-size : (os : List Object) (len : ℕ) (m : Marks) → m ≡ no_marks len → len ≡ length os
    → AreMarksOf os m
none-size os len m blank whole = record {
  wanted = ap (λ (l : Marks). length l.wanted) blank ∙ length-replicate len false ∙ whole;
  had = ap (λ (l : Marks). length l.had) blank ∙ length-replicate len false ∙ whole;
}

pub first-of : (os : List Object) (len : ℕ) (none mid last : Marks) (wants haves : List (List ℕ))
    → none ≡ no_marks len → len ≡ length os → mid ≡ with_marks mark.Wanted os none wants
    → last ≡ with_marks mark.Had os mid haves → last ≡ first_marks os wants haves
first-of os len none mid last wants haves blank whole wanting having =
    having ∙ ap (λ (m : Marks). with_marks mark.Had os m haves)
    (wanting ∙ ap (λ (m : Marks). with_marks mark.Wanted os m wants) (blank ∙ ap no_marks whole))
