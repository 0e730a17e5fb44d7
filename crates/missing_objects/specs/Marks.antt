-- Which objects are marked as wanted and which as had, for private contracts.
use Rattle.std.specs.Prelude.{◌≡◌, ℕ, zero, suc, Bool, false, not, ◌&&◌, List, [], ◌∷◌, ◌++◌, cond, get_or, length, replicate}
use Rattle.git_model.specs.Repository.{Object}
use Rattle.git_model.specs.References.{object_at, referred_by}
use Rattle.export_text.specs.Marking.{with_flags}
use Rattle.missing_objects.specs.declared.marks.Mark.{Mark}
use Rattle.missing_objects.specs.declared.marks.Mark.TheVariants as mark

-- A flag for each object, by its place: whether it is wanted, and whether it is had.
pub record Marks : Type 0 where
  pub wanted : List Bool
  pub had : List Bool

-- There is a flag of either kind for each object.
pub record AreMarksOf (os : List Object) (m : Marks) : Type 0 where
  pub wanted : length m.wanted ≡ length os
  pub had : length m.had ≡ length os

-- An object is open if it is wanted and not had.
abbrev pub is_open : Marks → ℕ → Bool
is_open m place = get_or m.wanted place false && not (get_or m.had place false)

-- An object is blank if it is neither.
abbrev pub is_blank : Marks → ℕ → Bool
is_blank m place = not (get_or m.wanted place false) && not (get_or m.had place false)

-- The open places below n.
unfoldable pub open_places : Marks → ℕ → List ℕ
open_places m zero = []
open_places m (suc n) = open_places m n ++ cond (is_open m n) (n ∷ []) []

-- No marks on n objects.
abbrev pub no_marks : ℕ → Marks
no_marks n = record { wanted = replicate n false; had = replicate n false }

-- The marks with one more on each object of these names.
abbrev pub with_marks : Mark → List Object → Marks → List (List ℕ) → Marks
with_marks mark.Wanted os m ids = record { wanted = with_flags os m.wanted ids; had = m.had }
with_marks mark.Had os m ids = record { wanted = m.wanted; had = with_flags os m.had ids }

-- The marks that a sweep begins with.
abbrev pub first_marks : List Object → List (List ℕ) → List (List ℕ) → Marks
first_marks os wants haves =
    with_marks mark.Had os (with_marks mark.Wanted os (no_marks (length os)) wants) haves

-- The marks when a sweep has come to a place: what is had passes that on to what it refers to, and
-- else what is wanted does.
abbrev pub marks_at : List Object → Marks → ℕ → Marks
marks_at os m place =
    let ids = referred_by os (object_at place os).id in
    cond (get_or m.had place false) (with_marks mark.Had os m ids)
    (cond (get_or m.wanted place false) (with_marks mark.Wanted os m ids) m)
