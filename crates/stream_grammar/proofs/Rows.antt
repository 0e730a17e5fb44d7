-- The words of lines, tried in turn.
use Rattle.std.proofs.Common.{◌≡◌, ℕ, ◌+◌, ◌<◌, true, false, List, length, drop, drop-cons, get_or, map, add-one, refl}
use Rattle.std.specs.Borrow.{Bor}
use Rattle.stream_grammar.specs.declared.part.Part.{Part}
use Rattle.stream_grammar.specs.Parts.{first_fit, fits}

-- A row without where its word lies.
abbrev pub shown : Bor (List ℕ) × Part → List ℕ × Part
shown row = (row.0.now, row.1)

-- A word that does not fit is passed.
pub first_fit-next : (rows : List (Bor (List ℕ) × Part)) (i : ℕ) (text : List ℕ)
    (d : Bor (List ℕ) × Part) → i < length rows → fits (get_or rows i d).0.now text ≡ false
    → first_fit (map shown (drop i rows)) text ≡ first_fit (map shown (drop (i + 1) rows)) text
first_fit-next rows i text d inside other =
    let here = drop-cons rows i d inside in
    rw (add-one i, here, other) refl

-- The word that fits gives its part.
pub first_fit-here : (rows : List (Bor (List ℕ) × Part)) (i : ℕ) (text : List ℕ)
    (d : Bor (List ℕ) × Part) → i < length rows → fits (get_or rows i d).0.now text ≡ true
    → (get_or rows i d).1 ≡ first_fit (map shown (drop i rows)) text
first_fit-here rows i text d inside here =
    let first = drop-cons rows i d inside in
    rw (first, here) refl
