-- Parts that are taken one by one fill the terms of their command.
use Rattle.std.proofs.Common.{◌≡◌, refl, Bool, true, false, List, [], ◌∷◌, Some, None}
use Rattle.stream_grammar.specs.declared.part.Part.{Part}
use Rattle.stream_grammar.specs.Grammar.{Term, accepts, is_free, left_after, fit, may_end}
use Rattle.stream_grammar.specs.Whole.{Fills, nothing_left, stays_empty, is_filled, left_by, left_by_parts}

-- A test is true or false.
pub by_test : {P : Type 0} (test : Bool) → (test ≡ true → P) → (test ≡ false → P) → P
by_test true holds fails = holds refl
by_test false holds fails = fails refl

-- Terms after which a command may end can stay empty.
pub Fills-may_end : (terms : List Term) → may_end terms ≡ true → Fills terms []
Fills-may_end [] end = nothing_left
Fills-may_end (term ∷ terms) end =
    by_test (is_free term.often)
    (λ free. stays_empty term terms [] free (Fills-may_end terms (rw free at end)))
    (λ bound. let absent : false ≡ true = rw bound at end in cc)

-- A part fills a term where it stands, and the parts after it the terms that are left.
Fills-first : (part : Part) (parts : List Part) (left : List Term)
    → ((terms : List Term) → left_by_parts parts terms ≡ Some left → Fills terms parts)
    → (terms : List Term) → left_by (fit part terms) (λ rest. left_by_parts parts rest) ≡ Some left
    → Fills terms (part ∷ parts)
Fills-first part parts left later [] taken = let absent : None ≡ Some left = taken in cc
Fills-first part parts left later (term ∷ terms) taken =
    by_test (accepts term part)
    (λ stands. is_filled term terms part parts stands
    (later (left_after part term terms) (rw stands at taken)))
    (λ passes. let here = rw passes at taken in
    by_test (is_free term.often)
    (λ free. stays_empty term terms (part ∷ parts) free
    (Fills-first part parts left later terms (rw free at here)))
    (λ bound. let absent : None ≡ Some left = rw bound at here in cc))

pub Fills-left_by_parts : (parts : List Part) (left : List Term) → may_end left ≡ true
    → (terms : List Term) → left_by_parts parts terms ≡ Some left → Fills terms parts
Fills-left_by_parts [] left end terms taken =
    let same : terms ≡ left = cc in Fills-may_end terms (rw same end)
Fills-left_by_parts (part ∷ parts) left end terms taken =
    Fills-first part parts left (Fills-left_by_parts parts left end) terms taken
