-- Parts that fill the terms of a command are taken one by one, if no part may stand in two terms.
use Rattle.std.proofs.Common.{◌≡◌, refl, sym, ◌∙◌, ap, rules, Bool, true, false, IfSome, List, [], ◌∷◌, Option, Some, None}
use Rattle.std.specs.List.{list_any}
use Rattle.stream_grammar.specs.declared.part.Part.{Part}
use Rattle.stream_grammar.specs.Parts.{same}
use Rattle.stream_grammar.specs.declared.part.Part.TheVariants as part
use Rattle.stream_grammar.specs.declared.part.OpeningLine.{OpeningLine}
use Rattle.stream_grammar.specs.declared.part.OpeningLine.TheVariants as opening
use Rattle.stream_grammar.specs.declared.part.ChangeLine.TheVariants as change
use Rattle.stream_grammar.specs.Grammar.{Term, Often, Once, Perhaps, AnyNumber, production, production_of, accepts, is_free, used, left_after, fit}
use Rattle.stream_grammar.specs.Whole.{Fills, nothing_left, stays_empty, is_filled, left_by, left_by_parts, AreTaken}
use Rattle.stream_grammar.proofs.Filled.{by_test}
use Rattle.stream_grammar.proofs.SameParts.{same-equal}

-- None of the terms accepts the part.
abbrev pub NoneAccepts : List Term → Part → Type 0
NoneAccepts [] part = Unit {0}
NoneAccepts (term ∷ terms) part = (accepts term part ≡ false) × NoneAccepts terms part

-- None of the terms accepts one of the parts.
abbrev pub StandElsewhere : List Part → List Term → Type 0
StandElsewhere [] terms = Unit {0}
StandElsewhere (part ∷ parts) terms = NoneAccepts terms part × StandElsewhere parts terms

-- Where a part with data after it may stand, no term takes data.
abbrev pub TakeNoData : Bool → List Term → Type 0
TakeNoData true terms = NoneAccepts terms part.Data
TakeNoData false terms = Unit {0}

-- No part may stand in two of the terms.
abbrev pub HaveOwnParts : List Term → Type 0
HaveOwnParts [] = Unit {0}
HaveOwnParts (term ∷ terms) =
    StandElsewhere term.parts terms
    × TakeNoData (accepts term (part.Change change.ModifyInline)) (term ∷ terms)
    × HaveOwnParts terms

HaveOwnParts-used : (often : Often) (term : Term) (terms : List Term)
    → HaveOwnParts (term ∷ terms) → HaveOwnParts (used often term terms)
HaveOwnParts-used Once term terms own = own.2
HaveOwnParts-used Perhaps term terms own = own.2
HaveOwnParts-used AnyNumber term terms own = own

pub NoneAccepts-used : (often : Often) (term : Term) (terms : List Term) (part : Part)
    → NoneAccepts (term ∷ terms) part → NoneAccepts (used often term terms) part
NoneAccepts-used Once term terms part none = none.1
NoneAccepts-used Perhaps term terms part none = none.1
NoneAccepts-used AnyNumber term terms part none = none

accepts-same : (term : Term) (part other : Part) → same part other ≡ true
    → accepts term part ≡ accepts term other
accepts-same term part other is = ap (accepts term) (same-equal part other is)

NoneAccepts-same : (terms : List Term) (part other : Part) → same part other ≡ true
    → NoneAccepts terms other → NoneAccepts terms part
NoneAccepts-same [] part other is none = tt
NoneAccepts-same (term ∷ terms) part other is none =
    (accepts-same term part other is ∙ none.0, NoneAccepts-same terms part other is none.1)

-- The same of the terms that are left after a part, with the data that are due.
pub HaveOwnParts-after : (term : Term) (terms : List Term) (taken : Part)
    → accepts term taken ≡ true → HaveOwnParts (term ∷ terms) → HaveOwnParts (left_after taken term terms)
HaveOwnParts-after term terms taken stands own =
    by_test (same taken (part.Change change.ModifyInline))
    (λ is.
    let takes : accepts term (part.Change change.ModifyInline) ≡ true =
    sym (accepts-same term taken (part.Change change.ModifyInline) is) ∙ stands in
    let none : NoneAccepts (term ∷ terms) part.Data = rw takes at own.1 in
    rw is (
      (NoneAccepts-used term.often term terms part.Data none, tt),
      tt,
      HaveOwnParts-used term.often term terms own,
    ))
    (λ differs. rw differs (HaveOwnParts-used term.often term terms own))

-- A part of the list is accepted by none of the terms.
pub NoneAccepts-listed : (parts : List Part) (terms : List Term) (part : Part)
    → StandElsewhere parts terms → list_any (same part) parts ≡ true → NoneAccepts terms part
NoneAccepts-listed [] terms part elsewhere listed = let absent : false ≡ true = listed in cc
NoneAccepts-listed (other ∷ parts) terms part elsewhere listed =
    by_test (same part other)
    (λ is. NoneAccepts-same terms part other is elsewhere.0)
    (λ differs. NoneAccepts-listed parts terms part elsewhere.1 (rw differs at listed))

-- A part that no term accepts stands nowhere.
pub left_by-NoneAccepts : (part : Part) (next : List Term → Option (List Term)) (terms : List Term)
    → NoneAccepts terms part → left_by (fit part terms) next ≡ None
left_by-NoneAccepts part next [] none = refl
left_by-NoneAccepts part next (term ∷ terms) none =
    rw none.0 (by_test (is_free term.often)
    (λ free. rw free (left_by-NoneAccepts part next terms none.1))
    (λ bound. rw bound refl))

-- A term that may stay empty is passed by parts that stand after it.
left_by_parts-empty : (term : Term) (terms : List Term) (parts : List Part)
    → HaveOwnParts (term ∷ terms) → is_free term.often ≡ true
    → AreTaken parts terms → AreTaken parts (term ∷ terms)
left_by_parts-empty term terms [] own free taken =
    let here : terms ≡ taken.left = let same = taken.after_parts in cc in
    record { left = term ∷ terms; after_parts = refl; end = rw (free, here) taken.end }
left_by_parts-empty term terms (part ∷ parts) own free taken =
    by_test (accepts term part)
    (λ stands.
    let next : List Term → Option (List Term) = λ rest. left_by_parts parts rest in
    let none = NoneAccepts-listed term.parts terms part own.0 stands in
    let nowhere = left_by-NoneAccepts part next terms none in
    let somewhere = taken.after_parts in
    let absent : None ≡ Some taken.left = sym nowhere ∙ somewhere in cc)
    (λ passes. record {
      left = taken.left;
      after_parts = rw (passes, free) taken.after_parts;
      end = taken.end;
    })

pub AreTaken-filled : (terms : List Term) (parts : List Part) → HaveOwnParts terms
    → Fills terms parts → AreTaken parts terms
AreTaken-filled _ _ own nothing_left = record { left = []; after_parts = refl; end = refl }
AreTaken-filled _ _ own (stays_empty term terms parts free fills) =
    left_by_parts-empty term terms parts own free (AreTaken-filled terms parts own.2 fills)
AreTaken-filled _ _ own (is_filled term terms part parts stands fills) =
    let own_later = HaveOwnParts-after term terms part stands own in
    let later = AreTaken-filled (left_after part term terms) parts own_later fills in
    record { left = later.left; after_parts = rw stands later.after_parts; end = later.end }

-- Each command has a part of its own in each term.
AreTaken-opening : (line : OpeningLine) (parts : List Part) → Fills (production line) parts
    → AreTaken parts (production line)
AreTaken-opening opening.Blob parts = AreTaken-filled _ parts (search rules)
AreTaken-opening opening.Commit parts = AreTaken-filled _ parts (search rules)
AreTaken-opening opening.Tag parts = AreTaken-filled _ parts (search rules)
AreTaken-opening opening.Reset parts = AreTaken-filled _ parts (search rules)
AreTaken-opening opening.Alias parts = AreTaken-filled _ parts (search rules)

pub AreTaken-command : (command : Part)
    → IfSome (production_of command)
    (λ terms. (parts : List Part) → Fills terms parts → AreTaken parts terms)
AreTaken-command (part.Opening line) = AreTaken-opening line
AreTaken-command (part.Reply line) = λ parts. AreTaken-filled [] parts tt
AreTaken-command (part.Control line) = λ parts. AreTaken-filled [] parts tt
AreTaken-command part.Blank = λ parts. AreTaken-filled [] parts tt
AreTaken-command _ = tt
