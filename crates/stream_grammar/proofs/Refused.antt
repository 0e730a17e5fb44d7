-- Items that are whole commands are refused by no fault of their places.
use Rattle.std.proofs.Common.{◌≡◌, Bool, List, [], ◌∷◌, map, Option, Some, None, Result, Ok, Err, true}
use Rattle.std.specs.Option.{option_and_then}
use Rattle.stream_lex.specs.Items.{Item}
use Rattle.stream_grammar.specs.declared.fault.Fault.{Fault}
use Rattle.stream_grammar.specs.declared.part.Part.{Part}
use Rattle.stream_grammar.specs.Parts.{part_of}
use Rattle.stream_grammar.specs.Grammar.{Term, Fit, Stands, Ends, Misses, production_of, fit, may_end}
use Rattle.stream_grammar.specs.Acts.{Act, Effect}
use Rattle.stream_grammar.specs.Lines.{inner_effect, first_act}
use Rattle.stream_grammar.specs.Commands.{Open, Step, commands, step, step_by, step_outside, goes_on, opens}
use Rattle.stream_grammar.specs.Commands.{then_given, done_of, next_of, end_within, end_of, top}
use Rattle.stream_grammar.specs.Whole.{AreCommands, ArePlaced, FindsPlace, terms_next, left_in_turn}
use Rattle.stream_grammar.proofs.Words.{found-inner_effect, found-first_act}
use Rattle.stream_grammar.proofs.Placed.{ArePlaced-commands}

-- A stream from here on, by what its first step gave.
abbrev end_after : Result Step Fault → List Item → Result Bool Fault
end_after result items =
    end_of (then_given (done_of result) (commands (next_of result) items)).rest

-- Where items are placed in some terms, a command with these is refused by no fault of a place.
abbrev AreFound : List Item → Type 0
AreFound items =
    (now : Open) → ArePlaced (map part_of items) now.left
    → FindsPlace (end_of (commands (Ok now) items).rest)

found-goes_on : (now : Open) (part : Part) (left : List Term) (effect : Result Effect Fault)
    (items : List Item) → FindsPlace effect → ArePlaced (map part_of items) left → AreFound items
    → FindsPlace (end_after (goes_on now part left effect) items)
found-goes_on now part left (Ok effect) items found are_placed later = later _ are_placed
found-goes_on now part left (Err e) items found are_placed later = found

found-opens : (now : Open) (part : Part) (left : List Term) (act : Result Act Fault)
    (items : List Item) → FindsPlace act → ArePlaced (map part_of items) left → AreFound items
    → FindsPlace (end_after (opens now part left act) items)
found-opens now part left (Ok act) items found are_placed later = later _ are_placed
found-opens now part left (Err e) items found are_placed later = found

found-step_outside : (now : Open) (command : Option (List Term)) (part : Part) (item : Item)
    (items : List Item) (left : List Term)
    → option_and_then (λ terms. left_in_turn (map part_of items) terms) command ≡ Some left
    → may_end left ≡ true → AreFound items
    → FindsPlace (end_after (step_outside now command part item) items)
found-step_outside now None part item items left after_parts end later =
    let absent : None ≡ Some left = after_parts in cc
found-step_outside now (Some terms) part item items left after_parts end later =
    found-opens now part terms (first_act now.late part item) items
    (found-first_act now.late part item)
    (record { left = left; after_parts = after_parts; end = end }) later

found-step_by : (now : Open) (part : Part) (item : Item) (place : Fit) (items : List Item)
    (left : List Term)
    → option_and_then (λ terms. left_in_turn (map part_of items) terms) (terms_next part place)
    ≡ Some left
    → may_end left ≡ true → AreFound items
    → FindsPlace (end_after (step_by now part item place) items)
found-step_by now part item (Stands terms) items left after_parts end later =
    found-goes_on now part terms (inner_effect now.opened now.mark part item) items
    (found-inner_effect now.opened now.mark part item)
    (record { left = left; after_parts = after_parts; end = end }) later
found-step_by now part item Ends items left after_parts end later =
    found-step_outside now (production_of part) part item items left after_parts end later
found-step_by now part item Misses items left after_parts end later =
    let absent : None ≡ Some left = after_parts in cc

found-end_within : (now : Open) → may_end now.left ≡ true → FindsPlace (end_within now)
found-end_within now end = rw end tt

found-items : (items : List Item) → AreFound items
unfolding commands step
found-items [] now are_placed =
    let same_left : now.left ≡ are_placed.left = let is = are_placed.after_parts in cc in
    found-end_within now (rw same_left are_placed.end)
found-items (item ∷ items) now are_placed =
    found-step_by now (part_of item) item (fit (part_of item) now.left) items are_placed.left
    are_placed.after_parts are_placed.end (found-items items)

pub FindsPlace-stream : (items : List Item) → AreCommands (map part_of items)
    → FindsPlace (end_of (commands (Ok top) items).rest)
FindsPlace-stream items whole = found-items items top (ArePlaced-commands (map part_of items) whole)
