-- The items of a stream that ends well are the parts of whole commands.
use Rattle.std.proofs.Common.{◌≡◌, refl, ap, Bool, true, List, [], ◌∷◌, ◌++◌, map}
use Rattle.std.proofs.Common.{Option, Some, None, Result, Ok, Err}
use Rattle.stream_lex.specs.Items.{Item}
use Rattle.stream_grammar.specs.declared.fault.Fault.{Fault}
use Rattle.stream_grammar.specs.declared.fault.Fault.TheVariants as fault
use Rattle.stream_grammar.specs.declared.part.Part.{Part}
use Rattle.stream_grammar.specs.Parts.{part_of}
use Rattle.stream_grammar.specs.Grammar.{Term, Fit, Stands, Ends, Misses, production_of, accepts, is_free, left_after, fit, may_end}
use Rattle.stream_grammar.specs.Acts.{Act, Effect}
use Rattle.stream_grammar.specs.Lines.{inner_effect, first_act}
use Rattle.stream_grammar.specs.Commands.{Open, Step, commands, step, step_by, step_outside, goes_on, opens}
use Rattle.stream_grammar.specs.Commands.{then_given, done_of, next_of, end_within, end_of, top}
use Rattle.stream_grammar.specs.Whole.{Fills, nothing_left, stays_empty, is_filled, AreCommands, none_left, one_first}
use Rattle.stream_grammar.proofs.Filled.{by_test, Fills-may_end}

-- Some parts fill the terms that are left, and whole commands stand after them.
pub record Continues (left : List Term) (parts : List Part) : Type 0 where
  pub first : List Part
  pub later : List Part
  pub both : parts ≡ first ++ later
  pub fills : Fills left first
  pub whole : AreCommands later

-- A part that stands in the terms, and parts that fill what is left of them, fill them.
Fills-Stands : (part : Part) (terms left : List Term) (parts : List Part)
    → fit part terms ≡ Stands left → Fills left parts → Fills terms (part ∷ parts)
Fills-Stands part [] left parts stands fills = let absent : Ends ≡ Stands left = stands in cc
Fills-Stands part (term ∷ terms) left parts stands fills =
    by_test (accepts term part)
    (λ here.
    let is : Stands (left_after part term terms) ≡ Stands left = rw here at stands in
    let same : left_after part term terms ≡ left = cc in
    is_filled term terms part parts here (rw same fills))
    (λ passes. let later = rw passes at stands in
    by_test (is_free term.often)
    (λ free. stays_empty term terms (part ∷ parts) free
    (Fills-Stands part terms left parts (rw free at later) fills))
    (λ bound. let absent : Misses ≡ Stands left = rw bound at later in cc))

-- A part that stands after a command finds nothing missing in it.
may_end-Ends : (part : Part) (terms : List Term) → fit part terms ≡ Ends → may_end terms ≡ true
may_end-Ends part [] ends = refl
may_end-Ends part (term ∷ terms) ends =
    by_test (accepts term part)
    (λ here. let absent : Stands (left_after part term terms) ≡ Ends = rw here at ends in cc)
    (λ passes. let later = rw passes at ends in
    by_test (is_free term.often)
    (λ free. rw free (may_end-Ends part terms (rw free at later)))
    (λ bound. let absent : Misses ≡ Ends = rw bound at later in cc))

-- The terms that are left after a step.
abbrev left_of : Result Step Fault → List Term → List Term
left_of (Ok step) left = step.next.left
left_of (Err e) left = left

left-goes_on : (now : Open) (part : Part) (left : List Term) (effect : Result Effect Fault)
    (next : Step) → goes_on now part left effect ≡ Ok next → left ≡ next.next.left
left-goes_on now part left (Ok effect) next is =
    ap (λ (given : Result Step Fault). left_of given left) is
left-goes_on now part left (Err e) next is = let absent : Err e ≡ Ok next = is in cc

left-opens : (now : Open) (part : Part) (left : List Term) (act : Result Act Fault)
    (next : Step) → opens now part left act ≡ Ok next → left ≡ next.next.left
left-opens now part left (Ok act) next is =
    ap (λ (given : Result Step Fault). left_of given left) is
left-opens now part left (Err e) next is = let absent : Err e ≡ Ok next = is in cc

-- A step goes on with the open command, or ends it and begins the next one.
AreCommands-step_outside : (now : Open) (command : Option (List Term)) (part : Part) (item : Item) (next : Step)
    (parts : List Part)
    → production_of part ≡ command → step_outside now command part item ≡ Ok next
    → Continues next.next.left parts → AreCommands (part ∷ parts)
AreCommands-step_outside now None part item next parts is begins_so continues =
    let absent : Err fault.UnknownCommand ≡ Ok next = begins_so in cc
AreCommands-step_outside now (Some terms) part item next parts is begins_so continues =
    let same : terms ≡ next.next.left =
    left-opens now part terms (first_act now.late part item) next begins_so in
    rw continues.both
    (one_first part terms continues.first continues.later is (rw same continues.fills) continues.whole)

Continues-step_by : (now : Open) (part : Part) (item : Item) (place : Fit) (next : Step) (parts : List Part)
    → fit part now.left ≡ place → step_by now part item place ≡ Ok next
    → Continues next.next.left parts → Continues now.left (part ∷ parts)
Continues-step_by now part item (Stands left) next parts is placed_so continues =
    let same : left ≡ next.next.left =
    left-goes_on now part left (inner_effect now.opened now.mark part item) next placed_so in
    record {
      first = part ∷ continues.first;
      later = continues.later;
      both = ap (λ (ps : List Part). part ∷ ps) continues.both;
      fills = Fills-Stands part now.left left continues.first is (rw same continues.fills);
      whole = continues.whole;
    }
Continues-step_by now part item Ends next parts is placed_so continues =
    record {
      first = [];
      later = part ∷ parts;
      both = refl;
      fills = Fills-may_end now.left (may_end-Ends part now.left is);
      whole = AreCommands-step_outside now (production_of part) part item next parts refl placed_so continues;
    }
Continues-step_by now part item Misses next parts is placed_so continues =
    let absent : Err fault.MissingPart ≡ Ok next = placed_so in cc

-- At a good end no part is missing.
may_end-end_within : (now : Open) (ends : Bool) → end_within now ≡ Ok ends → may_end now.left ≡ true
may_end-end_within now ends is =
    by_test (may_end now.left)
    (λ whole. whole)
    (λ lacks. let absent : Err fault.MissingPart ≡ Ok ends = rw lacks at is in cc)

Continues-step : (now : Open) (item : Item) (items : List Item) (ends : Bool) (parts : List Part)
    (result : Result Step Fault) → step now item ≡ result
    → end_of (then_given (done_of result) (commands (next_of result) items)).rest ≡ Ok ends
    → ((next : Open) → end_of (commands (Ok next) items).rest ≡ Ok ends → Continues next.left parts)
    → Continues now.left (part_of item ∷ parts)
unfolding step
Continues-step now item items ends parts (Ok next) is ends_so later =
    Continues-step_by now (part_of item) item (fit (part_of item) now.left) next parts refl is (later next.next ends_so)
Continues-step now item items ends parts (Err e) is ends_so later =
    let absent : Err e ≡ Ok ends = ends_so in cc

Continues-commands : (items : List Item) (now : Open) (ends : Bool)
    → end_of (commands (Ok now) items).rest ≡ Ok ends → Continues now.left (map part_of items)
unfolding commands
Continues-commands [] now ends is =
    record {
      first = [];
      later = [];
      both = refl;
      fills = Fills-may_end now.left (may_end-end_within now ends is);
      whole = none_left;
    }
Continues-commands (item ∷ items) now ends is =
    Continues-step now item items ends (map part_of items) (step now item) refl is
    (λ next later. Continues-commands items next ends later)

-- No part fills no terms.
pub Fills-nil : (parts : List Part) → Fills [] parts → parts ≡ []
Fills-nil _ nothing_left = refl

pub AreCommands-stream : (items : List Item) (ends : Bool)
    → end_of (commands (Ok top) items).rest ≡ Ok ends → AreCommands (map part_of items)
AreCommands-stream items ends is =
    let continues = Continues-commands items top ends is in
    let first : continues.first ≡ [] = Fills-nil continues.first continues.fills in
    rw (continues.both, first) continues.whole
