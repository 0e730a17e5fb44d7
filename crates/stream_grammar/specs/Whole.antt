-- Whole commands: what the productions say, apart from the rule that places one item at a time.
use Rattle.std.specs.Prelude.{◌≡◌, ◌≢◌, true, List, [], ◌∷◌, ◌++◌, Option, Some, None, Result, Ok, Err}
use Rattle.std.specs.Option.{option_and_then}
use Rattle.stream_grammar.specs.declared.fault.Fault.{Fault}
use Rattle.stream_grammar.specs.declared.fault.Fault.TheVariants as fault
use Rattle.stream_grammar.specs.declared.part.Part.{Part}
use Rattle.stream_grammar.specs.Grammar.{Term, production_of, Fit, Stands, Ends, Misses, accepts, is_free, left_after, fit, may_end}

-- These parts fill these terms, one by one in order.
pub data Fills : List Term → List Part → Type 0 where
  nothing_left : Fills [] []
  stays_empty : (term : Term) (terms : List Term) (parts : List Part)
      → is_free term.often ≡ true → Fills terms parts → Fills (term ∷ terms) parts
  is_filled : (term : Term) (terms : List Term) (part : Part) (parts : List Part)
      → accepts term part ≡ true → Fills (left_after part term terms) parts
      → Fills (term ∷ terms) (part ∷ parts)

-- The terms that are left after some parts of one command; none if a part is not in the command.
abbrev pub left_by : Fit → (List Term → Option (List Term)) → Option (List Term)
left_by (Stands left) next = next left
left_by Ends next = None
left_by Misses next = None

-- The terms that are left after parts that stand for the first ones.
abbrev pub left_by_parts : List Part → List Term → Option (List Term)
left_by_parts [] terms = Some terms
left_by_parts (part ∷ parts) terms = left_by (fit part terms) (λ left. left_by_parts parts left)

-- The parts are taken one by one, and the command may end after them.
pub record AreTaken (parts : List Part) (terms : List Term) : Type 0 where
  pub left : List Term
  pub after_parts : left_by_parts parts terms ≡ Some left
  pub end : may_end left ≡ true

-- The parts are those of whole commands, one after the other.
pub data AreCommands : List Part → Type 0 where
  none_left : AreCommands []
  one_first : (command : Part) (terms : List Term) (parts later : List Part)
      → production_of command ≡ Some terms → Fills terms parts → AreCommands later
      → AreCommands (command ∷ parts ++ later)

-- The terms that are left after a part: those of the open command if the part belongs to it, or of
-- the next command if the part begins one; none if a part is missing or it begins no command.
abbrev pub terms_next : Part → Fit → Option (List Term)
terms_next part (Stands left) = Some left
terms_next part Ends = production_of part
terms_next part Misses = None

-- The terms that are left after parts that came in turn.
abbrev pub left_in_turn : List Part → List Term → Option (List Term)
left_in_turn [] terms = Some terms
left_in_turn (part ∷ parts) terms =
    option_and_then (λ left. left_in_turn parts left) (terms_next part (fit part terms))

-- The parts are accepted one by one, and a stream may end after them.
pub record ArePlaced (parts : List Part) (terms : List Term) : Type 0 where
  pub left : List Term
  pub after_parts : left_in_turn parts terms ≡ Some left
  pub end : may_end left ≡ true

-- An answer that is neither an unknown command (2) nor a missing part (5): no fault of the place.
abbrev pub FindsPlace : {A : Type 0} → Result A Fault → Type 0
FindsPlace (Ok answer) = Unit {0}
FindsPlace (Err e) = (e ≢ fault.UnknownCommand) × (e ≢ fault.MissingPart)
