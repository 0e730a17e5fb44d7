-- A lexer: what it holds, and what its calls give.
use Rattle.std.specs.Prelude.{◌≡◌, ℕ, ◌≤◌, false, List, [], ◌∷◌, ◌++◌, length, Option, None, Some, Result, Ok, Err}
use Rattle.stream_lex.specs.declared.fault.Fault.{Fault}
use Rattle.stream_lex.specs.declared.fault.Fault.TheVariants.{CutOff}
use Rattle.stream_lex.specs.declared.item.Item.{Item as Lent}
use Rattle.stream_lex.specs.Items.{Item, Tail, Rest, Failed}
use Rattle.stream_lex.specs.Running.{Takes, ReadsAlike, HasNoItem, Leads}
use Rattle.stream_lex.specs.Looking.{item_of}

-- What a lexer holds: the bytes whose item was not given yet, or its fault; how many bytes the
-- searches for line ends scanned; and how many bytes were fed. A count stays at 2^64 - 1.
pub record LexerState : Type 0 where
  pub tail : Tail
  pub searched : ℕ
  pub fed : ℕ

-- A lexer before the first piece.
abbrev pub new_lexer : LexerState
new_lexer = record { tail = Rest false []; searched = 0; fed = 0 }

-- How many bytes are held whose item was not given yet.
abbrev pub held_bytes : Tail → ℕ
held_bytes (Rest skips bytes) = length bytes
held_bytes (Failed fault) = 0

-- The items in an answer of `next`: one or none.
abbrev pub items_of : Result (Option Lent) Fault → List Item
items_of (Ok None) = []
items_of (Ok (Some item)) = item_of item ∷ []
items_of (Err fault) = []

-- What an answer of `next` says about the tails before and after the call.
abbrev pub GivesFirst : Tail → Result (Option Lent) Fault → Tail → Type 0
GivesFirst old (Ok None) new = ReadsAlike old new × HasNoItem new
GivesFirst old (Ok (Some item)) new = Takes old (item_of item) new
GivesFirst old (Err fault) new = ReadsAlike old new × (new ≡ Failed fault)

-- What `next` does: it answers the first whole item of the bytes held, if there is one, and takes
-- it away.
pub record TakesNext (old : LexerState) (result : Result (Option Lent) Fault) (new : LexerState)
    : Type 0 where
  pub first : GivesFirst old.tail result new.tail
  pub leads : (bytes : List ℕ) (items : List Item) → Leads bytes items old.tail
      → Leads bytes (items ++ items_of result) new.tail
  pub searched : old.searched ≤ new.searched
  pub fed : new.fed ≡ old.fed

-- What the end of the stream gives when all items were taken. If bytes are left, it is cut off.
abbrev pub ended : Tail → Result (Unit {0}) Fault
ended (Rest skips []) = Ok tt
ended (Rest skips (byte ∷ bytes)) = Err CutOff
ended (Failed fault) = Err fault
