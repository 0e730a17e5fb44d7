-- Where a lexer is in its buffer.
use Rattle.std.specs.Prelude.{ℕ, ◌+◌, ◌-◌, ◌≤◌, ◌^◌, min, List, length, drop}
use Rattle.stream_lex.specs.declared.cursor.Cursor.{Cursor}
use Rattle.stream_lex.specs.Items.{Tail}
use Rattle.stream_lex.specs.Lexer.{LexerState}
use Rattle.stream_lex.specs.Looking.{IsPlaced, tail_at}

-- The bytes whose item was not given yet.
abbrev pub rest_of : List ℕ → Cursor → List ℕ
rest_of bytes cursor = drop cursor.taken bytes

-- What is held: those bytes, or a fault.
abbrev pub tail_of : List ℕ → Cursor → Tail
tail_of bytes cursor = tail_at (rest_of bytes cursor) cursor.place

-- What a lexer of these fields holds.
abbrev pub lexer_state : List ℕ → Cursor → ℕ → LexerState
lexer_state bytes cursor fed =
    record { tail = tail_of bytes cursor; searched = cursor.search.searched; fed = fed }

-- A cursor is within these bytes, and what it knows about them is true.
pub record IsAt (bytes : List ℕ) (cursor : Cursor) : Type 0 where
  pub inside : cursor.taken ≤ length bytes
  pub seen : cursor.search.seen ≤ length (rest_of bytes cursor)
  pub placed : IsPlaced (rest_of bytes cursor) cursor.search.seen cursor.place

-- How many bytes a search may still scan.
abbrev pub unsearched : List ℕ → Cursor → ℕ
unsearched bytes cursor = length bytes - cursor.taken - cursor.search.seen

-- A cursor has moved on, and its searches have scanned no byte twice.
pub record SearchesOnce (bytes : List ℕ) (old new : Cursor) : Type 0 where
  pub counted : old.search.searched ≤ new.search.searched
  pub once : new.search.searched + unsearched bytes new ≤ old.search.searched + unsearched bytes old

-- The fields of a lexer: the cursor is within the buffer, and the bytes scanned and those that may
-- still be scanned are no more than were fed.
pub record IsLexer (bytes : List ℕ) (cursor : Cursor) (fed : ℕ) : Type 0 where
  pub at : IsAt bytes cursor
  pub once : min (cursor.search.searched + unsearched bytes cursor) (2 ^ 64 - 1) ≤ fed
