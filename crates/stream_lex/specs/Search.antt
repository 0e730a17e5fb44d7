-- The search for line ends: what it finds, and what it scans.
use Rattle.std.specs.Prelude.{◌≡◌, ℕ, ◌+◌, ◌-◌, ◌<◌, ◌≤◌, ◌^◌, min, List, length, drop, Option, None, Some}
use Rattle.stream_lex.specs.declared.search.Search.{Search}
use Rattle.stream_lex.specs.Headers.{line_length, HasNoLineEnd}

-- A count that grows by a number, and stays at 2^64 - 1.
abbrev pub counted_on : ℕ → ℕ → ℕ
counted_on count more = min (count + more) (2 ^ 64 - 1)

-- The byte at this place is a line end, the first after the bytes that were seen.
pub record IsLineEnd (bytes : List ℕ) (seen end : ℕ) : Type 0 where
  pub beyond : seen ≤ end
  pub inside : end < length bytes
  pub first : line_length (drop seen bytes) ≡ end - seen

-- The search finds the first line end after the bytes that were seen, if there is one.
abbrev pub FindsLineEnd : List ℕ → ℕ → Option ℕ → Type 0
FindsLineEnd bytes seen None = HasNoLineEnd (drop seen bytes)
FindsLineEnd bytes seen (Some end) = IsLineEnd bytes seen end

-- How many bytes are scanned: up to the line end that is found, or all of them.
abbrev pub gone_over : List ℕ → Option ℕ → ℕ
gone_over bytes None = length bytes
gone_over bytes (Some end) = end + 1

-- The search has scanned bytes after those that were seen, and counted each of them once.
pub record GoesOver (bytes : List ℕ) (old : Search) (found : Option ℕ) (new : Search) : Type 0 where
  pub seen : new.seen ≡ gone_over bytes found
  pub searched : new.searched ≡ counted_on old.searched (new.seen - old.seen)
  pub onwards : old.searched ≤ new.searched

-- A search has gone further in these bytes and scanned none of them twice.
pub record SearchesOn (bytes : List ℕ) (old new : Search) : Type 0 where
  pub within : new.seen ≤ length bytes
  pub onwards : old.seen ≤ new.seen
  pub counted : old.searched ≤ new.searched
  pub once : new.searched ≤ old.searched + (new.seen - old.seen)
