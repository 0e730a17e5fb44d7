-- What stands at a line's beginning, by cases; and that what is settled stays so, whatever bytes come.
use Rattle.std.proofs.Common.{◌≡◌, ℕ, ◌+◌, ◌<◌, ◌≤◌, false, List, length, take, drop, None, Some, arith, refl, subst, lt-ltb, le-ltb}
use Rattle.stream_lex.specs.declared.fault.Fault.TheVariants.{LineTooLong, Limit}
use Rattle.stream_lex.specs.Items.{Data, Rest, Failed}
use Rattle.stream_lex.specs.Headers.{longest_line, largest_data, line_length, kind_of}
use Rattle.stream_lex.specs.Reading.{Stops, Gives, counted_data, data_before, whole_line, first_at, first_of}

-- a line that is too long, a whole line, and no line end yet
pub first-too_long : (bytes : List ℕ) → longest_line < line_length bytes
    → first_of bytes ≡ Stops (Failed LineTooLong)
unfolding first_at
first-too_long bytes long = rw (lt-ltb longest_line (line_length bytes) long) refl

pub first-whole : (bytes : List ℕ) → line_length bytes ≤ longest_line
    → line_length bytes < length bytes
    → first_of bytes ≡ whole_line (kind_of (take (line_length bytes) bytes)) (take (line_length bytes) bytes) (line_length bytes + 1) bytes
unfolding first_at
first-whole bytes short found = rw (le-ltb longest_line (line_length bytes) short, lt-ltb (line_length bytes) (length bytes) found) refl

pub first-unfinished : (bytes : List ℕ) → line_length bytes ≤ longest_line
    → length bytes ≤ line_length bytes → first_of bytes ≡ Stops (Rest false bytes)
unfolding first_at
first-unfinished bytes short none = rw (le-ltb longest_line (line_length bytes) short, le-ltb (line_length bytes) (length bytes) none) refl

-- the same by where the first line end is
pub first-whole_at : (bytes : List ℕ) (end : ℕ) → line_length bytes ≡ end → end ≤ longest_line
    → end < length bytes
    → first_of bytes ≡ whole_line (kind_of (take end bytes)) (take end bytes) (end + 1) bytes
first-whole_at bytes end at short found = subst (λ (e : ℕ). first_of bytes ≡ whole_line (kind_of (take e bytes)) (take e bytes) (e + 1) bytes) at (first-whole bytes (omega arith) (omega arith))

-- counted data: too large, unfinished, whole
pub counted-too_large : (size n : ℕ) (bytes : List ℕ) → largest_data < size
    → counted_data size n bytes ≡ Stops (Failed Limit)
unfolding counted_data
counted-too_large size n bytes large = rw (lt-ltb largest_data size large) refl

pub counted-unfinished : (size n : ℕ) (bytes : List ℕ) → size ≤ largest_data
    → length bytes < n + size → counted_data size n bytes ≡ Stops (Rest false bytes)
unfolding counted_data
counted-unfinished size n bytes small short = rw (le-ltb largest_data size small, lt-ltb (length bytes) (n + size) short) refl

pub counted-whole : (size n : ℕ) (bytes : List ℕ) → size ≤ largest_data → n + size ≤ length bytes
    → counted_data size n bytes ≡ Gives (Data (take size (drop n bytes))) (n + size)
unfolding counted_data
counted-whole size n bytes small whole = rw (le-ltb largest_data size small, le-ltb (length bytes) (n + size) whole) refl

-- delimited data: too large by its raw bytes or by what is there, unfinished, whole
pub before-too_large : (size : ℕ) (delimiter : List ℕ) (n : ℕ) (bytes : List ℕ)
    → largest_data < size → data_before (Some size) delimiter n bytes ≡ Stops (Failed Limit)
unfolding data_before
before-too_large size delimiter n bytes large = rw (lt-ltb largest_data size large) refl

pub before-whole : (size : ℕ) (delimiter : List ℕ) (n : ℕ) (bytes : List ℕ) → size ≤ largest_data
    → data_before (Some size) delimiter n bytes ≡ Gives (Data (take size (drop n bytes))) (n + size + length delimiter + 1)
unfolding data_before
before-whole size delimiter n bytes small = rw (le-ltb largest_data size small) refl

pub before-unfinished : (delimiter : List ℕ) (n : ℕ) (bytes : List ℕ)
    → length bytes < n + largest_data + length delimiter + 1
    → data_before None delimiter n bytes ≡ Stops (Rest false bytes)
unfolding data_before
before-unfinished delimiter n bytes short = rw (lt-ltb (length bytes) (n + largest_data + length delimiter + 1) short) refl

pub before-overdue : (delimiter : List ℕ) (n : ℕ) (bytes : List ℕ)
    → n + largest_data + length delimiter + 1 ≤ length bytes
    → data_before None delimiter n bytes ≡ Stops (Failed Limit)
unfolding data_before
before-overdue delimiter n bytes long = rw (le-ltb (length bytes) (n + largest_data + length delimiter + 1) long) refl
