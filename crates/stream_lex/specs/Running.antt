-- How what a lexer holds represents all bytes and items so far.
use Rattle.std.specs.Prelude.{◌≡◌, false, ℕ, List, [], ◌++◌}
use Rattle.stream_lex.specs.Items.{Item, Tail, Rest, Failed, Reading, before, after_items}
use Rattle.stream_lex.specs.Reading.{reading}

-- The tail with more bytes after it; a fault stays.
abbrev pub extended : Tail → List ℕ → Tail
extended (Rest skips bytes) more = Rest skips (bytes ++ more)
extended (Failed fault) more = Failed fault

-- The reading of more bytes, from a tail on.
abbrev pub more_of : Tail → List ℕ → Reading
more_of (Rest skips bytes) more = reading skips (bytes ++ more)
more_of (Failed fault) more = record { items = []; tail = Failed fault }

-- The bytes so far gave these items and left this tail: whatever bytes come, the reading of all is
-- these items and then the reading from the tail on.
abbrev pub Leads : List ℕ → List Item → Tail → Type 0
Leads bytes items tail =
    (more : List ℕ) → reading false (bytes ++ more) ≡ after_items items (more_of tail more)

-- One item was taken: whatever bytes come, the old tail gives the item and then what the new gives.
abbrev pub Takes : Tail → Item → Tail → Type 0
Takes old item new = (more : List ℕ) → more_of old more ≡ before item (more_of new more)

-- The two tails give the same, whatever bytes come.
abbrev pub ReadsAlike : Tail → Tail → Type 0
ReadsAlike old new = (more : List ℕ) → more_of old more ≡ more_of new more

-- The tail holds no whole item and no fault.
abbrev pub HasNoItem : Tail → Type 0
HasNoItem (Rest skips bytes) = reading skips bytes ≡ record { items = []; tail = Rest skips bytes }
HasNoItem (Failed fault) = ⊥
