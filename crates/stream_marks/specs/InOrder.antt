-- The list of the marks that are set in the order of their numbers.
use Rattle.std.specs.Prelude.{◌≡◌, ℕ, Bool, ◌+◌, ◌-◌, ◌*◌, ◌/◌, ◌≤◌, ◌&&◌, List, length, Option, None, nat_le, nat_lt, slice_get, unwrap_or}
use Rattle.stream_grammar.specs.declared.marked_object.MarkedObject.{MarkedObject}
use Rattle.stream_marks.specs.View.{marks_from}

-- The list has so many marks, and no more than four places for each of them and for 16 more.
pub record HasMarks (objects : List (Option MarkedObject)) (count : ℕ) : Type 0 where
  pub counted : count ≡ length (marks_from 1 objects)
  pub dense : length objects ≤ 4 * (count + 16)

-- The object at a position of the list, if there is a mark.
abbrev pub object_at : List (Option MarkedObject) → ℕ → Option MarkedObject
object_at objects position = unwrap_or (slice_get objects position) None

-- Whether a mark may be put at a position, after the marks of a list that has so many places, room
-- for so many, and so many marks.
abbrev pub may_follow : (places room count position : ℕ) → Bool
may_follow places room count position = nat_le places position && (nat_lt position room
    && (nat_le (position - places) 16 && nat_le (position / 4) (count + 16)))
