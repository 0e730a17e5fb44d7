-- Marks: git-fast-import(1), "mark".
pub use Rattle.git_model.specs.Limits.{mark_limit}
pub use Rattle.stream_marks.specs.View.{Marks}
use Rattle.std.specs.Prelude.{ℕ, ◌||◌, Bool, nat_eq, nat_lt, if◌then◌else◌, List, length, Option, None, Some, is_some, Result, Ok, Err}
use Rattle.std.specs.Map.{lookup}
use Rattle.indexmap.specs.IndexMap.{insert_entry}
use Rattle.stream_grammar.specs.declared.data_ref.DataRef.{DataRef}
use Rattle.git_model.specs.declared.kind.Kind.{Kind}
use Rattle.stream_grammar.specs.declared.data_ref.DataRef.TheVariants as data_ref
use Rattle.stream_grammar.specs.declared.marked_object.MarkedObject.{MarkedObject}
use Rattle.stream_parts.specs.declared.fault.Fault.{Fault}
use Rattle.stream_parts.specs.declared.fault.Fault.TheVariants as fault

-- The name of the object that a mark stands for.
abbrev pub found_mark : Option MarkedObject → Result (List ℕ) Fault
found_mark None = Err fault.MarkUnknown
found_mark (Some object) = Ok object.name

-- The name of the object that a mark stands for, which must be set.
abbrev pub marked_name : Marks → ℕ → Result (List ℕ) Fault
marked_name marks mark = found_mark (lookup (nat_eq mark) marks)

-- The name of the object that a dataref stands for.
abbrev pub referred_name : Marks → DataRef → Result (List ℕ) Fault
referred_name marks (data_ref.Mark mark) = marked_name marks mark
referred_name marks (data_ref.Name id) = Ok id

-- A mark may be set if it is there already or there are fewer marks than the limit.
unfoldable pub has_room : Marks → ℕ → Bool
has_room marks mark = is_some (lookup (nat_eq mark) marks) || nat_lt (length marks) mark_limit

-- There is room for the mark of a command, if it has one.
abbrev pub room_for : Marks → Option ℕ → Result Unit Fault
room_for marks None = Ok tt
room_for marks (Some mark) = if has_room marks mark then Ok tt else Err fault.Limit

-- An object of a kind, as marks keep it.
abbrev pub as_marked : Kind → List ℕ → MarkedObject
as_marked kind id = record { name = id; kind = kind }

-- The marks after one is set, perhaps again, to an object of a kind.
abbrev pub with_mark : Marks → Option ℕ → Kind → List ℕ → Marks
with_mark marks None kind id = marks
with_mark marks (Some mark) kind id = insert_entry nat_eq marks mark (as_marked kind id)
