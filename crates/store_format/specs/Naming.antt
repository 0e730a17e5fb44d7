-- Which rows have the name of their contents.
use Rattle.std.specs.Prelude.{ℕ, ◌==◌, List, [], ◌∷◌, Result, Ok, Err, if◌then◌else◌}
use Rattle.std.specs.Str.{bytes_eq}
use Rattle.git_model.specs.declared.kind.Kind.{Kind}
use Rattle.git_model.specs.declared.kind.Kind.TheVariants as kind
use Rattle.git_model.specs.ObjectName.{object_name}
use Rattle.pool_file_format.specs.declared.refusal.Refusal.{Refusal}
use Rattle.pool_file_format.specs.declared.refusal.Refusal.TheVariants as refusal
use Rattle.pool_file_format.specs.Lengths.{◌>>=◌}
use Rattle.store_format.specs.Rows.{Row}
use Rattle.store_format.specs.Saying.{Numbered, object_of}

-- The kind of a byte: the reverse of `kind_byte`. `BadObject` if it is that of none.
abbrev pub kind_at : ℕ → Result Kind Refusal
kind_at byte = if byte == 1 then Ok kind.Commit else if byte == 2 then Ok kind.Tree
    else if byte == 3 then Ok kind.Blob else if byte == 4 then Ok kind.Tag
    else Err refusal.BadObject

-- A row's contents are there and are of some kind, and their name is that of the row.
unfoldable pub named : (List ℕ → List ℕ) → List Numbered → Row → Result Unit Refusal
named digest files r = do
  content ← object_of files r
  known ← kind_at r.kind
  if bytes_eq r.id (object_name digest known content.bytes) then Ok tt
      else Err refusal.NotCanonical

-- The same of all rows, one after the other.
unfoldable pub all_named : (List ℕ → List ℕ) → List Numbered → List Row → Result Unit Refusal
all_named digest files [] = Ok tt
all_named digest files (r ∷ rs) = do
  first ← named digest files r
  all_named digest files rs
