-- A tenant's objects under their names: gitglossary(7), "object name".
use Rattle.std.specs.Prelude.{ℕ, ◌==◌, List, [], map, slice_index_or, if◌then◌else◌}
use Rattle.std.specs.List.{IsDistinct}
use Rattle.std.specs.Map.{keys_of}
use Rattle.std.specs.Str.{bytes_eq}
use Rattle.git_model.specs.declared.kind.Kind.{Kind}
use Rattle.git_model.specs.declared.kind.Kind.TheVariants as kind
use Rattle.git_model.specs.Content.{Content, content_from, name_by}
use Rattle.git_model.specs.Repository.{Object}
use Rattle.pool_file_format.specs.Format.{RawObject}

-- The kind of this byte. A byte of no kind counts as that of a blob.
abbrev pub kind_of : ℕ → Kind
kind_of byte = if byte == 1 then kind.Commit else if byte == 2 then kind.Tree
    else if byte == 4 then kind.Tag else kind.Blob

-- The content of an object of a file, and that of the object with a number in its list; an empty
-- blob past the end.
abbrev pub content_of : RawObject → Content
content_of o = content_from (kind_of o.kind) o.bytes

unfoldable pub content_at : List RawObject → ℕ → Content
content_at os n = content_of (slice_index_or os n (record { kind = 3; bytes = [] }))

-- The names of all objects of a file, in their order.
abbrev pub names_of : (List ℕ → List ℕ) → List RawObject → List (List ℕ)
names_of digest os = map (λ o. name_by digest (content_of o)) os

-- Each of a tenant's numbers, under the name of its object.
abbrev pub Rows : Type 0
Rows = List (List ℕ × ℕ)

abbrev pub row : List (List ℕ) → ℕ → List ℕ × ℕ
row names n = (slice_index_or names n [], n)

abbrev pub rows_of : List (List ℕ) → List ℕ → Rows
rows_of names numbers = map (row names) numbers

-- The objects of rows: each has the row's name and the content of the row's number.
unfoldable pub objects_in : List RawObject → Rows → List Object
objects_in os rows = map (λ r. record { id = r.0; content = content_at os r.1 }) rows

-- A tenant's objects, in its order.
abbrev pub own_objects : (List ℕ → List ℕ) → List RawObject → List ℕ → List Object
own_objects digest os numbers = objects_in os (rows_of (names_of digest os) numbers)

-- No two objects have the same name, whatever their contents.
abbrev pub AreDistinct : Rows → Type 0
AreDistinct rows = IsDistinct bytes_eq (keys_of rows)
