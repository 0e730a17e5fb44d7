-- How contents lie in their files: one after the other in the order of the rows, file after file,
-- with nothing before, between or after them. So each byte of a file is that of one row.
use Rattle.std.specs.Prelude.{◌≡◌, ℕ, suc, ◌+◌, ◌==◌, List, [], ◌∷◌, take, drop, if◌then◌else◌}
use Rattle.pool_file_format.specs.Format.{RawObject}
use Rattle.store_format.specs.State.{ContentsFile}
use Rattle.store_format.specs.Rows.{Row}
use Rattle.store_format.specs.Saying.{Numbered}

-- The contents of these rows are all bytes of the file from an offset on.
abbrev pub FillFrom : ContentsFile → ℕ → List Row → Type 0
FillFrom c offset [] = offset ≡ c.size
FillFrom c offset (r ∷ rs) = (r.file ≡ c.number) × (r.offset ≡ offset)
    × FillFrom c (r.offset + r.size) rs

-- How many rows come before the first one that names another file.
abbrev pub count_in : ℕ → List Row → ℕ
count_in number [] = 0
count_in number (r ∷ rs) = if r.file == number then suc (count_in number rs) else 0

-- The first rows fill the first file, those after them the next one, and so on; no row is left.
abbrev pub AreTiled : List ContentsFile → List Row → Type 0
AreTiled [] rows = rows ≡ []
AreTiled (c ∷ cs) rows = FillFrom c 0 (take (count_in c.number rows) rows)
    × AreTiled cs (drop (count_in c.number rows) rows)

-- The contents of an object, and all bytes of a file that count.
abbrev pub object_bytes : RawObject → List ℕ
object_bytes o = o.bytes

abbrev pub file_bytes : Numbered → List ℕ
file_bytes f = f.1
