-- Contents that the pool lends, as objects of the file.
use Rattle.std.specs.Prelude.{ℕ, List, map}
use Rattle.pool_file_format.specs.Format.{RawObject}
use Rattle.pool_file_checks.specs.Objects.{object_key}
use Rattle.pool_file.specs.declared.content.LentContent.{LentContent}
use Rattle.pool_file.specs.declared.content.ListedContent.{ListedContent}

abbrev pub object_lent : LentContent → RawObject
object_lent c = record { kind = c.kind; bytes = c.bytes.now }

abbrev pub objects_lent : List ListedContent → List RawObject
objects_lent cs = map (λ c. object_lent c.content) cs

-- The byte of its kind, and then its bytes.
abbrev pub lent_key : LentContent → List ℕ
lent_key c = object_key (object_lent c)

-- The key of the content alone.
abbrev pub listed_key : ListedContent → List ℕ
listed_key c = lent_key c.content
