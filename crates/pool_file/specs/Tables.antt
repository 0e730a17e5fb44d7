-- Adding one object to the table of a tenant, which is made from the numbers in a file.
use Rattle.std.specs.Prelude.{◌≡◌, ℕ, ◌<◌, ◌≤◌, List, [], ◌∷◌, ◌++◌, length, Option, None, Some, get_or, slice_get}
use Rattle.std.specs.Map.{lookup}
use Rattle.std.specs.Str.{bytes_eq}
use Rattle.git_model.specs.Limits.{contents_limit, objects_limit}
use Rattle.git_model.specs.declared.kind.Kind.{Kind}
use Rattle.git_model.specs.declared.kind.Kind.TheVariants as kind
use Rattle.git_model.specs.TreeReading.{tree_read}
use Rattle.git_model.specs.Content.{Content, name_by}
use Rattle.git_model.specs.Repository.{Object}
use Rattle.content_pool.specs.Pool.{Cells, HasHoldsLeft, IsLive, content}
use Rattle.tenant_tables.specs.declared.entry.Entry.{Entry}
use Rattle.tenant_tables.specs.declared.summary.Summary.{Summary}
use Rattle.tenant_tables.specs.View.{View, Entries, entry_named, summary_of}
use Rattle.tenant_tables.specs.Objects.{objects}
use Rattle.tenant_tables.specs.Sums.{IsTreeText, IsWithin}
use Rattle.tenant_tables.specs.Trees.{tree_summary}
use Rattle.tenant_tables.specs.IsBackedBy.{IsBackedBy, PreservesOthers}
use Rattle.pool_file_checks.specs.Sums.{Sums, SameSums, Fits, sum_of_tree, sums_with}

-- The table and the sums have the same summary under each name.
abbrev pub AreNoted : Sums → Entries → Type 0
AreNoted sums entries = (id : List ℕ) → lookup (bytes_eq id) sums ≡ summary_of id entries

-- An object fits after the trees of a table.
abbrev pub FitsIn : Entries → Kind → List ℕ → Type 0
FitsIn entries kind.Tree bytes = IsTreeText bytes (tree_read bytes)
    × IsWithin (tree_summary entries (tree_read bytes))
FitsIn entries kind.Blob bytes = Unit {0}
FitsIn entries kind.Commit bytes = Unit {0}
FitsIn entries kind.Tag bytes = Unit {0}

-- The summary of an object after the trees of a table, if it is a tree.
abbrev pub summary_in : Entries → Kind → List ℕ → Option Summary
summary_in entries kind.Tree bytes = Some (tree_summary entries (tree_read bytes))
summary_in entries kind.Blob bytes = None
summary_in entries kind.Commit bytes = None
summary_in entries kind.Tag bytes = None

-- A content under its name.
abbrev pub object_of : (List ℕ → List ℕ) → Content → Object
object_of digest c = record { id = name_by digest c; content = c }

-- The object of a slot can be added to a table whose trees have these sums.
pub record CanLoad (digest : List ℕ → List ℕ) (pool : Cells) (entries : Entries) (sums : Sums)
    (slot : ℕ) : Type 0 where
  pub stands : IsBackedBy digest pool entries
  pub room : HasHoldsLeft pool
  pub live : IsLive pool slot
  pub new : entry_named (name_by digest (content pool slot)) entries ≡ None
  pub spare : length entries < objects_limit
  pub short : length (content pool slot).bytes ≤ contents_limit
  pub noted : AreNoted sums entries
  pub fits : Fits (content pool slot).kind (content pool slot).bytes sums

-- The summary, if the object is a tree.
abbrev pub known_sum : Kind → Summary → Option Summary
known_sum kind.Tree s = Some s
known_sum kind.Blob s = None
known_sum kind.Commit s = None
known_sum kind.Tag s = None

-- The sums with that of a content, if it is a tree.
abbrev pub sums_on : (List ℕ → List ℕ) → Content → Sums → Sums
sums_on digest c sums = sums_with c.kind (name_by digest c) c.bytes sums

-- The object of a slot can be added to a table, and the summary is its own if it is a tree.
pub record CanAdd (digest : List ℕ → List ℕ) (pool : Cells) (entries : Entries) (slot : ℕ)
    (sum : Summary) : Type 0 where
  pub noted : Sums
  pub can : CanLoad digest pool entries noted slot
  pub sum_is : (content pool slot).kind ≡ kind.Tree
      → sum ≡ sum_of_tree noted (tree_read (content pool slot).bytes)

-- The object was added, and its sum was noted if it is a tree.
pub record Loads (digest : List ℕ → List ℕ) (slot : ℕ) (before : Cells) (old : Entries)
    (sums : Sums) (after : Cells) (new : Entries) (more : Sums) : Type 0 where
  pub stands : IsBackedBy digest after new
  pub others : PreservesOthers before old after new
  pub objects : objects after new
      ≡ objects before old ++ object_of digest (content before slot) ∷ []
  pub noted : AreNoted more new
  pub trees : SameSums more (sums_with (content before slot).kind
      (name_by digest (content before slot)) (content before slot).bytes sums)

-- So many first entries lie in the slots of as many first numbers.
pub record BeginAlike (entries : Entries) (slots numbers : List ℕ) (count : ℕ) : Type 0 where
  pub has : count ≤ length entries
  pub few : count ≤ length numbers
  pub alike : (i : ℕ) (x : List ℕ × Entry) → i < count → slice_get entries i ≡ Some x
      → x.1.slot ≡ get_or slots (get_or numbers i 0) 0

-- A table has the objects of the first numbers, all committed, and its holds are all that the pool
-- has more.
pub record Starts (digest : List ℕ → List ℕ) (slots numbers : List ℕ) (before after : Cells)
    (table : View) : Type 0 where
  pub stands : IsBackedBy digest after table.entries
  pub others : PreservesOthers before [] after table.entries
  pub committed : table.committed ≡ length table.entries
  pub alike : BeginAlike table.entries slots numbers (length table.entries)
