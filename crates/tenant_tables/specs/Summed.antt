-- The summaries that a table keeps: each is the one that the content has, by those before it.
use Rattle.std.specs.Prelude.{◌≡◌, ℕ, List, All, Option, Some, IsSome, take, slice_get}
use Rattle.git_model.specs.declared.file_mode.FileMode.TheVariants as mode
use Rattle.git_model.specs.declared.kind.Kind.TheVariants as kind
use Rattle.git_model.specs.Content.{Content}
use Rattle.git_model.specs.Tree.{TreeEntry}
use Rattle.git_model.specs.TreeReading.{tree_read}
use Rattle.content_pool.specs.Pool.{Cells, content}
use Rattle.tenant_tables.specs.declared.entry.Entry.{Entry}
use Rattle.tenant_tables.specs.declared.summary.Summary.{Summary}
use Rattle.tenant_tables.specs.SumIn.{content_sum}
use Rattle.tenant_tables.specs.View.{Entries, entry_named, summary_of}

-- The tree of a directory is in the table, with a summary or without.
abbrev pub IsDirectoryThere : Entries → TreeEntry → Type 0
IsDirectoryThere table e = e.mode ≡ mode.Directory → IsSome (entry_named e.id table)

-- The summary in a new entry, after those of the table: the trees of a tree's directories are there,
-- and the summary is what they make of it. A tree that is not plain has none.
pub record SummedAfter (table : Entries) (c : Content) (summary : Option Summary) : Type 0 where
  pub directories : c.kind ≡ kind.Tree → All (IsDirectoryThere table) (tree_read c.bytes)
  pub sum : summary ≡ content_sum (λ id. summary_of id table) c

-- Each entry has the right summary, given the entries before it.
unfoldable pub IsSummed : Cells → Entries → Type 0
IsSummed pool entries = (i : ℕ) (id : List ℕ) (e : Entry) → slice_get entries i ≡ Some (id, e)
    → SummedAfter (take i entries) (content pool e.slot) e.summary
