-- What a table knows of a tree without reading it: the size of its file map.
use Rattle.std.specs.Prelude.{◌≡◌, ◌≢◌, ℕ, ◌+◌, ◌==◌, ◌≤◌, List, All, Option, IsSomeAnd, length, map, max, fold, if◌then◌else◌}
use Rattle.std.specs.Option.{unwrap_or}
use Rattle.git_model.specs.declared.file_mode.FileMode.{FileMode}
use Rattle.git_model.specs.declared.file_mode.FileMode.TheVariants as mode
use Rattle.git_model.specs.Limits.{files_limit, path_bytes_limit, path_components_limit}
use Rattle.git_model.specs.Tree.{TreeEntry, CanWriteTree, tree_contents}
use Rattle.tenant_tables.specs.declared.summary.Summary.{Summary}
use Rattle.tenant_tables.specs.View.{Entries, summary_of}

-- No files.
abbrev pub no_files : Summary
no_files = record { files = 0; depth = 0; longest = 0 }

-- The files of a directory, under the name of its entry. An empty directory adds none.
abbrev pub below : List ℕ → Summary → Summary
below name s = if s.files == 0 then no_files
    else record { files = s.files; depth = 1 + s.depth; longest = length name + 1 + s.longest }

-- One file, at the name of its entry.
abbrev pub one_file : List ℕ → Summary
one_file name = record { files = 1; depth = 1; longest = length name }

-- What an entry adds, by the summaries that are known of trees: a directory adds the files of its
-- tree, every other entry adds itself.
abbrev pub by_mode : FileMode → Summary → Summary → Summary
by_mode mode.Directory directory file = directory
by_mode mode.Regular directory file = file
by_mode mode.Executable directory file = file
by_mode mode.Symlink directory file = file
by_mode mode.Gitlink directory file = file

abbrev pub summary_by : (List ℕ → Option Summary) → TreeEntry → Summary
summary_by known e = by_mode e.mode (below e.name (unwrap_or (known e.id) no_files))
    (one_file e.name)

-- The files of both; the longer of the two paths, and the deeper.
abbrev pub both : Summary → Summary → Summary
both s t = record {
  files = s.files + t.files;
  depth = max s.depth t.depth;
  longest = max s.longest t.longest;
}

-- What all entries of a tree add.
abbrev pub tree_summary_by : (List ℕ → Option Summary) → List TreeEntry → Summary
tree_summary_by known es = fold both no_files (map (summary_by known) es)

-- At most 1,048,576 files, 256 components, and paths of 16,383 bytes.
pub record IsWithin (s : Summary) : Type 0 where
  pub files : s.files ≤ files_limit
  pub depth : s.depth ≤ path_components_limit
  pub longest : s.longest ≤ path_bytes_limit

-- The tree of a directory is known, and has at least one file.
abbrev pub HasFilesBy : (List ℕ → Option Summary) → TreeEntry → Type 0
HasFilesBy known e = e.mode ≡ mode.Directory → IsSomeAnd (known e.id) (λ s. s.files ≢ 0)

-- The same by the summaries that a table has.
abbrev pub entry_summary : Entries → TreeEntry → Summary
entry_summary table e = summary_by (λ id. summary_of id table) e

abbrev pub tree_summary : Entries → List TreeEntry → Summary
tree_summary table es = tree_summary_by (λ id. summary_of id table) es

abbrev pub DirectoryStands : Entries → TreeEntry → Type 0
DirectoryStands table e = HasFilesBy (λ id. summary_of id table) e

-- The bytes are the contents of a tree whose directories are in the table, and the summary is that
-- of its files, which are within the limits.
pub record IsTreeOf (table : Entries) (bytes : List ℕ) (summary : Summary)
    (es : List TreeEntry) : Type 0 where
  pub writable : CanWriteTree es
  pub contents : bytes ≡ tree_contents es
  pub directories : All (DirectoryStands table) es
  pub sums : summary ≡ tree_summary table es
  pub within : IsWithin summary

-- The same, of some entries.
abbrev pub FitsTree : Entries → List ℕ → Summary → Type 0
FitsTree table bytes summary = (es : List TreeEntry) × IsTreeOf table bytes summary es
