-- Edits of a file map: git-fast-import(1), "filemodify", "filedelete", "filecopy" and "filerename".
use Rattle.std.specs.Prelude.{Bool, ◌&&◌, not, true, false, is_some, nat_le, [], ◌∷◌, ◌++◌, map}
use Rattle.std.specs.Prelude.{Option, Some, None, if◌then◌else◌}
use Rattle.std.specs.FinMap as finmap
use Rattle.std.specs.List.{list_any, list_all}
use Rattle.git_model.specs.Limits.{files_limit}
use Rattle.git_paths.specs.Paths.{strip_prefix, is_within_limits}
use Rattle.file_maps.specs.declared.entry.Entry.{Entry}
use Rattle.file_maps.specs.declared.fault.Fault.{Fault}
use Rattle.file_maps.specs.declared.fault.Fault.TheVariants as fault
use Rattle.file_maps.specs.FileMap.{Path, Listed, FileMap, listed, is_apart}

-- A file before others, if its path is at or below the top.
abbrev pub cut_one : Option Path → Entry → Listed → Listed
cut_one (Some rest) e files = (rest, e) ∷ files
cut_one None e files = files

-- The files at or below a path, with the path cut off. A file at the path itself then stands at the
-- root.
abbrev pub cut : Path → Listed → Listed
cut top [] = []
cut top (f ∷ files) = cut_one (strip_prefix top f.0) f.1 (cut top files)

abbrev pub files_at : FileMap → Path → Listed
files_at m top = cut top (listed m)

-- Files with a path put before each of theirs.
abbrev pub moved : Path → Listed → Listed
moved top files = map (λ f. (top ++ f.0, f.1)) files

-- The map with these files put into it.
abbrev pub with_files : FileMap → Listed → FileMap
with_files m [] = m
with_files m (f ∷ files) = finmap.insert (with_files m files) f.0 f.1

-- The map with these files at or below a path, in place of what was at the path, below it, or at a
-- prefix of it.
abbrev pub put_tree_at : FileMap → Path → Listed → FileMap
put_tree_at m top files = with_files (finmap.retain_keys m (is_apart top)) (moved top files)

-- A file at a path, in place of all that.
abbrev pub put_at : FileMap → Path → Entry → FileMap
put_at m path e = put_tree_at m path (([], e) ∷ [])

-- Whether a path is neither another nor below it.
abbrev pub is_outside : Path → Path → Bool
is_outside top q = not (is_some (strip_prefix top q))

-- The map without the files at or below a path.
abbrev pub without : FileMap → Path → FileMap
without m top = finmap.retain_keys m (is_outside top)

-- The map with the files at or below one path copied to another, in place of what was there.
abbrev pub copied : FileMap → Path → Path → FileMap
copied m from to = put_tree_at m to (files_at m from)

-- The same, with the files removed from the first path.
abbrev pub renamed : FileMap → Path → Path → FileMap
renamed m from to = put_tree_at (without m from) to (files_at m from)

-- ---- refusals

abbrev pub is_root : Path → Bool
is_root [] = true
is_root (c ∷ p) = false

abbrev pub is_empty : Listed → Bool
is_empty [] = true
is_empty (f ∷ files) = false

-- Files fit a map if their paths are within the limits and the map with them has at most 1,048,576
-- files.
abbrev pub fits : Listed → FileMap → Bool
fits files after =
    list_all (λ f. is_within_limits f.0) files && nat_le (finmap.len after) files_limit

-- Why files cannot be put: one would be at the root, or a limit is passed. `after` is the map with
-- the files put.
unfoldable pub put_fault : Listed → FileMap → Option Fault
put_fault files after =
    if list_any (λ f. is_root f.0) files then Some fault.RootNotDirectory
    else if fits files after then None else Some fault.Limit

-- The same, but there must be a file.
unfoldable pub move_fault : Listed → FileMap → Option Fault
move_fault files after = if is_empty files then Some fault.SourceMissing else put_fault files after
