-- Files that are put one by one: git-fast-import(1), "filemodify".
use Rattle.std.specs.Prelude.{◌≡◌, [], ◌∷◌, None}
use Rattle.file_maps.specs.declared.entry.Entry.{Entry}
use Rattle.file_maps.specs.Edits.{moved, put_at, put_fault}
use Rattle.file_maps.specs.FileMap.{FileMap, Listed, Path}

-- Files, put one after another, lead from one file map to another. Each replaces what is at its
-- path, and no limit refuses one.
pub data Puts : Listed → FileMap → FileMap → Type 0 where
  nothing : (m : FileMap) → Puts [] m m
  first_file : (f : Path × Entry) (files : Listed) (m next left : FileMap) → put_at m f.0 f.1 ≡ next
      → put_fault (moved f.0 (([], f.1) ∷ [])) next ≡ None
      → Puts files next left
      → Puts (f ∷ files) m left
