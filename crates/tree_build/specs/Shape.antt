-- What a branch holds of its files: opened directories, and the names of stored trees in place of
-- all others.
use Rattle.std.specs.Prelude.{ℕ, List, [], ◌∷◌, ◌++◌, Option}
use Rattle.file_maps.specs.declared.entry.Entry.{Entry}
use Rattle.file_maps.specs.FileMap.{Listed}
use Rattle.file_maps.specs.Edits.{moved}

-- A file; an unopened directory, by the name of its stored tree; or an opened directory, with the
-- name of its stored tree if it still is one.
pub data What : Type 0 where
  file : Entry → What
  unopened : List ℕ → What
  opened : Option (List ℕ) → What

-- The direct entries of an opened directory, in a row: the name of each, what it is, and what was
-- opened inside it.
pub data Shape : Type 0 where
  none : Shape
  row : List ℕ → What → Shape → Shape → Shape

-- What is held at one path.
pub record Held : Type 0 where
  pub what : What
  pub inside : Shape

-- An opened directory.
pub record Directory : Type 0 where
  pub tree : Option (List ℕ)
  pub entries : Shape

-- ---- which files it means

-- The files of each stored tree by its name: git-ls-tree(1), with -r.
abbrev pub Known : Type 0
Known = List ℕ → Listed

-- The files of what is held at a path, by their paths from there.
abbrev pub what_files : Known → What → Listed → Listed
what_files known (file e) inside = ([], e) ∷ []
what_files known (unopened id) inside = known id
what_files known (opened tree) inside = inside

abbrev pub shape_files : Known → Shape → Listed
shape_files known none = []
shape_files known (row c what inside rest) =
    moved (c ∷ []) (what_files known what (shape_files known inside)) ++ shape_files known rest

abbrev pub held_files : Known → Held → Listed
held_files known h = what_files known h.what (shape_files known h.inside)
