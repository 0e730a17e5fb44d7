-- Direct entries of a tree, and the files that each of them has.
use Rattle.std.specs.Prelude.{◌≡◌, ◌≢◌, ℕ, List, [], ◌∷◌}
use Rattle.git_model.specs.declared.file_mode.FileMode.TheVariants as mode
use Rattle.git_model.specs.Repository.{Object}
use Rattle.git_model.specs.Tree.{TreeEntry}
use Rattle.file_maps.specs.FileMap.{Listed}
use Rattle.file_maps.specs.Trees.{Groups}
use Rattle.file_maps.specs.ByComponent.{what}
use Rattle.file_maps.specs.PlainTrees.{ListsPlain}

-- The files of an entry: the entry itself, or those of a stored tree that is not empty.
pub data IsPart (os : List Object) : TreeEntry → List ℕ × Listed → Type 0 where
  a_file : (e : TreeEntry) → e.mode ≢ mode.Directory → IsPart os e (e.name, ([], what e) ∷ [])
  a_directory : (e : TreeEntry) (files : Listed) → e.mode ≡ mode.Directory
      → ListsPlain os e.id files → files ≢ [] → IsPart os e (e.name, files)

-- The same for each entry of a row.
abbrev pub HaveParts : List Object → List TreeEntry → Groups → Type 0
HaveParts os [] [] = Unit {0}
HaveParts os [] (g ∷ parts) = ⊥
HaveParts os (e ∷ es) [] = ⊥
HaveParts os (e ∷ es) (g ∷ parts) = IsPart os e g × HaveParts os es parts
