-- Files whose objects are there: git-fsck(1), the connectivity of trees.
use Rattle.std.specs.Prelude.{◌≡◌, ◌≢◌, List, Some}
use Rattle.git_model.specs.declared.file_mode.FileMode.TheVariants as mode
use Rattle.git_model.specs.Modes.{kind_of_mode}
use Rattle.git_model.specs.Repository.{Object}
use Rattle.git_model.specs.References.{kind_named}
use Rattle.file_maps.specs.declared.entry.Entry.{Entry}
use Rattle.file_maps.specs.FileMap.{Path}

-- A file's object is there, of the kind that its mode asks for. A gitlink's object is a commit of
-- another repository, and need not be there.
abbrev pub IsFileHeld : List Object → Path × Entry → Type 0
IsFileHeld os f = f.1.mode ≢ mode.Gitlink → kind_named f.1.name os ≡ Some (kind_of_mode f.1.mode)
