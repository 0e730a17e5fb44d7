-- Putting a file at a path in one walk, for private contracts.
use Rattle.std.specs.Prelude.{◌≡◌, ℕ, Bool, true, false, List, [], ◌∷◌, Option, None}
use Rattle.git_model.specs.Repository.{Object}
use Rattle.file_maps.specs.declared.entry.Entry.{Entry}
use Rattle.file_maps.specs.FileMap.{Path}
use Rattle.file_maps.specs.StoredFiles.{stored_files}
use Rattle.tree_build.specs.Shape.{What, file, unopened, opened, Shape, none, Held, Directory}
use Rattle.tree_build.specs.Editing.{new_directory, placed, taken}
use Rattle.tree_build.specs.Opened.{OpensHeld, OpensAlong}

abbrev pub file_held : Entry → Held
file_held e = record { what = file e; inside = none }

-- What is put under a name: a file, or a new directory that has it at the rest of the path.
abbrev pub new_node : Path → Held → Held
new_node [] h = h
new_node (c ∷ path) h = new_directory (placed (c ∷ path) h none)

abbrev pub has_more : Path → Bool
has_more [] = false
has_more (c ∷ path) = true

-- Whether the rest of a path leads into what stands under a name. If it does not, what stands there
-- is replaced.
abbrev pub leads_into : What → Path → Bool
leads_into (file e) rest = false
leads_into (unopened id) rest = has_more rest
leads_into (opened tree) rest = has_more rest

-- The directories on the way to a path were opened, and then a node was put at the path. So many
-- files that stood in its way are gone.
pub record PutsAlong (os : List Object) (path : Path) (h : Held) (old new : Directory) (gone : ℕ)
    : Type 0 where
  pub inside : Shape
  pub opens : OpensAlong os path old (record { tree = old.tree; entries = inside })
  pub tree : new.tree ≡ None
  pub entries : new.entries ≡ placed path h inside
  pub count : gone ≡ taken (stored_files os) true path inside

pub record PutsHeld (os : List Object) (path : Path) (h : Held) (old new : Held) (gone : ℕ)
    : Type 0 where
  pub tree : Option (List ℕ)
  pub inside : Shape
  pub opens : OpensHeld os path old (record { what = opened tree; inside = inside })
  pub is : new ≡ new_directory (placed path h inside)
  pub count : gone ≡ taken (stored_files os) true path inside
