-- The files of a directory, entry by entry.
use Rattle.std.specs.Prelude.{◌≢◌, List, [], ◌∷◌, ◌++◌, ℕ}
use Rattle.std.specs.Str.{bytes_eq}
use Rattle.std.specs.List.{AllByRecursion}
use Rattle.std.specs.Prelude.{if◌then◌else◌}
use Rattle.file_maps.specs.FileMap.{Listed}
use Rattle.file_maps.specs.Edits.{moved}
use Rattle.file_maps.specs.Trees.{Groups}

-- The files that entries have, each below its name.
abbrev pub spread : Groups → Listed
spread [] = []
spread (g ∷ parts) = moved (g.0 ∷ []) g.1 ++ spread parts

-- The files of the entry of a name; none if there is no such entry.
abbrev pub part_of : List ℕ → Groups → Listed
part_of c [] = []
part_of c (g ∷ parts) = if bytes_eq c g.0 then g.1 else part_of c parts

-- Each entry has files, and no two have the same name.
abbrev pub AreParts : Groups → Type 0
AreParts [] = Unit {0}
AreParts (g ∷ parts) = (g.1 ≢ []) × AllByRecursion (λ h. g.0 ≢ h.0) parts × AreParts parts
