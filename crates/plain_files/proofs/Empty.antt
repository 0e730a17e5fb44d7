-- No files.
use Rattle.std.proofs.Common.{◌≡◌, eqb, [], ◌∷◌, length, refl}
use Rattle.std.proofs.lemmas.Bool.{ne_eqb}
use Rattle.file_maps.specs.FileMap.{Listed}
use Rattle.file_maps.specs.Edits.{is_empty}

pub length-is_empty : (files : Listed) → eqb (length files) 0 ≡ is_empty files
length-is_empty [] = refl
length-is_empty (f ∷ files) = ne_eqb (length (f ∷ files)) 0 (λ e. cc e)

pub ruleset empties = (length-is_empty)
