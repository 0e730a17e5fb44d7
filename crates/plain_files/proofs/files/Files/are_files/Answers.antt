use Rattle.std.proofs.Common.{sym, ap, ◌∙◌, subst}
use Rattle.file_maps.specs.FileMap.{AreFiles, listed}
use Rattle.file_maps.proofs.Maps.{listed-of}
use Rattle.plain_files.proofs.files.Files.are_files.Goals as goal

pub returns : goal.returns
returns c =
    subst AreFiles
    (sym (listed-of c.self.inside.files.entries c.self.invariant) ∙ ap listed c.self.view_is) c.self.invariant
