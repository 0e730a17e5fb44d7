use Rattle.file_maps.proofs.Maps.{empty-of}
use Rattle.plain_files.proofs.files.Files.clear.Goals as goal

pub returns : goal.returns
returns c = empty-of _ c.clear.ensures.empty
