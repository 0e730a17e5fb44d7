use Rattle.file_maps.proofs.Maps.{empty-of}
use Rattle.plain_files.proofs.files.Files.new.Goals as goal

pub returns : goal.returns
returns c = empty-of _ c.new.ensures.empty
