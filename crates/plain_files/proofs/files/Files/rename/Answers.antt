use Rattle.file_maps.specs.Edits.{moved, files_at}
use Rattle.plain_files.proofs.Edited.{edits-renamed}
use Rattle.plain_files.proofs.files.Files.rename.Goals as goal

pub returns : goal.returns
returns g c =
    edits-renamed c.move_files.result c.args.self.now c.move_files.new.self c.args.from.now c.args.to.now
    (moved c.args.to.now (files_at c.args.self.now c.args.from.now)) c.move_files.ensures
