use Rattle.export_laws.proofs.FilesPut.{files-put}
use Rattle.export_laws.proofs.laws.files_are_put.Goals as goal

pub returns : goal.returns
returns c = files-put
