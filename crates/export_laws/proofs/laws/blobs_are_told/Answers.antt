use Rattle.export_laws.proofs.Blobs.{blob-told}
use Rattle.export_laws.proofs.laws.blobs_are_told.Goals as goal

pub returns : goal.returns
returns c = blob-told
