use Rattle.export_laws.proofs.EndImported.{export-imported}
use Rattle.export_laws.proofs.laws.exports_are_imported.Goals as goal

pub returns : goal.returns
returns c = λ digest names repository sound can.
    export-imported digest names repository sound can.fits can.few_tags can.few_refs
