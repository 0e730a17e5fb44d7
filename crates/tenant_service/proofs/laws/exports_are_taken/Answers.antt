use Rattle.tenant_service.proofs.ExportLemmas.{exports-taken}
use Rattle.tenant_service.proofs.laws.exports_are_taken.Goals as goal

pub returns : goal.returns
returns c = exports-taken
