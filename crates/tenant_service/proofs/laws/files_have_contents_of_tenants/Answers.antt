use Rattle.tenant_service.proofs.FileContents.{somebody-has}
use Rattle.tenant_service.proofs.laws.files_have_contents_of_tenants.Goals as goal

pub returns : goal.returns
returns c = somebody-has
