use Rattle.tenant_service.proofs.loading.take_in.Goals as goal

pub returns : goal.returns
returns c = rw c.new.ensures at c.add_tenant.ensures.ok
