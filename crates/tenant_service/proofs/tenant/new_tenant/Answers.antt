use Rattle.std.proofs.Common.{length, sym, ap, ◌∙◌}
use Rattle.tenant_tables.proofs.TableLemmas.{IsBackedBy-nil}
use Rattle.tenant_service.proofs.TenantLemmas.{held_nothing}
use Rattle.tenant_service.proofs.tenant.new_tenant.Goals as goal

pub returns-clause-stands : goal.returns-clause-stands
returns-clause-stands c = λ digest pool. record {
  entries = rw c.new.ensures.entries (IsBackedBy-nil digest pool);
  settled = c.new.ensures.committed ∙ sym (ap length c.new.ensures.entries);
  opened = tt;
  files = tt;
  chain = rw c.new-3.ensures tt;
}

pub returns-clause-held : goal.returns-clause-held
returns-clause-held c = λ pool. held_nothing pool c.new.result c.new-2.result c.new.ensures.entries c.new-2.ensures
