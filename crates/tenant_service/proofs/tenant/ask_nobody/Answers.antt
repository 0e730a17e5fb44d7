use Rattle.std.proofs.Common.{sym, subst}
use Rattle.session_laws.proofs.SoundLemmas.{empty_is_sound}
use Rattle.tenant_service.specs.TenantState.{TenantState}
use Rattle.tenant_service.specs.Soundness.{IsSoundTenantState}
use Rattle.tenant_service.proofs.tenant.ask_nobody.Goals as goal

pub ask-answer-requires : goal.ask-answer-requires
ask-answer-requires g c = record {
  stands = c.new_tenant-nobody.ensures.stands g.N.Naming.digest_of c.args.pool.now;
  sound = subst (λ (held : TenantState). IsSoundTenantState g.N.Naming.digest_of held) (sym (c.new_tenant-nobody.ensures.held c.args.pool.now))
      (empty_is_sound g.N.Naming.digest_of);
}

pub returns : goal.returns
returns g c = rw (c.new_tenant-nobody.ensures.held c.args.pool.now) at c.ask-answer.ensures.own
