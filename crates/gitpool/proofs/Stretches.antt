-- A run that is cut in parts, and what each part is to a tenant that it spares.
use Rattle.std.proofs.Common.{ℕ, List, [], ◌∷◌, ◌++◌, refl, sym, ap, subst}
use Rattle.tenant_service.specs.Headline.{Run, IsIsolated}
use Rattle.tenant_service.specs.TenantState.{held_of}
use Rattle.tenant_service.proofs.RunLemmas.{own-more}
use Rattle.gitpool.specs.Requests.{Hosted}
use Rattle.gitpool.specs.Hosting.{HostRun, Leads, steps_in, with_step, IsSpared, IsStretch}
use Rattle.gitpool.proofs.HostLemmas.{own-one, same-none, with_step-more}

-- Where a run is cut, something is held.
pub record Cut (digest : List ℕ → List ℕ) (before after : Hosted) (first later : HostRun) : Type 0 where
  pub between : Hosted
  pub first_leads : Leads digest before first between
  pub later_leads : Leads digest between later after

cut : (digest : List ℕ → List ℕ) (before after : Hosted) (first later : HostRun) → Leads digest before (first ++ later) after
    → Cut digest before after first later
cut digest before after [] later leads = record { between = before; first_leads = refl; later_leads = leads }
cut digest before after (t ∷ first) later leads =
    let rest : Cut digest leads.0 after first later = cut digest leads.0 after first later leads.2 in
    record {
      between = rest.between;
      first_leads = (leads.0, leads.1, rest.first_leads);
      later_leads = rest.later_leads;
    }

own_all : (digest : List ℕ → List ℕ) (tenant : List ℕ) (before after : Hosted) (run : HostRun) → Leads digest before run after → IsSpared tenant run
    → IsIsolated digest tenant (held_of tenant before.tenants) (steps_in run) (held_of tenant after.tenants)
own_all digest tenant before after [] leads spared =
    same-none digest tenant before.tenants after.tenants (ap (λ (x : Hosted). held_of tenant x.tenants) leads)
own_all digest tenant before after (t ∷ later) leads spared =
    subst (λ (run : Run). IsIsolated digest tenant (held_of tenant before.tenants) run (held_of tenant after.tenants))
    (sym (with_step-more t.0 t.1 [] (steps_in later)))
    (own-more digest tenant (held_of tenant before.tenants) (held_of tenant leads.0.tenants) (held_of tenant after.tenants) (with_step t.0 t.1 [])
    (steps_in later) (own-one digest tenant before leads.0 t.0 t.1 leads.1 spared.0) (own_all digest tenant leads.0 after later leads.2 spared.1))

pub stretch-isolated : (digest : List ℕ → List ℕ) (before after : Hosted) (first stretch last : HostRun)
    → Leads digest before (first ++ stretch ++ last) after → IsStretch digest before after first stretch last
stretch-isolated digest before after first stretch last leads =
    let end : Cut digest before after (first ++ stretch) last = cut digest before after (first ++ stretch) last leads in
    let begin : Cut digest before end.between first stretch = cut digest before end.between first stretch end.first_leads in
    record {
      begin = begin.between;
      end = end.between;
      earlier = begin.first_leads;
      leads = begin.later_leads;
      later = end.later_leads;
      own = λ tenant spared. own_all digest tenant begin.between end.between stretch begin.later_leads spared;
    }
