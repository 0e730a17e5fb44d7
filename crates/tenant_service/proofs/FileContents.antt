-- Whose contents are in a pool file.
use Rattle.std.proofs.Common.{ℕ, List, map, sym, subst}
use Rattle.std.specs.Prelude.{Contains, filter}
use Rattle.git_model.specs.Content.{Content}
use Rattle.git_model.specs.Repository.{Object}
use Rattle.pool_file.specs.Worth.{is_worth_saving}
use Rattle.pool_file_checks.specs.Repositories.{Named, listed_contents}
use Rattle.pool_file_checks.proofs.Found.{lists_contents}
use Rattle.pool_file_checks.proofs.Members.{Has, contained, has_contained, from_map, of_flat_map}
use Rattle.tenant_service.specs.HeldObjects.{last_held}
use Rattle.tenant_service.specs.Saved.{SomebodyHas, last_named, saved_of}
use Rattle.tenant_service.specs.TenantState.{TenantState, TenantStates}
use Rattle.tenant_service.proofs.SavableLemmas.{filter-has}
use Rattle.tenant_service.proofs.SavedLemmas.{listed_has}

contents_named : Named → List Content
contents_named n = map (λ (o : Object). o.content) n.repository.objects

pub somebody-has : (all : TenantStates) (c : Content) → Contains (listed_contents (saved_of all)) c
    → SomebodyHas c all
unfolding contents_named
somebody-has all c listed =
    let of = of_flat_map contents_named (saved_of all) c
    ((lists_contents (saved_of all)).back c (has_contained (listed_contents (saved_of all)) c listed)) in
    let worth = listed_has (λ (n : Named). n.tenant) (filter is_worth_saving (last_named all)) of.of of.there in
    let named = (filter-has is_worth_saving (last_named all) of.of worth).0 in
    let e = from_map (λ (e : List ℕ × TenantState). record { tenant = e.0; repository = last_held e.1 }) all of.of named in
    record {
      tenant = e.from.0;
      held = e.from.1;
      there = contained all e.from e.there;
      has = contained (contents_named (record { tenant = e.from.0; repository = last_held e.from.1 })) c
          (subst (λ (n : Named). Has (contents_named n) c) (sym e.is) of.has);
    }
