use Rattle.std.proofs.Common.{◌≡◌, ℕ, List, ap, sym, ◌∙◌, map}
use Rattle.std.proofs.lemmas.Result.{IfOk-weaker}
use Rattle.content_pool.specs.Pool.{Cells}
use Rattle.pool_file.specs.Worth.{AllStand, named_in, to_save}
use Rattle.pool_file.proofs.Chosen.{chosen_none, chosen_more, chosen_same, saved_so, saved_stand}
use Rattle.pool_file.proofs.tenants.tenants_to_save.Goals as goal
use Rattle.pool_file.proofs.tenants.tenants_to_save.Goals.{then-is_worth_saving+in_ok-insert, else-is_worth_saving}

pub loop-tenant-init : goal.loop-tenant-init
loop-tenant-init c = λ pool. chosen_none pool c.new-by_name.result.keys c.new-by_name.ensures.empty

pub loop-tenant-preserved : goal.loop-tenant-preserved
loop-tenant-preserved c = λ pool. elim c.if-is_worth_saving.branch [
  | then-is_worth_saving+in_ok-insert w ↦
      chosen_more pool c.args.tenants.now c.loop-tenant.tenant-index c.tenant-item.result
      c.loop-tenant-test.true c.tenant-item.is c.loop-tenant.by_name.keys
      c.if-is_worth_saving.by_name.keys
      (sym (c.is_worth_saving.ensures pool) ∙ w.if-is_worth_saving.true)
      (c.loop-tenant.invariant pool)
      (ap (λ set. set.keys) w.by_name-is ∙ w.in_ok-insert.ensures.keys)
  | else-is_worth_saving w ↦
      chosen_same pool c.args.tenants.now c.loop-tenant.tenant-index c.tenant-item.result
      c.loop-tenant-test.true c.tenant-item.is c.loop-tenant.by_name.keys
      c.if-is_worth_saving.by_name.keys
      (sym (c.is_worth_saving.ensures pool) ∙ w.if-is_worth_saving.false)
      (c.loop-tenant.invariant pool) (ap (λ set. set.keys) w.by_name-is)
]

pub returns-clause-saved : goal.returns-clause-saved
returns-clause-saved c = IfOk-weaker c.all_tenants.result
    (λ saved. saved.items ≡ map (λ one. one.tenant) c.loop-tenant.by_name.keys)
    (λ saved. (pool : Cells) → map (named_in pool) saved.items ≡ to_save pool c.args.tenants.now)
    (λ saved is. λ pool. saved_so pool c.args.tenants.now c.loop-tenant.tenant-index
    c.loop-tenant.by_name.keys saved.items c.loop-tenant-test.false is (c.loop-tenant.invariant pool))
    c.all_tenants.ensures

pub returns-clause-stand : goal.returns-clause-stand
returns-clause-stand c = IfOk-weaker c.all_tenants.result
    (λ saved. saved.items ≡ map (λ one. one.tenant) c.loop-tenant.by_name.keys)
    (λ saved. (digest : List ℕ → List ℕ) (pool : Cells)
    → AllStand digest pool c.args.tenants.now → AllStand digest pool saved.items)
    (λ saved is. λ digest pool stand. saved_stand pool c.args.tenants.now c.loop-tenant.tenant-index
    c.loop-tenant.by_name.keys saved.items c.loop-tenant-test.false is (c.loop-tenant.invariant pool)
    digest stand)
    c.all_tenants.ensures
