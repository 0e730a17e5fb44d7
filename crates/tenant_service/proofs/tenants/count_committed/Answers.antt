use Rattle.std.proofs.Common.{sym, ◌∙◌, arith}
use Rattle.tenant_service.specs.Tenants.{has_committed}
use Rattle.tenant_service.proofs.StoredLemmas.{count-next}
use Rattle.tenant_service.proofs.tenants.count_committed.Goals as goal
use Rattle.tenant_service.proofs.tenants.count_committed.Goals.{then-has_committed, else-has_committed}

pub loop-place-preserved : goal.loop-place-preserved
loop-place-preserved c =
    let n = count-next (λ e. has_committed e.1.table) c.args.tenants.now.entries c.loop-place.place _ (sym (rw c.unwrap.ensures at c.get_index.ensures.entry)) in
    let k = c.loop-place.invariant.counted in
    let b = c.loop-place.invariant.bound in
    elim c.if-has_committed.branch [
      | then-has_committed w ↦
          let m = rw (sym c.has_committed.ensures ∙ w.if-has_committed.true) at n in
          let i = w.count-is in
          record { counted = omega (arith, m, k, i); bound = omega (arith, b, i) }
      | else-has_committed w ↦
          let m = rw (sym c.has_committed.ensures ∙ w.if-has_committed.false) at n in
          let i = w.count-is in
          record { counted = omega (arith, m, k, i); bound = omega (arith, b, i) }
    ]
