use Rattle.std.proofs.Common.{sym, ap, ◌∙◌, refl, subst}
use Rattle.content_pool.specs.Pool.{Cells, HoldsEachOnce}
use Rattle.content_pool.specs.Index.{prefix_of}
use Rattle.content_pool.proofs.PoolLemmas.{Writes-after, IsPool-once, IsPool-stored, IsIndexed-stored, Puts-stored}
use Rattle.content_pool.proofs.pool.Pool.store.Goals as goal

pub returns-in_err-reserve-clause-once : goal.returns-in_err-reserve-clause-once
returns-in_err-reserve-clause-once g c =
    subst (λ (p : Cells). HoldsEachOnce p) (sym (ap (λ s. s.slots) c.reserve.ensures.rest_kept))
    (IsPool-once _ _ c.self.invariant.0)

pub returns-in_err-note-clause-once : goal.returns-in_err-note-clause-once
returns-in_err-note-clause-once g c =
    subst (λ (p : Cells). HoldsEachOnce p) (sym (ap (λ s. s.slots) c.reserve.ensures.rest_kept))
    (IsPool-once _ _ c.self.invariant.0)

pub invariant_of-self-2 : goal.invariant_of-self-2
invariant_of-self-2 g c =
    let at = Writes-after c.self.inside.cells _ _ _ _ _ (ap (λ s. s.slots) c.reserve.ensures.rest_kept) c.vacant_key-key.ensures.vacant
    (c.insert_reserved.ensures.key ∙ sym c.vacant_key-key.ensures.value) c.insert_reserved.ensures.updates in
    let absent = rw (← c.self.view_is) at c.requires.absent in (
      IsPool-stored _ _ _ _ at.0 at.1 _ c.self.invariant.0 (c.of-prefix.ensures ∙ ap prefix_of c.requires.named) refl absent,
      IsIndexed-stored _ _ _ _ at.0 at.1 _ _ c.self.invariant.1 c.in_ok-note.ensures.ok,
    )

pub returns-clause-puts : goal.returns-clause-puts
returns-clause-puts g c =
    let at = Writes-after c.self.inside.cells _ _ _ _ _ (ap (λ s. s.slots) c.reserve.ensures.rest_kept) c.vacant_key-key.ensures.vacant
    (c.insert_reserved.ensures.key ∙ sym c.vacant_key-key.ensures.value) c.insert_reserved.ensures.updates in
    rw (← c.self.view_is) (Puts-stored _ _ _ _ at.0 at.1 refl)

pub returns-clause-once : goal.returns-clause-once
returns-clause-once g c = IsPool-once _ _ (invariant_of-self-2 g c).0
