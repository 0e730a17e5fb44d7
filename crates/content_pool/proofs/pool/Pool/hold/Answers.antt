use Rattle.std.proofs.Common.{◌+◌, ◌-◌, ◌^◌, ◌<◌, Some, sym, refl, subst, IsSome, arith}
use Rattle.content_pool.specs.Pool.{IsLive, holds}
use Rattle.content_pool.proofs.PoolLemmas.{stored_at, holds-at, Writes-set, IsPool-recounted, IsIndexed-recounted, Puts-recounted}
use Rattle.content_pool.proofs.pool.Pool.hold.Goals as goal

pub index_mut-requires : goal.index_mut-requires
index_mut-requires g c =
    let live : IsLive c.self.inside.cells.slots c.slot.inside.key =
    rw (c.self.view_is, c.slot.view_is) c.requires.live in
    let e = stored_at c.self.inside.cells.slots c.slot.inside.key live in
    subst (λ o. IsSome o) (sym e.1) refl

pub overflow_add-index_mut : goal.overflow_add-index_mut
overflow_add-index_mut g c =
    let count = holds-at c.self.inside.cells.slots c.slot.inside.key _ c.index_mut.ensures.value in
    let room : holds c.self.inside.cells.slots c.slot.inside.key < 2 ^ 64 - 1 =
    rw (c.self.view_is, c.slot.view_is) c.requires.room in
    omega (arith, count, room)

pub invariant_of-self : goal.invariant_of-self
invariant_of-self g c =
    let w = Writes-set c.self.inside.cells.slots c.slot.inside.key _ (Some (record c.index_mut.result.now { holds = c.index_mut.result.now.holds + 1 })) c.index_mut.ensures.value in (
      IsPool-recounted _ _ _ _ _ c.index_mut.ensures.value w _ c.self.invariant.0 (omega arith),
      IsIndexed-recounted _ _ _ _ _ c.index_mut.ensures.value w _ c.self.invariant.1,
    )

pub returns : goal.returns
returns g c =
    let w =
    Writes-set c.self.inside.cells.slots c.slot.inside.key _
    (Some (record c.index_mut.result.now { holds = c.index_mut.result.now.holds + 1 })) c.index_mut.ensures.value in
    rw (← c.self.view_is, ← c.slot.view_is) (Puts-recounted _ _ _ _ _ c.index_mut.ensures.value w refl)
