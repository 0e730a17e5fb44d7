use Rattle.std.proofs.Common.{◌+◌, ◌-◌, ◌<◌, ◌^◌, sym, refl, arith}
use Rattle.content_pool.specs.Pool.{IsLive, CanHold}
use Rattle.content_pool.proofs.PoolLemmas.{stored_at, holds-at, IsPool-recounted, Puts-recounted}
use Rattle.pool_tests.proofs.PoolsInLists.{slots_of, slots_of-within, Writes-slots_set, cell-slots_of}
use Rattle.pool_tests.proofs.pools.plain_pool.PlainPool.hold.Goals as goal

pub hold-requires : goal.hold-requires
hold-requires g c =
    let items = c.self.inside.cells.items in
    let live : IsLive (slots_of items) c.args.position = rw c.self.view_is c.requires.live in
    let room : CanHold (slots_of items) c.args.position = rw c.self.view_is c.requires.room in
    let e = stored_at (slots_of items) c.args.position live in
    let was = cell-slots_of items c.args.position c.index_mut.result.now (slots_of-within _ _ _ e.1) (sym c.index_mut.ensures.value) in
    let same = holds-at (slots_of items) c.args.position c.index_mut.result.now was in
    omega (arith, room, same)

pub invariant_of-self : goal.invariant_of-self
invariant_of-self g c =
    let items = c.self.inside.cells.items in
    let live : IsLive (slots_of items) c.args.position = rw c.self.view_is c.requires.live in
    let e = stored_at (slots_of items) c.args.position live in
    let was = cell-slots_of items c.args.position c.index_mut.result.now (slots_of-within _ _ _ e.1) (sym c.index_mut.ensures.value) in
    let w = Writes-slots_set items c.args.position _ (record c.index_mut.result.now { holds = c.index_mut.result.now.holds + 1 }) was in
    rw c.hold.ensures (IsPool-recounted _ _ _ _ _ was w _ c.self.invariant (omega arith))

pub returns : goal.returns
returns g c =
    let items = c.self.inside.cells.items in
    let live : IsLive (slots_of items) c.args.position = rw c.self.view_is c.requires.live in
    let e = stored_at (slots_of items) c.args.position live in
    let was = cell-slots_of items c.args.position c.index_mut.result.now (slots_of-within _ _ _ e.1) (sym c.index_mut.ensures.value) in
    let w = Writes-slots_set items c.args.position _ (record c.index_mut.result.now { holds = c.index_mut.result.now.holds + 1 }) was in
    rw (← c.self.view_is, c.hold.ensures) (Puts-recounted _ _ _ _ _ was w refl)
