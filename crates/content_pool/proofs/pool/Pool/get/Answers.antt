use Rattle.std.proofs.Common.{sym, refl, subst, IsSome}
use Rattle.content_pool.specs.Pool.{IsLive}
use Rattle.content_pool.proofs.PoolLemmas.{stored_at, content-at}
use Rattle.content_pool.proofs.pool.Pool.get.Goals as goal

pub index-stored-requires : goal.index-stored-requires
index-stored-requires g c =
    let live : IsLive c.self.inside.cells.slots c.slot.inside.key =
    rw (c.self.view_is, c.slot.view_is) c.requires in
    let e = stored_at c.self.inside.cells.slots c.slot.inside.key live in
    subst (λ o. IsSome o) (sym e.1) refl

pub returns : goal.returns
returns g c =
    rw (c.as_slice.ensures, ← c.self.view_is, ← c.slot.view_is) (sym (content-at c.self.inside.cells.slots c.slot.inside.key _ c.index-stored.ensures))
