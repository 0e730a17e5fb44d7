use Rattle.std.proofs.Common.{length, ap, refl}
use Rattle.content_pool.specs.Index.{prefix_of}
use Rattle.content_pool.proofs.PoolLemmas.{IsPool-once, IsPool-stored, Puts-stored}
use Rattle.pool_tests.proofs.PoolsInLists.{Writes-slots_push, slots_of-vacant}
use Rattle.pool_tests.proofs.pools.plain_pool.PlainPool.store.Goals as goal

pub returns-in_err-push-clause-once : goal.returns-in_err-push-clause-once
returns-in_err-push-clause-once g c =
    rw c.in_err-push.ensures.items (IsPool-once _ _ c.self.invariant)

pub invariant_of-self-2 : goal.invariant_of-self-2
invariant_of-self-2 g c =
    let items = rw c.new.ensures at c.in_ok-push.ensures.items in
    let w = Writes-slots_push c.self.inside.cells.items (record { prefix = prefix_of c.args.id; kind = c.args.kind; bytes = c.args.bytes.items; holds = 1 }) in
    let was = slots_of-vacant c.self.inside.cells.items in
    rw items (IsPool-stored _ _ _ _ was w _ c.self.invariant (ap prefix_of c.requires.named) refl (rw (← c.self.view_is) at c.requires.absent))

pub returns-clause-puts : goal.returns-clause-puts
returns-clause-puts g c =
    let items = rw c.new.ensures at c.in_ok-push.ensures.items in
    let key = ap length c.as_slice-position.ensures.value in
    let w = Writes-slots_push c.self.inside.cells.items (record { prefix = prefix_of c.args.id; kind = c.args.kind; bytes = c.args.bytes.items; holds = 1 }) in
    let was = slots_of-vacant c.self.inside.cells.items in
    rw (items, ← c.self.view_is, key) (Puts-stored _ _ _ _ was w refl)

pub returns-clause-once : goal.returns-clause-once
returns-clause-once g c =
    let items = rw c.new.ensures at c.in_ok-push.ensures.items in
    let w = Writes-slots_push c.self.inside.cells.items (record { prefix = prefix_of c.args.id; kind = c.args.kind; bytes = c.args.bytes.items; holds = 1 }) in
    let was = slots_of-vacant c.self.inside.cells.items in
    rw items (IsPool-once _ _ (IsPool-stored _ _ _ _ was w _ c.self.invariant (ap prefix_of c.requires.named) refl (rw (← c.self.view_is) at c.requires.absent)))
