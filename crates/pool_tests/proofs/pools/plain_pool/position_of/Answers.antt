use Rattle.std.proofs.Common.{◌≡◌, length, sym, ◌∙◌, arith}
use Rattle.std.proofs.lemmas.Bool.{true≢false}
use Rattle.pool_tests.proofs.PoolsInLists.{Stores-not_yet, cell-slots_of, slots_of-within}
use Rattle.pool_tests.proofs.pools.plain_pool.position_of.Goals as goal

pub loop-position-preserved : goal.loop-position-preserved
loop-position-preserved c =
    Stores-not_yet _ _ c.loop-position.position c.index-cells-position.result c.loop-position.invariant
    (cell-slots_of _ _ _ c.loop-position-test.true (sym c.index-cells-position.is))
    (λ same. true≢false (sym (c.is.ensures.1 same) ∙ c.if-is.false))

pub returns : goal.returns
returns c = λ s stores.
    let within = slots_of-within c.args.cells.now s stores.stored stores.there in
    let past : length c.args.cells.now ≡ c.loop-position.position = omega arith in
    c.loop-position.invariant s (omega arith) stores
