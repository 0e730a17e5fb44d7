use Rattle.std.proofs.Common.{◌<◌, length, get_or, arith}
use Rattle.std.proofs.lemmas.Bool.{OnTrue_at}
use Rattle.pool_file.proofs.LoadedTables.{any_default}
use Rattle.pool_file.proofs.Starting.{alike_more, alike_none, slot_of_number}
use Rattle.pool_file.proofs.tables.common_front.Goals as goal

pub loop-place-init : goal.loop-place-init
loop-place-init c = alike_none c.args.table.now.entries c.args.slots.now c.args.numbers.now

pub bounds-slots-number : goal.bounds-slots-number
bounds-slots-number c =
    let l : c.loop-place.place < length c.args.numbers.now =
    let t = c.loop-place-test.true in omega (arith, t) in
    c.requires c.loop-place.place 0 l

pub loop-place-preserved : goal.loop-place-preserved
loop-place-preserved c =
    let k = c.loop-place.place in
    let l : k < length c.args.numbers.now = let t = c.loop-place-test.true in omega (arith, t) in
    let n = get_or c.args.numbers.now k 0 in
    let slot = c.index-slots-number.result in
    let within : n < length c.args.slots.now = c.requires k 0 l in
    alike_more c.args.table.now.entries c.args.slots.now c.args.numbers.now k slot
    c.loop-place.invariant l (OnTrue_at c.if-not-is_at.false c.is_at.ensures)
    (slot_of_number c.args.slots.now c.args.numbers.now k n slot l (any_default c.args.numbers.now k 0 n l) within c.index-slots-number.is)
