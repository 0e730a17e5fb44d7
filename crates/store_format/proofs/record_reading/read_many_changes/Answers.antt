use Rattle.std.proofs.Common.{◌≡◌, ◌++◌, ◌∷◌, []}
use Rattle.std.proofs.lemmas.Result.{err_from_is_err_and}
use Rattle.std.proofs.lemmas.List.{map_push}
use Rattle.pool_file_format.specs.Lengths.{many_at}
use Rattle.store_format.specs.Lengths.{change_at}
use Rattle.store_format.specs.Shown.{change_of, changes_of}
use Rattle.store_format.proofs.Loop.{goes_on, ends, is_done, starts}
use Rattle.store_format.proofs.record_reading.read_many_changes.Goals as goal

pub loop-init : goal.loop-init
loop-init c = rw c.new-changes.ensures.items (starts change_at c.args.count c.args.bytes.now)

pub returns-in_err-change : goal.returns-in_err-change
returns-in_err-change c =
    let p = err_from_is_err_and c.from_residual.result c.from_residual.ensures.1 in
    rw (p.1, p.2) (ends change_at c.in_err-change.field-0.0 (changes_of c.loop.changes.items) c.args.count c.loop.counter c.loop.rest.now (many_at change_at c.args.count c.args.bytes.now) c.loop-test.true c.in_err-change.ensures c.loop.invariant)

pub loop-preserved : goal.loop-preserved
loop-preserved c =
    let n = c.in_ok-change.change in
    let e : changes_of c.push.new.self.items ≡ changes_of c.loop.changes.items ++ change_of n ∷ [] = rw c.in_ok-push.ensures.items (map_push _ c.loop.changes.items n) in
    rw e (goes_on change_at (changes_of c.loop.changes.items) c.args.count c.loop.counter c.loop.rest.now (change_of n) c.in_ok-change.after.now (many_at change_at c.args.count c.args.bytes.now) c.loop-test.true c.in_ok-change.ensures c.loop.invariant)

pub returns : goal.returns
returns c = is_done change_at (changes_of c.loop.changes.items) c.args.count c.loop.counter c.loop.rest.now (many_at change_at c.args.count c.args.bytes.now) c.loop-test.false c.loop.invariant
