use Rattle.std.proofs.Common.{◌≡◌, ◌++◌, ◌∷◌, []}
use Rattle.std.proofs.lemmas.Result.{err_from_is_err_and}
use Rattle.std.proofs.lemmas.List.{map_push}
use Rattle.pool_file_format.specs.Lengths.{many_at}
use Rattle.store_format.specs.Lengths.{row_at}
use Rattle.store_format.specs.Shown.{row_of, rows_of}
use Rattle.store_format.proofs.Loop.{goes_on, ends, is_done, starts}
use Rattle.store_format.proofs.row_reading.read_many_rows.Goals as goal

pub loop-init : goal.loop-init
loop-init c = rw c.new-rows.ensures.items (starts row_at c.args.count c.args.bytes.now)

pub returns-in_err-row : goal.returns-in_err-row
returns-in_err-row c =
    let p = err_from_is_err_and c.from_residual.result c.from_residual.ensures.1 in
    rw (p.1, p.2) (ends row_at c.in_err-row.field-0.0 (rows_of c.loop.rows.items) c.args.count c.loop.counter c.loop.rest.now (many_at row_at c.args.count c.args.bytes.now) c.loop-test.true c.in_err-row.ensures c.loop.invariant)

pub loop-preserved : goal.loop-preserved
loop-preserved c =
    let n = c.in_ok-row.row in
    let e : rows_of c.push.new.self.items ≡ rows_of c.loop.rows.items ++ row_of n ∷ [] = rw c.in_ok-push.ensures.items (map_push _ c.loop.rows.items n) in
    rw e (goes_on row_at (rows_of c.loop.rows.items) c.args.count c.loop.counter c.loop.rest.now (row_of n) c.in_ok-row.after.now (many_at row_at c.args.count c.args.bytes.now) c.loop-test.true c.in_ok-row.ensures c.loop.invariant)

pub returns : goal.returns
returns c = is_done row_at (rows_of c.loop.rows.items) c.args.count c.loop.counter c.loop.rest.now (many_at row_at c.args.count c.args.bytes.now) c.loop-test.false c.loop.invariant
