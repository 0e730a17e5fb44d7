use Rattle.std.proofs.Common.{◌+◌, drop}
use Rattle.git_objects.specs.Parts.{entry_of, entries_of}
use Rattle.pool_file_checks.proofs.SumLemmas.{first_left, summed_on, entry_fails, both_fails}
use Rattle.pool_file_checks.proofs.sums.tree_sum.Goals as goal

pub returns-in_err-entry_sum : goal.returns-in_err-entry_sum
returns-in_err-entry_sum c =
    let es = c.args.entries.now in let i = c.loop-entry.entry-index in let e = c.entry-item.result in let sums = c.args.sums.now.entries in let sum = c.loop-entry.sum in
    let s = first_left sums sum es i e c.loop-entry-test.true c.entry-item.is c.loop-entry.invariant in
    rw c.from_residual.ensures (entry_fails sums sum (entry_of e) (entries_of (drop (i + 1) es)) (entries_of es) s c.in_err-entry_sum.ensures)

pub returns-in_err-sum : goal.returns-in_err-sum
returns-in_err-sum c =
    let es = c.args.entries.now in let i = c.loop-entry.entry-index in let e = c.entry-item.result in let sums = c.args.sums.now.entries in let sum = c.loop-entry.sum in
    let s = first_left sums sum es i e c.loop-entry-test.true c.entry-item.is c.loop-entry.invariant in
    rw c.from_residual-in_err-sum.ensures (both_fails sums sum (entry_of e) (entries_of (drop (i + 1) es)) (entries_of es) c.in_ok-entry_sum.field-0 s c.in_ok-entry_sum.ensures c.in_err-sum.ensures)

pub loop-entry-preserved : goal.loop-entry-preserved
loop-entry-preserved c =
    let es = c.args.entries.now in let i = c.loop-entry.entry-index in let e = c.entry-item.result in let sums = c.args.sums.now.entries in let sum = c.loop-entry.sum in
    let s = first_left sums sum es i e c.loop-entry-test.true c.entry-item.is c.loop-entry.invariant in
    summed_on sums sum (entry_of e) (entries_of (drop (i + 1) es)) (entries_of es) c.in_ok-entry_sum.field-0 c.in_ok-sum.sum s c.in_ok-entry_sum.ensures c.in_ok-sum.ensures
