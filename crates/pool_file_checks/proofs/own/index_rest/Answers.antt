use Rattle.std.proofs.Common.{◌+◌, ℕ, arith, subst, sym}
use Rattle.std.proofs.lemmas.Result.{err_from_is_err_and}
use Rattle.pool_file_checks.proofs.OwnLemmas.{Built, built_on, built_fails, built_done}
use Rattle.pool_file_checks.proofs.own.index_rest.Goals as goal

pub returns-in_err-add_object : goal.returns-in_err-add_object
returns-in_err-add_object c =
    let p = err_from_is_err_and c.from_residual.result c.from_residual.ensures.1 in
    let i = c.loop-place.place in let lt = c.loop-place-test.true in
    λ first range. rw (p.1, p.2) (built_fails c.args.names.now c.args.numbers.now i c.loop-place.index.entries _ c.in_err-add_object.field-0.0 lt
    (c.loop-place.invariant first range) (c.in_err-add_object.ensures (range i 0 lt)))

pub loop-place-init : goal.loop-place-init
loop-place-init c = λ first range. subst (λ (n : ℕ). Built c.args.names.now c.args.numbers.now n c.args.index.now.entries) (sym c.len-place.ensures.len) first

pub loop-place-preserved : goal.loop-place-preserved
loop-place-preserved c =
    let i = c.loop-place.place in let lt = c.loop-place-test.true in
    λ first range. built_on c.args.names.now c.args.numbers.now i (i + 1) c.loop-place.index.entries _ (omega arith) lt (c.loop-place.invariant first range)
    (c.in_ok-add_object.ensures (range i 0 lt))

pub returns : goal.returns
returns c = λ first range. built_done c.args.names.now c.args.numbers.now c.loop-place.place c.loop-place.index.entries c.loop-place-test.false (c.loop-place.invariant first range)
