use Rattle.std.proofs.Common.{ℕ, ◌+◌, List, [], ◌∷◌, ◌++◌, drop, get_or, subst, arith}
use Rattle.std.proofs.lemmas.List.{drop_all}
use Rattle.pool_file_format.proofs.WholeLemmas.{drop_next}
use Rattle.pool_file_checks.proofs.HeldLemmas.{Marks, marks_on, marks_end}
use Rattle.pool_file_checks.proofs.held.mark_all.Goals as goal

pub loop-number-preserved : goal.loop-number-preserved
loop-number-preserved c = λ count numbers m.
    marks_on c.loop-number.flags c.mark.new.flags count (get_or c.args.more.now c.loop-number.number-index 0 ∷ [])
    (drop (c.loop-number.number-index + 1) c.args.more.now) (numbers ++ c.args.more.now)
    (subst (λ (l : List ℕ). Marks c.loop-number.flags count l (numbers ++ c.args.more.now))
    (drop_next c.args.more.now c.loop-number.number-index (let t = c.loop-number-test.true in omega (arith, t)))
    (c.loop-number.invariant count numbers m))
    (c.mark.ensures count)

pub returns : goal.returns
returns c = λ count numbers m.
    marks_end c.loop-number.flags count (numbers ++ c.args.more.now)
    (subst (λ (l : List ℕ). Marks c.loop-number.flags count l (numbers ++ c.args.more.now))
    (drop_all c.loop-number.number-index c.args.more.now (let t = c.loop-number-test.false in omega (arith, t)))
    (c.loop-number.invariant count numbers m))
