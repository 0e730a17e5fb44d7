use Rattle.std.proofs.Common.{◌≡◌, ℕ, ◌+◌, ◌-◌, take, drop, sym, subst, arith}
use Rattle.std.proofs.lemmas.Slice.Eq.{bytes_eq-Decides}
use Rattle.pool_file_checks.proofs.AlikeEntries.{agree_more}
use Rattle.pool_file_checks.proofs.alike.equal_by.Goals as goal

pub loop-equal-preserved : goal.loop-equal-preserved
loop-equal-preserved c =
    let a = c.args.first.now in let b = c.args.second.now in let n = c.loop-equal.equal in let m = c.args.step in
    let t = c.loop-equal-test.true in let most = c.min-most.ensures in
    let same : take ((n + m) - n) (drop n a) ≡ take ((n + m) - n) (drop n b) = (bytes_eq-Decides _ _).0 (sym c.if-eq.ensures) in
    agree_more n m a b c.loop-equal.invariant (omega (arith, t, most)) (omega (arith, t, most))
    (subst (λ (k : ℕ). take k (drop n a) ≡ take k (drop n b)) (let k : (n + m) - n ≡ m = omega arith in k) same)
