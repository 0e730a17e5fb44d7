use Rattle.std.proofs.Common.{◌≡◌, None, arith, sym, subst}
use Rattle.stream_parts.specs.Branches.{Branches, tip_of}
use Rattle.stream_parts.proofs.BranchLemmas.{tip_of-none}
use Rattle.stream_parts.proofs.branches.Branches.tip_of.Goals as goal

pub returns-in-Err-BadRefName : goal.returns-in-Err-BadRefName
returns-in-Err-BadRefName c =
    let bad = c.read.ensures.bad.0 (rw c.in-Err-BadRefName.field-0-is at c.in-Err-BadRefName.is) in
    subst (λ (b : Branches). None ≡ tip_of b c.args.name.now) c.self.view_is
    (sym (tip_of-none _ c.args.name.now (λ named. bad named.0) c.self.invariant))

pub returns-in-Err-Limit : goal.returns-in-Err-Limit
returns-in-Err-Limit c =
    let long = c.read.ensures.long.0 (rw c.in-Err-Limit.field-0-is at c.in-Err-Limit.is) in
    subst (λ (b : Branches). None ≡ tip_of b c.args.name.now) c.self.view_is
    (sym (tip_of-none _ c.args.name.now (λ named. omega (arith, named.1, long.1))
    c.self.invariant))
