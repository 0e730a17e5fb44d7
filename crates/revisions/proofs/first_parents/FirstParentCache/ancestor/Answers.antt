use Rattle.std.proofs.Common.{sym, subst}
use Rattle.revisions.specs.FirstParents.{IsFirstParentChain}
use Rattle.revisions.proofs.first_parents.FirstParentCache.ancestor.Goals as goal

pub returns-in_err-keep-clause-chain : goal.returns-in_err-keep-clause-chain
returns-in_err-keep-clause-chain g c held is =
    let os = c.args.objects.now in
    c.keep.ensures os (c.found-found.ensures.chain held is)
    (c.walk_to-met.ensures.chain held (subst (IsFirstParentChain os) (sym c.new-way.ensures) tt))

pub returns-clause-chain : goal.returns-clause-chain
returns-clause-chain g c held is =
    let os = c.args.objects.now in
    c.keep.ensures os (c.found-found.ensures.chain held is)
    (c.walk_to-met.ensures.chain held (subst (IsFirstParentChain os) (sym c.new-way.ensures) tt))
