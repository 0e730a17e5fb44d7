use Rattle.std.proofs.Common.{ap}
use Rattle.revisions.specs.declared.fault.Fault.TheVariants as fault
use Rattle.git_model.specs.Results.{or_fault}
use Rattle.revisions.proofs.TagWays.{without_is}
use Rattle.revisions.proofs.tag_ends.peel_tags_along.Goals as goal

pub returns-in-Some-clause-found : goal.returns-in-Some-clause-found
returns-in-Some-clause-found g c held ends =
    let way = rw c.in-Some.is at c.in_ok-end.ensures.found held ends in
    ap (or_fault fault.WrongKind)
    (without_is g.N.Naming.digest_of c.args.objects.now held c.args.id c.in-Some.end way)
