use Rattle.std.proofs.Common.{sym, subst}
use Rattle.revisions.specs.TagEnds.{AreTagEnds}
use Rattle.revisions.proofs.TagWays.{ends_with}
use Rattle.revisions.proofs.tag_ends.TagCache.put.Goals as goal
use Rattle.revisions.proofs.tag_ends.TagCache.put.Goals.{in-Ok, in-Err}

pub returns : goal.returns
returns c os way ends =
    let was = subst (AreTagEnds os) (sym c.self.view_is) ends in
    elim c.match-insert.branch [
      | in-Ok w ↦ ends_with os c.args.tag c.args.end c.self.inside.ends.entries c.insert.new.self.entries
          (rw w.in-Ok.is at c.insert.ensures.updates).0 way was
      | in-Err w ↦ subst (AreTagEnds os) (sym (rw w.in-Err.is at c.insert.ensures.err)) was
    ]
