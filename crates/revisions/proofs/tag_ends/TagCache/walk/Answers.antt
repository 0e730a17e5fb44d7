use Rattle.std.proofs.Common.{sym, ◌∙◌, arith}
use Rattle.git_model.specs.Peeling.{at_once, later}
use Rattle.revisions.proofs.tag_ends.TagCache.walk.Goals as goal

pub way-smaller : goal.way-smaller
way-smaller g c =
    let more = c.if-passed-len.false in let many = c.len.ensures in omega (arith, more, many)

pub way-preserved : goal.way-preserved
way-preserved g c end held way =
    c.way.invariant end held (later c.way.at c.in-Some-2.next end
    (sym c.is_there_untagged.ensures ∙ c.way-test.true)
    (sym (c.in_ok-next.ensures held) ∙ c.in-Some-2.is) way)

pub returns : goal.returns
returns g c held ends =
    c.way.invariant c.way.at held
    (at_once c.way.at (sym c.is_there_untagged.ensures ∙ c.way-test.false))
