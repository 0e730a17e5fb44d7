use Rattle.std.proofs.Common.{refl, arith}
use Rattle.missing_objects.proofs.Opens.{have-kept}
use Rattle.missing_objects.proofs.marks.Marks.have.Goals as goal

pub overflow_sub-self : goal.overflow_sub-self
overflow_sub-self c =
    let marks = c.self.inside in
    let kept = have-kept marks.wanted marks.had c.args.self.now c.args.place marks.len marks.open_count c.self.view_is c.self.invariant c.requires
    _ c.is_open.result c.from.result refl c.is_open.ensures c.from.ensures in
    let all = kept.2 in omega arith

pub invariant_of-self : goal.invariant_of-self
invariant_of-self c =
    let kept = have-kept c.self.inside.wanted c.self.inside.had c.args.self.now c.args.place c.self.inside.len c.self.inside.open_count c.self.view_is
    c.self.invariant c.requires c.set.new.self c.is_open.result c.from.result c.set.ensures c.is_open.ensures c.from.ensures in
    (kept.0, kept.1, (let all = kept.2 in omega arith))
