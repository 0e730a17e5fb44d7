use Rattle.std.proofs.Common.{set, true, refl, arith}
use Rattle.missing_objects.proofs.Opens.{opens-few, want-kept}
use Rattle.missing_objects.proofs.marks.Marks.want.Goals as goal

pub overflow_add-self : goal.overflow_add-self
overflow_add-self c =
    let marks = c.self.inside in
    let kept = want-kept marks.wanted marks.had c.args.self.now c.args.place marks.len marks.open_count c.self.view_is c.self.invariant c.requires
    _ c.is_blank.result c.from.result refl c.is_blank.ensures c.from.ensures in
    let few = opens-few (record { wanted = set marks.wanted c.args.place true; had = marks.had }) marks.len in
    let all = kept.2 in omega arith

pub invariant_of-self : goal.invariant_of-self
invariant_of-self c =
    want-kept c.self.inside.wanted c.self.inside.had c.args.self.now c.args.place c.self.inside.len c.self.inside.open_count c.self.view_is c.self.invariant
    c.requires c.set.new.self c.is_blank.result c.from.result c.set.ensures c.is_blank.ensures c.from.ensures
