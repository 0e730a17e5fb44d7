use Rattle.std.proofs.Common.{Bool, List, true, set, ap, ◌∙◌}
use Rattle.missing_objects.proofs.Words.{flag-set, in-flags, in-words}
use Rattle.missing_objects.proofs.flags.Flags.set.Goals as goal

pub returns : goal.returns
returns c =
    flag-set c.self.inside.words.items c.self.inside.len c.args.place c.index_mut.result.now
    (in-flags c.self.inside.words.items c.self.inside.len c.args.place c.args.self.now c.self.view_is c.requires)
    (in-words c.self.inside.words.items c.self.inside.len c.args.place c.args.self.now c.self.view_is c.requires c.self.invariant)
    c.index_mut.ensures.value
    ∙ ap (λ (flags : List Bool). set flags c.args.place true) c.self.view_is
