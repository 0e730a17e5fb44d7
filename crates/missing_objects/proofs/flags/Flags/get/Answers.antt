use Rattle.std.proofs.Common.{Bool, List, false, get_or, ap, ◌∙◌}
use Rattle.missing_objects.proofs.Words.{flag-read, in-flags, in-words}
use Rattle.missing_objects.proofs.flags.Flags.get.Goals as goal

pub returns : goal.returns
returns c =
    flag-read c.self.inside.words.items c.self.inside.len c.args.place c.index.result.now
    (in-flags c.self.inside.words.items c.self.inside.len c.args.place c.args.self.now c.self.view_is c.requires)
    (in-words c.self.inside.words.items c.self.inside.len c.args.place c.args.self.now c.self.view_is c.requires c.self.invariant)
    c.index.ensures
    ∙ ap (λ (flags : List Bool). get_or flags c.args.place false) c.self.view_is
