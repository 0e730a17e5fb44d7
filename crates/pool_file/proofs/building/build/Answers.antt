use Rattle.std.proofs.Common.{◌∙◌}
use Rattle.pool_file.proofs.building.build.Goals as goal

pub fill-requires-clause-named : goal.fill-requires-clause-named
fill-requires-clause-named g c = c.deref.ensures.value ∙ c.requires.named
