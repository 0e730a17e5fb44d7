use Rattle.std.proofs.lemmas.Option.{none-some}
use Rattle.git_objects.proofs.commit.take_parents.Goals as goal

pub returns : goal.returns
returns c = record { names = c.loop-parent.invariant.0; lines = c.loop-parent.invariant.1; no_more = λ id more is e. none-some _ (c.in_default.ensures.only id more is e) }
