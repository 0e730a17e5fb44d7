use Rattle.std.proofs.lemmas.List.Elements.{All-tail}
use Rattle.git_paths.specs.Paths.{IsComponent}
use Rattle.git_paths.proofs.components.ComponentsIterator.next.Goals as goal

pub invariant_of-self : goal.invariant_of-self
invariant_of-self c = All-tail IsComponent _ _ (rw c.first_of.ensures at c.self.invariant)
