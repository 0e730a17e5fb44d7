use Rattle.answers.proofs.ShortestPrefixes.{shortest_is}
use Rattle.answers.proofs.laws.the_shortest_prefix_is_unique.Goals as goal

pub returns : goal.returns
returns c = shortest_is
