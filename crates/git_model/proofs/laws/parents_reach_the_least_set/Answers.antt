use Rattle.std.proofs.Common.{length}
use Rattle.git_model.specs.References.{parents_of, place_of}
use Rattle.git_model.proofs.Least.{least}
use Rattle.git_model.proofs.Earlier.{place_within, parents_fall}
use Rattle.git_model.proofs.laws.parents_reach_the_least_set.Goals as goal

pub returns : goal.returns
returns c digest os good from to =
    least (parents_of os) (λ id. place_of id os) (parents_fall digest os good) (length os) from to
    (place_within from os)
