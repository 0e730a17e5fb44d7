use Rattle.std.proofs.Common.{length}
use Rattle.git_model.specs.References.{referred_by, place_of}
use Rattle.git_model.proofs.Least.{least}
use Rattle.git_model.proofs.Earlier.{place_within, references_fall}
use Rattle.git_model.proofs.laws.references_reach_the_least_set.Goals as goal

pub returns : goal.returns
returns c digest os good from to =
    least (referred_by os) (λ id. place_of id os) (references_fall digest os good)
    (length os) from to (place_within from os)
