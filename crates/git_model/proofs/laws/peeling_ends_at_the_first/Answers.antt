use Rattle.std.proofs.Common.{length}
use Rattle.git_model.specs.References.{place_of}
use Rattle.git_model.specs.Peeling.{is_of, next_to, peeled_to}
use Rattle.git_model.proofs.Peelings.{first_is}
use Rattle.git_model.proofs.Earlier.{place_within, next_falls}
use Rattle.git_model.proofs.laws.peeling_ends_at_the_first.Goals as goal

pub returns : goal.returns
unfolding peeled_to
returns c digest os good wanted id found =
    first_is (is_of os wanted) (next_to os wanted) (λ k. place_of k os)
    (next_falls digest os good wanted) (length os) id found (place_within id os)
