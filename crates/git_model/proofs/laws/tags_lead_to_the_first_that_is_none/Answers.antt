use Rattle.std.proofs.Common.{length}
use Rattle.git_model.specs.declared.kind.Kind.TheVariants as kind
use Rattle.git_model.specs.References.{place_of}
use Rattle.git_model.specs.Peeling.{is_there_untagged, next_to, without_tags}
use Rattle.git_model.proofs.Peelings.{first_is}
use Rattle.git_model.proofs.Earlier.{place_within, next_falls}
use Rattle.git_model.proofs.laws.tags_lead_to_the_first_that_is_none.Goals as goal

pub returns : goal.returns
unfolding without_tags
returns c digest os good id found =
    first_is (is_there_untagged os) (next_to os kind.Blob) (λ k. place_of k os)
    (next_falls digest os good kind.Blob) (length os) id found (place_within id os)
