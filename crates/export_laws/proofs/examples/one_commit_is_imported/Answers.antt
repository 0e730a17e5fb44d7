use Rattle.export_laws.specs.OneCommit.{one_commit}
use Rattle.export_laws.proofs.EndImported.{export-imported}
use Rattle.export_laws.proofs.OneCommit.{can-be-copied, is-sound, tails-apart}
use Rattle.export_laws.proofs.examples.one_commit_is_imported.Goals as goal
use Rattle.git_names.specs.Digests.{tail_answers_names}

pub returns : goal.returns
returns c = record {
  sound = is-sound;
  fits = can-be-copied;
  imported = λ digest names apart. let can = can-be-copied digest names apart in
      export-imported digest names (one_commit digest) (is-sound digest names apart)
      can.fits can.few_tags can.few_refs;
  named = tail_answers_names;
  apart = tails-apart;
}
