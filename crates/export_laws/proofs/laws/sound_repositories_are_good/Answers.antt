use Rattle.export_laws.proofs.SameRepositories.{good-sound, sound-good}
use Rattle.export_laws.proofs.laws.sound_repositories_are_good.Goals as goal

pub returns : goal.returns
returns c digest repository = (sound-good digest repository, good-sound digest repository)
