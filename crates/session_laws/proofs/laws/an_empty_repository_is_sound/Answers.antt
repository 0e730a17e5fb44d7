use Rattle.session_laws.proofs.SoundLemmas.{empty_is_sound}
use Rattle.session_laws.proofs.laws.an_empty_repository_is_sound.Goals as goal

pub returns : goal.returns
returns c = empty_is_sound
