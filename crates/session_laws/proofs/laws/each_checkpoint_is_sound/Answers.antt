use Rattle.session_laws.proofs.SoundLemmas.{checkpoint_is_sound}
use Rattle.session_laws.proofs.laws.each_checkpoint_is_sound.Goals as goal

pub returns : goal.returns
returns c = checkpoint_is_sound
