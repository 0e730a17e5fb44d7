use Rattle.session_laws.proofs.SoundLemmas.{new_is_sound}
use Rattle.session_laws.proofs.laws.a_new_stream_is_sound.Goals as goal

pub returns : goal.returns
returns c = new_is_sound
