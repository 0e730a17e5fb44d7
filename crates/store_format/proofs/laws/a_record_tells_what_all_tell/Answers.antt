use Rattle.store_format.proofs.AllTold.{tells-so}
use Rattle.store_format.proofs.laws.a_record_tells_what_all_tell.Goals as goal

pub returns : goal.returns
returns c = tells-so
