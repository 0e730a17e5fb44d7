use Rattle.std.proofs.Common.{refl}
use Rattle.store_format.proofs.Covered.{tiled_bytes}
use Rattle.store_format.proofs.laws.each_byte_is_that_of_one_row.Goals as goal

pub returns : goal.returns
returns c = λ s bytes files rows objects sound is tiled said. tiled_bytes s 0 files files s.contents bytes rows objects sound.contents is (λ n lt. refl) tiled said
