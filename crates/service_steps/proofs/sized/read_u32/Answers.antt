use Rattle.std.specs.Int.{w32}
use Rattle.std.proofs.lemmas.Nat.{be_bytes_4}
use Rattle.service_steps.proofs.SizedLemmas.{number_read}
use Rattle.service_steps.proofs.sized.read_u32.Goals as goal

pub returns : goal.returns
returns g c =
    number_read w32 _ _ c.fill.new.room c.from_be_bytes.result c.from_be_bytes.type_inv
    (be_bytes_4 c.fill.new.room c.from_be_bytes.result c.fill.ensures.length c.fill.ensures.bytes c.from_be_bytes.ensures) c.in_ok-fill.ensures.fills
