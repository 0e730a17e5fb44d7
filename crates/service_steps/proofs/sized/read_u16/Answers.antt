use Rattle.std.specs.Int.{w16}
use Rattle.std.proofs.lemmas.Nat.{be_bytes_2}
use Rattle.service_steps.proofs.SizedLemmas.{number_read}
use Rattle.service_steps.proofs.sized.read_u16.Goals as goal

pub returns : goal.returns
returns g c =
    number_read w16 _ _ c.fill.new.room c.from_be_bytes.result c.from_be_bytes.type_inv
    (be_bytes_2 c.fill.new.room c.from_be_bytes.result c.fill.ensures.length c.fill.ensures.bytes c.from_be_bytes.ensures) c.in_ok-fill.ensures.fills
