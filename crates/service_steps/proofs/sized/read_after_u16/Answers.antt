use Rattle.std.specs.Int.{w16}
use Rattle.service_steps.proofs.SizedLemmas.{number_stops, numbers_16, sized_more}
use Rattle.service_steps.proofs.sized.read_after_u16.Goals as goal

pub returns-in_err-n : goal.returns-in_err-n
returns-in_err-n g c =
    number_stops w16 numbers_16 c.args.limit _ _ c.from_residual.result c.in_err-n.field-0.0 c.args.room.now.items c.from_residual.ensures.1 c.in_err-n.ensures

pub returns : goal.returns
returns g c = sized_more w16 c.args.limit c.in_ok-n.n _ _ _ c.read_room.result c.read_room.new.room.items c.in_ok-n.ensures.0 c.in_ok-n.ensures.1 c.read_room.ensures
