use Rattle.std.proofs.Common.{sym}
use Rattle.repository_copies.proofs.copying.places_of.Goals as goal

pub returns : goal.returns
returns g c refs good flags can =
    let all = c.in_ok-add_reached.ensures refs good flags
    (c.in_ok-found.ensures.found c.args.objects.now (sym c.len.ensures)) c.in_ok-found.ensures.places in
    record { within = all.places.within; once = all.places.once; objects = all.objects; can = can }
