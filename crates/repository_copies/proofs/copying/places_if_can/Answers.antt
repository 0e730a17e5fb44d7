use Rattle.std.proofs.Common.{sym, ◌∙◌}
use Rattle.std.proofs.lemmas.Bool.{false≢true}
use Rattle.repository_copies.proofs.copying.places_if_can.Goals as goal

pub returns-in_ok-places-clause-places : goal.returns-in_ok-places-clause-places
returns-in_ok-places-clause-places g c good flags =
    c.in_ok-places.ensures c.args.refs.now good flags ((c.in_ok-can_be_copied.ensures good flags).0 c.if-branch.true)

pub returns-else-branch-clause-none : goal.returns-else-branch-clause-none
returns-else-branch-clause-none g c good flags none can =
    false≢true (sym c.if-branch.false ∙ (c.in_ok-can_be_copied.ensures good flags).1 can)
