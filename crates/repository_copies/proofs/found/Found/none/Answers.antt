use Rattle.repository_copies.proofs.Adding.{none-found}
use Rattle.repository_copies.proofs.found.Found.none.Goals as goal

pub returns-clause-found : goal.returns-clause-found
returns-clause-found c os size =
    none-found os c.args.objects (record { there = c.in_ok-there.there; places = c.new.result }) size c.new.ensures.items
    (c.in_ok-there.ensures.items_if_clones_equal (λ y e. e))
