use Rattle.std.proofs.Common.{◌≡◌, length, Ok}
use Rattle.store_format.specs.Shown.{records_of}
use Rattle.store_format.specs.Telling.{told_upon, tells}
use Rattle.store_format.specs.ShownTold.{told_of, lent_records_of}
use Rattle.store_format.proofs.telling.tell.Given as goal

-- The records left on the path are told after those that were taken.
abbrev pub invariant-loop-tenant : goal.invariant-loop-tenant
invariant-loop-tenant l =
    told_upon (Ok (told_of l.told)) (lent_records_of l.path.items) ≡ tells (records_of l.records) l.number

abbrev pub decreases-loop-tenant : goal.decreases-loop-tenant
decreases-loop-tenant l = length l.path.items
