use Rattle.std.proofs.Common.{◌≡◌, length}
use Rattle.store_format.specs.Shown.{records_of}
use Rattle.store_format.specs.Telling.{told_upon, tells}
use Rattle.store_format.specs.ShownTold.{lent_records_of}
use Rattle.store_format.proofs.Tellings.{stands}
use Rattle.store_format.proofs.telling.path_of.Given as goal

-- The records on the path stand on what the next one tells.
abbrev pub invariant-loop-next : goal.invariant-loop-next
invariant-loop-next l =
    told_upon (stands (records_of l.before) l.next) (lent_records_of l.path.items) ≡ tells (records_of l.records) l.number

abbrev pub decreases-loop-next : goal.decreases-loop-next
decreases-loop-next l = length l.before
