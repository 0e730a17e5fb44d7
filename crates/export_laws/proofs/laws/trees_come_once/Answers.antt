use Rattle.export_laws.proofs.OrderLaws.{object-added, tree-added, unrolled}
use Rattle.export_laws.proofs.laws.trees_come_once.Goals as goal

pub returns : goal.returns
returns c = record { order = unrolled; added = tree-added; whole = object-added }
