use Rattle.std.proofs.Common.{ℕ, List, sym, subst}
use Rattle.git_objects.specs.Parts.{entries_of}
use Rattle.tenant_tables.specs.Trees.{FitsTree}
use Rattle.file_maps.proofs.storing.add_entries.Goals as goal

pub add_contents-requires-clause-fits : goal.add_contents-requires-clause-fits
add_contents-requires-clause-fits g c =
    subst (λ (b : List ℕ). FitsTree c.args.table.now.entries b c.args.summary) (sym c.in_ok-contents.ensures) c.requires.fits

pub returns-clause-stores : goal.returns-clause-stores
returns-clause-stores g c = c.add_contents.ensures.stores (entries_of c.args.entries.now) c.in_ok-contents.ensures

pub returns-clause-known : goal.returns-clause-known
returns-clause-known g c = c.add_contents.ensures.known (entries_of c.args.entries.now) c.in_ok-contents.ensures
