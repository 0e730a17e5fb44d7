use Rattle.std.proofs.Common.{sym, ap, ◌∙◌}
use Rattle.std.specs.FinMap as finite
use Rattle.std.specs.FinMap.{entries-from_sorted}
use Rattle.tenant_refs.proofs.Entries.{true-T}
use Rattle.store_format.proofs.TargetMaps.{bytes_cmp, listed}
use Rattle.store_format.proofs.targets.Targets.list.Goals as goal

pub returns : goal.returns
returns c =
    c.in_ok-list.ensures ∙ sym (entries-from_sorted bytes_cmp (listed c.self.inside.places.entries) (true-T _ c.self.invariant)) ∙ ap finite.entries c.self.view_is
