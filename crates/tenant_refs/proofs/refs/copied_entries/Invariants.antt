use Rattle.std.proofs.Common.{◌≡◌, take}
use Rattle.tenant_refs.proofs.refs.copied_entries.Given as goal

abbrev pub invariant-loop-ref_name : goal.invariant-loop-ref_name
invariant-loop-ref_name l = l.copy.items ≡ take l.ref_name-index l.entries
