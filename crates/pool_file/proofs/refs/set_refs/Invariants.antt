use Rattle.std.proofs.Common.{◌≡◌, map, drop}
use Rattle.tenant_tables.specs.View.{names}
use Rattle.pool_file_format.specs.Shown.{refs_of}
use Rattle.pool_file.specs.Refs.{entry_in, with_refs}
use Rattle.pool_file.proofs.refs.set_refs.Given as goal

-- With those that are left it is the store with all.
abbrev pub invariant-loop-one : goal.invariant-loop-one
invariant-loop-one l =
    with_refs l.refs (map (entry_in l.front (names l.table.entries)) (refs_of (drop l.one-index l.all)))
    ≡ with_refs l.fn.refs (map (entry_in l.front (names l.table.entries)) (refs_of l.all))
