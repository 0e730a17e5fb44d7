use Rattle.std.proofs.Common.{◌≡◌, drop}
use Rattle.store_format.specs.Naming.{all_named}
use Rattle.store_format.specs.Shown.{numbered_of, rows_of}
use Rattle.store_format.proofs.naming.check_names.Given as goal

-- The rows before the place of the loop have the names of their contents.
abbrev pub invariant-loop-row : goal.invariant-loop-row
invariant-loop-row g l =
    all_named g.N.Naming.digest_of (numbered_of l.files) (rows_of (drop l.row-index l.rows)) ≡ all_named g.N.Naming.digest_of (numbered_of l.files) (rows_of l.rows)
