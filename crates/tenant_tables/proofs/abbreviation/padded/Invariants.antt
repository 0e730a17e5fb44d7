use Rattle.std.proofs.Common.{◌≡◌, ◌++◌, ◌-◌, take, replicate}
use Rattle.tenant_tables.proofs.abbreviation.padded.Given as goal

abbrev pub invariant-loop-position : goal.invariant-loop-position
invariant-loop-position l = l.text ≡ take l.position l.digits ++ replicate (40 - l.position) l.digit
