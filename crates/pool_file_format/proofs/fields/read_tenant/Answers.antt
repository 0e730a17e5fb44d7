use Rattle.pool_file_format.proofs.FieldLemmas.{tenant_is}
use Rattle.pool_file_format.proofs.Readings.{reads_fails, reads_then, reads_value, stops}
use Rattle.pool_file_format.proofs.fields.read_tenant.Goals as goal

pub returns-in_err-name : goal.returns-in_err-name
returns-in_err-name g c = stops _ _ _ c.from_residual.ensures.1 (tenant_is c.args.version (reads_fails _ _ c.in_err-name.ensures))

pub returns-in_err-numbers : goal.returns-in_err-numbers
returns-in_err-numbers g c = stops _ _ _ c.from_residual-in_err-numbers.ensures.1 (tenant_is c.args.version (reads_then _ _ c.in_ok-name.ensures (reads_fails _ _ c.in_err-numbers.ensures)))

pub returns-in_err-refs : goal.returns-in_err-refs
returns-in_err-refs g c = stops _ _ _ c.from_residual-in_err-refs.ensures.1 (tenant_is c.args.version (reads_then _ _ c.in_ok-name.ensures (reads_then _ _ c.in_ok-numbers.ensures (reads_fails _ _ c.in_err-refs.ensures))))

pub returns-in_err-head : goal.returns-in_err-head
returns-in_err-head g c = stops _ _ _ c.from_residual-in_err-head.ensures.1 (tenant_is c.args.version (reads_then _ _ c.in_ok-name.ensures (reads_then _ _ c.in_ok-numbers.ensures (reads_then _ _ c.in_ok-refs.ensures (reads_fails _ _ c.in_err-head.ensures)))))

pub returns : goal.returns
returns g c = tenant_is c.args.version (reads_then _ _ c.in_ok-name.ensures (reads_then _ _ c.in_ok-numbers.ensures (reads_then _ _ c.in_ok-refs.ensures (reads_then _ _ c.in_ok-head.ensures (reads_value _ _)))))
