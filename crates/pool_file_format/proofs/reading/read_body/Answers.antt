use Rattle.pool_file_format.proofs.FieldLemmas.{body_is}
use Rattle.pool_file_format.proofs.Readings.{reads_fails, reads_then, reads_value, stops}
use Rattle.pool_file_format.proofs.reading.read_body.Goals as goal

pub returns-in_err-read_front : goal.returns-in_err-read_front
returns-in_err-read_front g c = stops _ _ _ c.from_residual.ensures.1 (body_is (reads_fails _ _ c.in_err-read_front.ensures))

pub returns-in_err-version : goal.returns-in_err-version
returns-in_err-version g c = stops _ _ _ c.from_residual-in_err-version.ensures.1 (body_is (reads_then _ _ c.in_ok-read_front.ensures (reads_fails _ _ c.in_err-version.ensures)))

pub returns-in_err-objects : goal.returns-in_err-objects
returns-in_err-objects g c = stops _ _ _ c.from_residual-in_err-objects.ensures.1 (body_is (reads_then _ _ c.in_ok-read_front.ensures (reads_then _ _ c.in_ok-version.ensures (reads_fails _ _ c.in_err-objects.ensures))))

pub returns-in_err-tenants : goal.returns-in_err-tenants
returns-in_err-tenants g c = stops _ _ _ c.from_residual-in_err-tenants.ensures.1 (body_is (reads_then _ _ c.in_ok-read_front.ensures (reads_then _ _ c.in_ok-version.ensures (reads_then _ _ c.in_ok-objects.ensures (reads_fails _ _ c.in_err-tenants.ensures)))))

pub returns : goal.returns
returns g c = body_is (reads_then _ _ c.in_ok-read_front.ensures (reads_then _ _ c.in_ok-version.ensures (reads_then _ _ c.in_ok-objects.ensures (reads_then _ _ c.in_ok-tenants.ensures (reads_value _ _)))))
