use Rattle.std.proofs.Common.{sym, ◌∙◌}
use Rattle.pool_file_format.specs.Lengths.{version_at}
use Rattle.pool_file_format.proofs.Readings.{reads_fails, stops}
use Rattle.pool_file_format.proofs.WholeLemmas.{version_reads, version_other}
use Rattle.pool_file_format.proofs.reading.read_version.Goals as goal

pub returns-in_err-version : goal.returns-in_err-version
unfolding version_at
returns-in_err-version g c = stops _ _ _ c.from_residual.ensures.1 (reads_fails _ _ c.in_err-version.ensures)

pub returns-then-not-is_version : goal.returns-then-not-is_version
returns-then-not-is_version g c = version_other c.in_ok-version.version _ _ (sym c.is_version.ensures ∙ c.if-not-is_version.true) c.in_ok-version.ensures

pub returns : goal.returns
returns g c = version_reads c.in_ok-version.version _ _ (sym c.is_version.ensures ∙ c.if-not-is_version.false) c.in_ok-version.ensures
