use Rattle.pool_file_format.specs.Lengths.{expected_at}
use Rattle.pool_file_format.proofs.Readings.{fault_goes_on, reads_fails}
use Rattle.pool_file_format.proofs.WholeLemmas.{expected_reads, expected_other}
use Rattle.pool_file_format.proofs.reading.read_expected.Goals as goal

pub returns-in_err-byte : goal.returns-in_err-byte
unfolding expected_at
returns-in_err-byte g c = fault_goes_on _ _ c.from_residual.ensures.1 (reads_fails _ _ c.in_err-byte.ensures)

pub returns-then-byte-expected : goal.returns-then-byte-expected
returns-then-byte-expected g c = expected_other c.args.expected c.in_ok-byte.byte _ _ c.if-byte-expected.true c.in_ok-byte.ensures

pub returns : goal.returns
returns g c = expected_reads c.args.expected c.in_ok-byte.byte _ _ c.if-byte-expected.false c.in_ok-byte.ensures
