-- Devices for tests that fail at a chosen call: the device inside, and how many calls succeed
-- before that.
use Rattle.std.specs.Prelude.{ℕ}
use Rattle.byte_devices.specs.declared.failing_reader.FailingReader.{FailingReader}
use Rattle.byte_devices.specs.declared.failing_writer.FailingWriter.{FailingWriter}

abbrev pub reader_of : {R : Type 0} → FailingReader R → R
reader_of failing = failing.reader

abbrev pub reads_left : {R : Type 0} → FailingReader R → ℕ
reads_left failing = failing.reads_left

abbrev pub writer_of : {W : Type 0} → FailingWriter W → W
writer_of failing = failing.writer

abbrev pub writes_left : {W : Type 0} → FailingWriter W → ℕ
writes_left failing = failing.writes_left
