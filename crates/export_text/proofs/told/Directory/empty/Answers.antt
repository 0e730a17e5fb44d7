use Rattle.std.proofs.Common.{sym, arith}
use Rattle.export_text.proofs.Again.{no-lines}
use Rattle.export_text.proofs.told.Directory.empty.Goals as goal

pub returns : goal.returns
returns c = λ os out. record {
  forward = omega arith;
  within = omega arith;
  lines = sym (no-lines os c.new.result.items c.from_bytes.result);
}
