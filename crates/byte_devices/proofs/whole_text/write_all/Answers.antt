use Rattle.std.proofs.Common.{rules, ◌∙◌}
use Rattle.byte_devices.specs.Device.{faults_of}
use Rattle.byte_devices.proofs.WrittenSoFar.{more_written, taken_is_well}
use Rattle.byte_devices.proofs.whole_text.write_all.Goals as goal

pub loop-left-preserved : goal.loop-left-preserved
loop-left-preserved g c = (
  rw c.split_at.ensures.back
      (more_written _ _ _ _ _ _ c.loop-left.invariant.0 c.in-Ok.ensures.bytes),
  c.write.ensures.faults
      ∙ taken_is_well
      (faults_of c.loop-left.writer) c.loop-left.left.now c.write.result c.in-Ok.taken c.in-Ok.is c.in-Ok.taken-test.1
      ∙ c.loop-left.invariant.1,
)

pub loop-left-init : goal.loop-left-init
loop-left-init g c = search rules
