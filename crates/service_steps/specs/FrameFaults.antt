-- The numbers of the faults of frames.
use Rattle.std.specs.Prelude.{ℕ}
use Rattle.byte_devices.specs.declared.fill_fault.FillFault.{FillFault}
use Rattle.byte_devices.specs.declared.fill_fault.FillFault.TheVariants as short
use Rattle.service_steps.specs.declared.frame_fault.FrameFault.{FrameFault}
use Rattle.service_steps.specs.declared.frame_fault.FrameFault.TheVariants as fault

abbrev pub code_of : FrameFault → ℕ
code_of fault.BadFrame = 50
code_of fault.CutOff = 51
code_of fault.Device = 68
code_of fault.Memory = 90

-- The input ended inside a frame, or a call of the reader failed there.
abbrev pub frame_fault : FillFault → FrameFault
frame_fault short.Ended = fault.CutOff
frame_fault short.Failed = fault.Device
