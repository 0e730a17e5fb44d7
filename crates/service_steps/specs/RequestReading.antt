-- What a call that reads the frame of a request does to the reader, for each answer.
use Rattle.std.specs.Prelude.{[], Option, None, Some, Result, Ok, Err}
use Rattle.byte_devices.specs.Device.{Device}
use Rattle.service_steps.specs.declared.frame_fault.FrameFault.{FrameFault}
use Rattle.service_steps.specs.declared.request.Request.{Request}
use Rattle.service_steps.specs.Reading.{HasReadWell, HasReadAll, ReadsNone}
use Rattle.service_steps.specs.Requests.{request_text, wrong_request_at, IsGoodRequest}

-- For a request, exactly its frame was read. For `None`, nothing was read and the reader was at its
-- end.
abbrev pub ReadsRequest : Device → Result (Option Request) FrameFault → Device → Type 0
ReadsRequest old (Ok (Some r)) new = IsGoodRequest r × HasReadWell old new (request_text r)
ReadsRequest old (Ok None) new = HasReadAll old new []
ReadsRequest old (Err e) new = ReadsNone wrong_request_at old e new
