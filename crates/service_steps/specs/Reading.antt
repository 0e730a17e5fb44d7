-- What a call that reads a frame or a part of it does to the reader, for each answer.
use Rattle.std.specs.Prelude.{◌≡◌, ◌≢◌, ℕ, ◌<◌, ◌≤◌, ◌*◌, ◌^◌, List, [], ◌∷◌, ◌++◌, length, Option, None, Some, Result, Ok, Err}
use Rattle.std.specs.Int.{Width, to_be_bytes, byte_len}
use Rattle.byte_devices.specs.Device.{Device}
pub use Rattle.byte_devices.specs.Reading.{HasReadWell, HasReadAll, HasFailed, AreBytes, IsShort, Fills}
use Rattle.service_steps.specs.declared.frame_fault.FrameFault.{FrameFault}
use Rattle.service_steps.specs.declared.frame_fault.FrameFault.TheVariants as fault
use Rattle.service_steps.specs.declared.step.Step.{Step}
use Rattle.service_steps.specs.Frames.{Frame, sized, frame_of, frame_text, wrong_at, IsGoodBy, IsUnfinishedBy, IsCutOffBy, IsBadBy}

-- No frame was read, for this fault: a bad frame up to the byte that shows it, or an unfinished one.
abbrev pub ReadsNone : (Frame → Option ℕ) → Device → FrameFault → Device → Type 0
ReadsNone wrong old fault.BadFrame new =
    (bytes : List ℕ) × IsBadBy wrong bytes × HasReadWell old new bytes
ReadsNone wrong old fault.CutOff new =
    (bytes : List ℕ) × IsCutOffBy wrong bytes × HasReadAll old new bytes
ReadsNone wrong old fault.Device new =
    (bytes : List ℕ) × IsUnfinishedBy wrong bytes × HasFailed old new bytes
ReadsNone wrong old fault.Memory new =
    (bytes : List ℕ) × IsUnfinishedBy wrong bytes × HasReadWell old new bytes

-- For a value, exactly its frame was read. For `None`, nothing was read and the reader was at its
-- end.
abbrev pub ReadsFrame : {X : Type 0} → (Frame → Option ℕ) → (X → Frame) → Device
    → Result (Option X) FrameFault → Device → Type 0
ReadsFrame wrong frame old (Ok (Some x)) new =
    IsGoodBy wrong (frame x) × HasReadWell old new (frame_text (frame x))
ReadsFrame wrong frame old (Ok None) new = HasReadAll old new []
ReadsFrame wrong frame old (Err e) new = ReadsNone wrong old e new

abbrev pub ReadsStep : Device → Result (Option Step) FrameFault → Device → Type 0
ReadsStep old r new = ReadsFrame wrong_at frame_of old r new

-- ---- parts

-- The kind of a frame was read, by its number.
abbrev pub ReadsKindBy : {K : Type 0} → (ℕ → Option K) → Device → Result (Option K) FrameFault
    → Device → Type 0
ReadsKindBy kind_of old (Ok (Some k)) new =
    (byte : ℕ) × (byte < 256) × (kind_of byte ≡ Some k) × HasReadWell old new (byte ∷ [])
ReadsKindBy kind_of old (Ok None) new = HasReadAll old new []
ReadsKindBy kind_of old (Err fault.BadFrame) new =
    (byte : ℕ) × (byte < 256) × (kind_of byte ≡ None) × HasReadWell old new (byte ∷ [])
ReadsKindBy kind_of old (Err fault.Device) new = HasFailed old new []
ReadsKindBy kind_of old (Err fault.CutOff) new = ⊥
ReadsKindBy kind_of old (Err fault.Memory) new = ⊥

-- The numbers of a width are below this one.
abbrev pub bound : Width → ℕ
bound width = 2 ^ (8 * byte_len width)

-- A number was read.
abbrev pub ReadsNumber : Width → Device → Result ℕ FrameFault → Device → Type 0
ReadsNumber width old (Ok n) new = (n < bound width) × HasReadWell old new (to_be_bytes width n)
ReadsNumber width old (Err fault.CutOff) new =
    (bytes : List ℕ) × IsShort (byte_len width) bytes × HasReadAll old new bytes
ReadsNumber width old (Err fault.Device) new =
    (bytes : List ℕ) × IsShort (byte_len width) bytes × HasFailed old new bytes
ReadsNumber width old (Err fault.BadFrame) new = ⊥
ReadsNumber width old (Err fault.Memory) new = ⊥

-- `n` bytes were read, if `n` is within the limit.
abbrev pub ReadsRoom : ℕ → ℕ → Device → Result Unit FrameFault → Device → List ℕ → Type 0
ReadsRoom n limit old (Ok u) new room = (length room ≡ n) × (n ≤ limit) × HasReadWell old new room
ReadsRoom n limit old (Err fault.BadFrame) new room = (limit < n) × HasReadWell old new []
ReadsRoom n limit old (Err fault.CutOff) new room =
    (n ≤ limit) × (bytes : List ℕ) × IsShort n bytes × HasReadAll old new bytes
ReadsRoom n limit old (Err fault.Device) new room =
    (n ≤ limit) × (bytes : List ℕ) × IsShort n bytes × HasFailed old new bytes
ReadsRoom n limit old (Err fault.Memory) new room = (n ≤ limit) × (0 < n) × HasReadWell old new []

-- The beginning of a length and as many bytes, of which something is missing. If the length is
-- complete, it is within the limit.
pub record IsUnfinishedPart (width : Width) (limit : ℕ) (bytes : List ℕ) : Type 0 where
  pub room : List ℕ
  pub missing : List ℕ
  pub parts : sized width room ≡ bytes ++ missing
  pub lacks : missing ≢ []
  pub fits : length room < bound width
  pub limited : byte_len width ≤ length bytes → length room ≤ limit

-- A length and as many bytes were read, if the length is within the limit.
abbrev pub ReadsSized : Width → ℕ → Device → Result Unit FrameFault → Device → List ℕ → Type 0
ReadsSized width limit old (Ok u) new room =
    (length room ≤ limit) × (length room < bound width) × HasReadWell old new (sized width room)
ReadsSized width limit old (Err fault.BadFrame) new room =
    (n : ℕ) × (limit < n) × (n < bound width) × HasReadWell old new (to_be_bytes width n)
ReadsSized width limit old (Err fault.CutOff) new room =
    (bytes : List ℕ) × IsUnfinishedPart width limit bytes × HasReadAll old new bytes
ReadsSized width limit old (Err fault.Device) new room =
    (bytes : List ℕ) × IsUnfinishedPart width limit bytes × HasFailed old new bytes
ReadsSized width limit old (Err fault.Memory) new room =
    (bytes : List ℕ) × IsUnfinishedPart width limit bytes × HasReadWell old new bytes
