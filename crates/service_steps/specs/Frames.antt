-- Frames: the steps of a service and its answers, as bytes. All numbers are big-endian.
use Rattle.std.specs.Prelude.{◌≡◌, ◌≢◌, ℕ, ◌+◌, ◌<◌, ◌^◌, ◌==◌, nat_lt, if◌then◌else◌, List, [], ◌∷◌, ◌++◌, length, Option, None, Some, IfSome}
use Rattle.std.specs.List.{find}
use Rattle.std.specs.Int.{Width, w16, w32, w64, to_be_bytes}
use Rattle.service_steps.specs.declared.kind.Kind.{Kind}
use Rattle.service_steps.specs.declared.kind.Kind.TheVariants as kind
use Rattle.service_steps.specs.declared.answer.Answer.{Answer}
use Rattle.service_steps.specs.declared.answer.Answer.TheVariants as answer
use Rattle.service_steps.specs.declared.step.Step.{Step}
use Rattle.service_steps.specs.declared.step.Step.TheVariants as step

-- ---- what a service is sent

-- A frame has a kind, the name of a tenant, and a body.
pub record Frame : Type 0 where
  pub kind : ℕ
  pub tenant : List ℕ
  pub body : List ℕ

-- Bytes after their length.
abbrev pub sized : Width → List ℕ → List ℕ
sized width bytes = to_be_bytes width (length bytes) ++ bytes

-- The bytes of a frame: its kind, the name after a length of two bytes, and the body after a
-- length of four.
abbrev pub frame_text : Frame → List ℕ
frame_text f = f.kind ∷ sized w16 f.tenant ++ sized w32 f.body

-- The kinds, by their numbers.
abbrev pub kind_number : Kind → ℕ
kind_number kind.Open = 1
kind_number kind.Feed = 2
kind_number kind.End = 3
kind_number kind.Ask = 4
kind_number kind.Restart = 5

abbrev pub all_kinds : List Kind
all_kinds = kind.Open ∷ kind.Feed ∷ kind.End ∷ kind.Ask ∷ kind.Restart ∷ []

-- The kind with this number, if there is one.
abbrev pub kind_of : ℕ → Option Kind
kind_of n = find (λ k. kind_number k == n) all_kinds

-- A Restart names no tenant. Any other name may be as long as two bytes can count.
abbrev pub tenant_limit : Kind → ℕ
tenant_limit kind.Restart = 0
tenant_limit _ = 65535

-- the most bytes of a body, a query or a piece: 16 MiB
abbrev pub largest_body : ℕ
largest_body = 16777216

-- Only Feed and Ask have a body.
abbrev pub body_limit : Kind → ℕ
body_limit kind.Feed = largest_body
body_limit kind.Ask = largest_body
body_limit _ = 0

-- How many bytes show that a length is wrong, if one is. It shows with its last byte: the length of
-- the name with the third byte, and the length of the body with the fourth byte after the name.
unfoldable pub wrong_part : Kind → ℕ → ℕ → Option ℕ
wrong_part k tenant body =
    if nat_lt (tenant_limit k) tenant then Some 3
    else if nat_lt (body_limit k) body then Some (7 + tenant) else None

-- The same for a frame of any kind: an unknown kind shows with the first byte.
abbrev pub shown_wrong : Option Kind → ℕ → ℕ → Option ℕ
shown_wrong None tenant body = Some 1
shown_wrong (Some k) tenant body = wrong_part k tenant body

abbrev pub wrong_at : Frame → Option ℕ
wrong_at f = shown_wrong (kind_of f.kind) (length f.tenant) (length f.body)

-- The lengths and the kind fit their bytes.
pub record Fits (f : Frame) : Type 0 where
  pub kind : f.kind < 256
  pub tenant : length f.tenant < 2 ^ 16
  pub body : length f.body < 2 ^ 32

-- A good frame has no wrong part. `wrong` says how many bytes of a frame show that a part is wrong,
-- if one is.
abbrev pub IsGoodBy : (Frame → Option ℕ) → Frame → Type 0
IsGoodBy wrong f = Fits f × (wrong f ≡ None)

-- The bytes are the beginning of a frame, good or bad, and `missing` is the rest of it. No wrong
-- part shows yet.
pub record BeginsBy (wrong : Frame → Option ℕ) (f : Frame) (bytes missing : List ℕ) : Type 0 where
  pub fits : Fits f
  pub parts : frame_text f ≡ bytes ++ missing
  pub not_yet : IfSome (wrong f) (λ shown. length bytes < shown)

-- The beginning of a frame of which something is missing. It is cut off if it has a byte.
pub record IsUnfinishedBy (wrong : Frame → Option ℕ) (bytes : List ℕ) : Type 0 where
  pub frame : Frame
  pub missing : List ℕ
  pub begins : BeginsBy wrong frame bytes missing
  pub lacks : missing ≢ []

abbrev pub IsCutOffBy : (Frame → Option ℕ) → List ℕ → Type 0
IsCutOffBy wrong bytes = IsUnfinishedBy wrong bytes × (bytes ≢ [])

-- A bad frame, up to the byte that shows that it is bad.
pub record IsBadBy (wrong : Frame → Option ℕ) (bytes : List ℕ) : Type 0 where
  pub frame : Frame
  pub missing : List ℕ
  pub fits : Fits frame
  pub parts : frame_text frame ≡ bytes ++ missing
  pub shows : wrong frame ≡ Some (length bytes)

-- The same of the frames of steps.
abbrev pub IsGood : Frame → Type 0
IsGood f = IsGoodBy wrong_at f

abbrev pub IsUnfinished : List ℕ → Type 0
IsUnfinished bytes = IsUnfinishedBy wrong_at bytes

abbrev pub IsCutOff : List ℕ → Type 0
IsCutOff bytes = IsCutOffBy wrong_at bytes

abbrev pub IsBad : List ℕ → Type 0
IsBad bytes = IsBadBy wrong_at bytes

-- A frame of a kind that has this number.
abbrev pub framed_by : {K : Type 0} → (K → ℕ) → K → List ℕ → List ℕ → Frame
framed_by number k tenant body = record { kind = number k; tenant = tenant; body = body }

abbrev pub framed : Kind → List ℕ → List ℕ → Frame
framed = framed_by kind_number

-- A step as a frame.
abbrev pub frame_of : Step → Frame
frame_of (step.Open tenant) = framed kind.Open tenant.now []
frame_of (step.Feed tenant bytes) = framed kind.Feed tenant.now bytes.now
frame_of (step.End tenant) = framed kind.End tenant.now []
frame_of (step.Ask tenant query) = framed kind.Ask tenant.now query.now
frame_of step.Restart = framed kind.Restart [] []

abbrev pub step_text : Step → List ℕ
step_text s = frame_text (frame_of s)

-- ---- what it answers

-- The status and the value: 0 for Ok, 1 for a fault with its number, and 2 for out of memory with
-- the count of items.
abbrev pub status_of : Answer → ℕ × ℕ
status_of answer.Ok = (0, 0)
status_of (answer.Fault code) = (1, code)
status_of (answer.Memory items) = (2, items)

unfoldable pub answer_head : Answer → ℕ → List ℕ
answer_head a size = (status_of a).0 ∷ to_be_bytes w64 (status_of a).1 ++ to_be_bytes w64 size

-- The bytes of an answer: its status in one byte, the value in eight, the length of the reply in
-- eight, and the reply.
abbrev pub answer_text : Answer → List ℕ → List ℕ
answer_text a reply = answer_head a (length reply) ++ reply
