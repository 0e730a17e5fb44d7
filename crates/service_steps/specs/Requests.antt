-- Frames of requests: the steps of a service, and what its operator asks for, as bytes.
use Rattle.std.specs.Prelude.{◌≡◌, ℕ, ◌+◌, ◌-◌, ◌/◌, ◌%◌, ◌^◌, ◌<◌, ◌==◌, ◌&&◌, Bool, true, nat_lt, nat_le, if◌then◌else◌, List, [], ◌∷◌, ◌++◌, length, take, Option, None, Some}
use Rattle.std.specs.Int.{w32, w64, from_be_bytes, to_be_bytes}
use Rattle.std.specs.List.{find}
use Rattle.service_steps.specs.declared.kind.Kind.TheVariants as kind
use Rattle.service_steps.specs.declared.request.SavedAs.{SavedAs}
use Rattle.service_steps.specs.declared.request.SavedAs.TheVariants as saved
use Rattle.service_steps.specs.declared.request.Request.{Request}
use Rattle.service_steps.specs.declared.request.Request.TheVariants as request
use Rattle.service_steps.specs.declared.request_kind.RequestKind.{RequestKind}
use Rattle.service_steps.specs.declared.request_kind.RequestKind.TheVariants as of
use Rattle.service_steps.specs.Frames.{Frame, frame_text, frame_of, kind_number, tenant_limit, body_limit, largest_body, IsGoodBy, IsUnfinishedBy, IsCutOffBy, IsBadBy}

-- The kinds, by their numbers. A step has the number that it has in a frame of its own.
abbrev pub request_number : RequestKind → ℕ
request_number (of.Step k) = kind_number k
request_number of.Save = 16
request_number of.Abandon = 17
request_number of.Remove = 18
request_number of.Compact = 19
request_number of.Copy = 20
request_number of.Sizes = 21
request_number of.Missing = 22
request_number of.Entries = 23

abbrev pub all_request_kinds : List RequestKind
all_request_kinds = of.Step kind.Open ∷ of.Step kind.Feed ∷ of.Step kind.End ∷ of.Step kind.Ask
    ∷ of.Step kind.Restart ∷ of.Save ∷ of.Abandon ∷ of.Remove ∷ of.Compact ∷ of.Copy ∷ of.Sizes
    ∷ of.Missing ∷ of.Entries ∷ []

-- The kind with this number, if there is one.
abbrev pub request_kind_of : ℕ → Option RequestKind
request_kind_of n = find (λ k. request_number k == n) all_request_kinds

-- A Restart, a Save and a Sizes have no name. Any other name may be as long as two bytes can count.
abbrev pub name_limit : RequestKind → ℕ
name_limit (of.Step k) = tenant_limit k
name_limit of.Save = 0
name_limit of.Sizes = 0
name_limit _ = 65535

-- The most bytes of a body. A Copy has a name there, a Save at most one byte, and a Missing and an
-- Entries have names.
abbrev pub request_limit : RequestKind → ℕ
request_limit (of.Step k) = body_limit k
request_limit of.Save = 1
request_limit of.Copy = largest_body
request_limit of.Missing = largest_body
request_limit of.Entries = largest_body
request_limit _ = 0

-- The body of a Save is empty or the byte 01.
abbrev pub is_save_body : List ℕ → Bool
is_save_body [] = true
is_save_body (byte ∷ bytes) = byte == 1

-- The body of a Missing is the number of the wanted names in four bytes, and at least as many names
-- of 20 bytes each: the wanted ones, and then those that are had.
abbrev pub is_missing_body : List ℕ → Bool
is_missing_body body = nat_le 4 (length body) && ((length body - 4) % 20 == 0
    && nat_le (from_be_bytes w32 (take 4 body)) ((length body - 4) / 20))

-- The body of an Entries is the most bytes that may come back in eight bytes, and names.
abbrev pub is_entries_body : List ℕ → Bool
is_entries_body body = nat_le 8 (length body) && (length body - 8) % 20 == 0

-- Any other body that is not too long may be any bytes.
abbrev pub is_body : RequestKind → List ℕ → Bool
is_body of.Save body = is_save_body body
is_body of.Missing body = is_missing_body body
is_body of.Entries body = is_entries_body body
is_body _ body = true

-- How many bytes show that a part is wrong, if one is: the third byte for the length of the name,
-- the fourth byte after the name for the length of the body, and the last byte for the body.
unfoldable pub wrong_request_part : RequestKind → ℕ → List ℕ → Option ℕ
wrong_request_part k name body =
    if nat_lt (name_limit k) name then Some 3
    else if nat_lt (request_limit k) (length body) then Some (7 + name)
    else if is_body k body then None else Some (7 + name + length body)

-- The same for a frame of any kind: an unknown kind shows with the first byte.
abbrev pub shown_wrong_request : Option RequestKind → ℕ → List ℕ → Option ℕ
shown_wrong_request None name body = Some 1
shown_wrong_request (Some k) name body = wrong_request_part k name body

abbrev pub wrong_request_at : Frame → Option ℕ
wrong_request_at f = shown_wrong_request (request_kind_of f.kind) (length f.tenant) f.body

-- Unfinished, cut off and bad frames of requests.
abbrev pub IsUnfinishedRequest : List ℕ → Type 0
IsUnfinishedRequest bytes = IsUnfinishedBy wrong_request_at bytes

abbrev pub IsCutOffRequest : List ℕ → Type 0
IsCutOffRequest bytes = IsCutOffBy wrong_request_at bytes

abbrev pub IsBadRequest : List ℕ → Type 0
IsBadRequest bytes = IsBadBy wrong_request_at bytes

abbrev pub request_framed : RequestKind → List ℕ → List ℕ → Frame
request_framed k name body = record { kind = request_number k; tenant = name; body = body }

-- The body of a Save.
abbrev pub save_body : SavedAs → List ℕ
save_body saved.LastCheckpoint = []
save_body saved.Opened = 1 ∷ []

-- The bodies of a Missing and an Entries.
abbrev pub missing_body : List ℕ → List ℕ → List ℕ
missing_body wants haves = to_be_bytes w32 (length wants / 20) ++ (wants ++ haves)

abbrev pub entries_body : ℕ → List ℕ → List ℕ
entries_body limit names = to_be_bytes w64 limit ++ names

-- A request as a frame. A step has the frame that it has in `Frames`.
abbrev pub request_frame : Request → Frame
request_frame (request.Step s) = frame_of s
request_frame (request.Save which) = request_framed of.Save [] (save_body which)
request_frame (request.Abandon tenant) = request_framed of.Abandon tenant.now []
request_frame (request.Remove tenant) = request_framed of.Remove tenant.now []
request_frame (request.Compact tenant) = request_framed of.Compact tenant.now []
request_frame (request.Copy from to) = request_framed of.Copy from.now to.now
request_frame request.Sizes = request_framed of.Sizes [] []
request_frame (request.Missing tenant wants haves) =
    request_framed of.Missing tenant.now (missing_body wants.now haves.now)
request_frame (request.Entries tenant limit names) =
    request_framed of.Entries tenant.now (entries_body limit names.now)

abbrev pub request_text : Request → List ℕ
request_text r = frame_text (request_frame r)

-- Names are whole: 20 bytes each. The limit of an Entries fits its eight bytes.
abbrev pub IsWhole : Request → Type 0
IsWhole (request.Missing tenant wants haves) =
    (length wants.now % 20 ≡ 0) × (length haves.now % 20 ≡ 0)
IsWhole (request.Entries tenant limit names) = (limit < 2 ^ 64) × (length names.now % 20 ≡ 0)
IsWhole _ = Unit {0}

-- A request that a good frame can say.
abbrev pub IsGoodRequest : Request → Type 0
IsGoodRequest r = IsGoodBy wrong_request_at (request_frame r) × IsWhole r
