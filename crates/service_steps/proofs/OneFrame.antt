-- What the text of a frame says can be read of it in one way only.
use Rattle.std.proofs.Common.{◌≡◌, ℕ, ◌/◌, ◌%◌, ◌<◌, List, ◌++◌, length, take, drop, refl, sym, ap, ◌∙◌, append_assoc, arith}
use Rattle.std.specs.Int.{Width, w16, w32, w64, byte_len, to_be_bytes, from_be_bytes}
use Rattle.std.proofs.Math.Seq.{take-append_seam, drop-append_seam}
use Rattle.std.proofs.lemmas.List.{length-append}
use Rattle.std.proofs.lemmas.Nat.{from_be_bytes-to_be_bytes_2, from_be_bytes-to_be_bytes_4, from_be_bytes-to_be_bytes_8}
use Rattle.service_steps.specs.declared.step.Step.{Step}
use Rattle.service_steps.specs.declared.step.Step.TheVariants as step
use Rattle.service_steps.specs.declared.request.SavedAs.{SavedAs}
use Rattle.service_steps.specs.declared.request.SavedAs.TheVariants as saved
use Rattle.service_steps.specs.declared.request.Request.{Request}
use Rattle.service_steps.specs.declared.request.Request.TheVariants as request
use Rattle.service_steps.specs.Frames.{Frame, Fits, sized, frame_of, frame_text}
use Rattle.service_steps.specs.Reading.{bound}
use Rattle.service_steps.specs.Requests.{request_frame, save_body, missing_body, IsGoodRequest}
use Rattle.service_steps.specs.Distinct.{SayTheSame, AskTheSame, NoTwoStepsHaveOneFrame, NoTwoRequestsHaveOneFrame}

-- Two fronts of one length.
fronts_agree : (a b x y : List ℕ) → length a ≡ length b → a ++ x ≡ b ++ y → (a ≡ b) × (x ≡ y)
fronts_agree a b x y same e = (
  sym (take-append_seam a x) ∙ ap (λ (n : ℕ). take n (a ++ x)) same ∙ ap (λ (l : List ℕ). take (length b) l) e ∙ take-append_seam b y,
  sym (drop-append_seam a x) ∙ ap (λ (n : ℕ). drop n (a ++ x)) same ∙ ap (λ (l : List ℕ). drop (length b) l) e ∙ drop-append_seam b y,
)

record IsWide (w : Width) : Type 0 where
  len : (n : ℕ) → length (to_be_bytes w n) ≡ byte_len w
  again : (n : ℕ) → n < bound w → from_be_bytes w (to_be_bytes w n) ≡ n

wide16 : IsWide w16
wide16 = record { len = λ n. refl; again = λ n few. from_be_bytes-to_be_bytes_2 n few }

wide32 : IsWide w32
wide32 = record { len = λ n. refl; again = λ n few. from_be_bytes-to_be_bytes_4 n few }

wide64 : IsWide w64
wide64 = record { len = λ n. refl; again = λ n few. from_be_bytes-to_be_bytes_8 n few }

numbers_agree : (w : Width) → IsWide w → (m n : ℕ) (x y : List ℕ) → m < bound w → n < bound w → to_be_bytes w m ++ x ≡ to_be_bytes w n ++ y
    → (m ≡ n) × (x ≡ y)
numbers_agree w wide m n x y low few e =
    let split = fronts_agree (to_be_bytes w m) (to_be_bytes w n) x y (wide.len m ∙ sym (wide.len n)) e in
    (sym (wide.again m low) ∙ ap (from_be_bytes w) split.0 ∙ wide.again n few, split.1)

sized_agree : (w : Width) → IsWide w → (a b x y : List ℕ) → length a < bound w → length b < bound w → sized w a ++ x ≡ sized w b ++ y → (a ≡ b) × (x ≡ y)
sized_agree w wide a b x y low few e =
    let split = numbers_agree w wide (length a) (length b) (a ++ x) (b ++ y) low few
    (sym (append_assoc (to_be_bytes w (length a)) a x) ∙ e ∙ append_assoc (to_be_bytes w (length b)) b y) in
    fronts_agree a b x y split.0 split.1

record Agree (f g : Frame) (after later : List ℕ) : Type 0 where
  kind : f.kind ≡ g.kind
  tenant : f.tenant ≡ g.tenant
  body : f.body ≡ g.body
  rest : after ≡ later

frames_agree : (f g : Frame) (after later : List ℕ) → Fits f → Fits g → frame_text f ++ after ≡ frame_text g ++ later → Agree f g after later
frames_agree f g after later fits good e =
    let tails : (sized w16 f.tenant ++ sized w32 f.body) ++ after ≡ (sized w16 g.tenant ++ sized w32 g.body) ++ later = cc e in
    let names = sized_agree w16 wide16 f.tenant g.tenant (sized w32 f.body ++ after) (sized w32 g.body ++ later) fits.tenant good.tenant
    (sym (append_assoc (sized w16 f.tenant) (sized w32 f.body) after) ∙ tails ∙ append_assoc (sized w16 g.tenant) (sized w32 g.body) later) in
    let bodies = sized_agree w32 wide32 f.body g.body after later fits.body good.body names.1 in
    record { kind = cc e; tenant = names.0; body = bodies.0; rest = bodies.1 }

-- ---- steps

same_step : (a b : Step) → (frame_of a).kind ≡ (frame_of b).kind → (frame_of a).tenant ≡ (frame_of b).tenant → (frame_of a).body ≡ (frame_of b).body
    → SayTheSame a b
same_step (step.Open t) (step.Open u) kind tenant body = tenant
same_step (step.Open t) _ kind tenant body = absurd (omega (arith, kind))
same_step (step.Feed t x) (step.Feed u y) kind tenant body = (tenant, body)
same_step (step.Feed t x) _ kind tenant body = absurd (omega (arith, kind))
same_step (step.End t) (step.End u) kind tenant body = tenant
same_step (step.End t) _ kind tenant body = absurd (omega (arith, kind))
same_step (step.Ask t x) (step.Ask u y) kind tenant body = (tenant, body)
same_step (step.Ask t x) _ kind tenant body = absurd (omega (arith, kind))
same_step step.Restart step.Restart kind tenant body = tt
same_step step.Restart _ kind tenant body = absurd (omega (arith, kind))

pub one_step : NoTwoStepsHaveOneFrame
one_step one other after later good well e =
    let agree = frames_agree (frame_of one) (frame_of other) after later good.0 well.0 e in
    (same_step one other agree.kind agree.tenant agree.body, agree.rest)

-- ---- requests

step_number : (s : Step) → (frame_of s).kind < 16
step_number (step.Open t) = omega arith
step_number (step.Feed t x) = omega arith
step_number (step.End t) = omega arith
step_number (step.Ask t x) = omega arith
step_number step.Restart = omega arith

same_saved : (a b : SavedAs) → save_body a ≡ save_body b → a ≡ b
same_saved saved.LastCheckpoint saved.LastCheckpoint e = refl
same_saved saved.LastCheckpoint saved.Opened e = cc e
same_saved saved.Opened saved.LastCheckpoint e = cc e
same_saved saved.Opened saved.Opened e = refl

-- Names that are whole are as many as are counted.
same_names : (wants haves wanted had : List ℕ) → length (missing_body wants haves) < bound w32 → length (missing_body wanted had) < bound w32
    → length wants % 20 ≡ 0 → length wanted % 20 ≡ 0 → missing_body wants haves ≡ missing_body wanted had → (wants ≡ wanted) × (haves ≡ had)
same_names wants haves wanted had short few whole entire e =
    let all = length-append wants haves in
    let each = length-append wanted had in
    let size = length-append (to_be_bytes w32 (length wants / 20)) (wants ++ haves) in
    let extent = length-append (to_be_bytes w32 (length wanted / 20)) (wanted ++ had) in
    let counted = numbers_agree w32 wide32 (length wants / 20) (length wanted / 20) (wants ++ haves) (wanted ++ had)
    (omega (arith, short, size, all)) (omega (arith, few, extent, each)) e in
    let many = counted.0 in
    fronts_agree wants wanted haves had (omega (arith, many, whole, entire)) counted.1

same_request : (a b : Request) → IsGoodRequest a → IsGoodRequest b → (request_frame a).kind ≡ (request_frame b).kind
    → (request_frame a).tenant ≡ (request_frame b).tenant → (request_frame a).body ≡ (request_frame b).body → AskTheSame a b
same_request (request.Step s) (request.Step t) good well kind tenant body = same_step s t kind tenant body
same_request (request.Step s) _ good well kind tenant body = let low = step_number s in absurd (omega (arith, kind, low))
same_request (request.Save which) (request.Save other) good well kind tenant body = same_saved which other body
same_request (request.Save which) (request.Step t) good well kind tenant body = let low = step_number t in absurd (omega (arith, kind, low))
same_request (request.Save which) _ good well kind tenant body = absurd (omega (arith, kind))
same_request (request.Abandon t) (request.Abandon u) good well kind tenant body = tenant
same_request (request.Abandon t) (request.Step s) good well kind tenant body = let low = step_number s in absurd (omega (arith, kind, low))
same_request (request.Abandon t) _ good well kind tenant body = absurd (omega (arith, kind))
same_request (request.Remove t) (request.Remove u) good well kind tenant body = tenant
same_request (request.Remove t) (request.Step s) good well kind tenant body = let low = step_number s in absurd (omega (arith, kind, low))
same_request (request.Remove t) _ good well kind tenant body = absurd (omega (arith, kind))
same_request (request.Compact t) (request.Compact u) good well kind tenant body = tenant
same_request (request.Compact t) (request.Step s) good well kind tenant body = let low = step_number s in absurd (omega (arith, kind, low))
same_request (request.Compact t) _ good well kind tenant body = absurd (omega (arith, kind))
same_request (request.Copy t x) (request.Copy u y) good well kind tenant body = (tenant, body)
same_request (request.Copy t x) (request.Step s) good well kind tenant body = let low = step_number s in absurd (omega (arith, kind, low))
same_request (request.Copy t x) _ good well kind tenant body = absurd (omega (arith, kind))
same_request request.Sizes request.Sizes good well kind tenant body = tt
same_request request.Sizes (request.Step s) good well kind tenant body = let low = step_number s in absurd (omega (arith, kind, low))
same_request request.Sizes _ good well kind tenant body = absurd (omega (arith, kind))
same_request (request.Missing t w h) (request.Missing u v g) good well kind tenant body =
    let names = same_names w.now h.now v.now g.now good.0.0.body well.0.0.body good.1.0 well.1.0 body in
    (tenant, names.0, names.1)
same_request (request.Missing t w h) (request.Step s) good well kind tenant body = let low = step_number s in absurd (omega (arith, kind, low))
same_request (request.Missing t w h) _ good well kind tenant body = absurd (omega (arith, kind))
same_request (request.Entries t m x) (request.Entries u n y) good well kind tenant body =
    let parts = numbers_agree w64 wide64 m n x.now y.now good.1.0 well.1.0 body in
    (tenant, parts.0, parts.1)
same_request (request.Entries t m x) (request.Step s) good well kind tenant body = let low = step_number s in absurd (omega (arith, kind, low))
same_request (request.Entries t m x) _ good well kind tenant body = absurd (omega (arith, kind))

pub one_request : NoTwoRequestsHaveOneFrame
one_request one other after later good well e =
    let agree = frames_agree (request_frame one) (request_frame other) after later good.0.0 well.0.0 e in
    (same_request one other good well agree.kind agree.tenant agree.body, agree.rest)
