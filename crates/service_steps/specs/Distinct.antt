-- Which steps and which requests say the same, and that no two that do not have one frame.
use Rattle.std.specs.Prelude.{◌≡◌, List, ℕ, ◌++◌}
use Rattle.service_steps.specs.declared.step.Step.{Step}
use Rattle.service_steps.specs.declared.step.Step.TheVariants as step
use Rattle.service_steps.specs.declared.request.Request.{Request}
use Rattle.service_steps.specs.declared.request.Request.TheVariants as request
use Rattle.service_steps.specs.Frames.{frame_of, step_text, IsGood}
use Rattle.service_steps.specs.Requests.{request_text, IsGoodRequest}

-- Two steps say the same if they are of one kind and have the same bytes, wherever these lie.
abbrev pub SayTheSame : Step → Step → Type 0
SayTheSame (step.Open tenant) (step.Open other) = tenant.now ≡ other.now
SayTheSame (step.Feed tenant bytes) (step.Feed other more) =
    (tenant.now ≡ other.now) × (bytes.now ≡ more.now)
SayTheSame (step.End tenant) (step.End other) = tenant.now ≡ other.now
SayTheSame (step.Ask tenant query) (step.Ask other question) =
    (tenant.now ≡ other.now) × (query.now ≡ question.now)
SayTheSame step.Restart step.Restart = Unit {0}
SayTheSame _ _ = ⊥

-- Bytes that begin with the good frames of two steps: the steps say the same, and the same bytes
-- follow.
abbrev pub NoTwoStepsHaveOneFrame : Type 0
NoTwoStepsHaveOneFrame = (one other : Step) (after later : List ℕ)
    → IsGood (frame_of one) → IsGood (frame_of other)
    → step_text one ++ after ≡ step_text other ++ later
    → SayTheSame one other × (after ≡ later)

-- Two requests ask the same if they are of one kind and have the same parts, wherever these lie.
abbrev pub AskTheSame : Request → Request → Type 0
AskTheSame (request.Step one) (request.Step other) = SayTheSame one other
AskTheSame (request.Save which) (request.Save other) = which ≡ other
AskTheSame (request.Abandon tenant) (request.Abandon other) = tenant.now ≡ other.now
AskTheSame (request.Remove tenant) (request.Remove other) = tenant.now ≡ other.now
AskTheSame (request.Compact tenant) (request.Compact other) = tenant.now ≡ other.now
AskTheSame (request.Copy from to) (request.Copy origin target) =
    (from.now ≡ origin.now) × (to.now ≡ target.now)
AskTheSame request.Sizes request.Sizes = Unit {0}
AskTheSame (request.Missing tenant wants haves) (request.Missing other wanted had) =
    (tenant.now ≡ other.now) × (wants.now ≡ wanted.now) × (haves.now ≡ had.now)
AskTheSame (request.Entries tenant limit names) (request.Entries other most more) =
    (tenant.now ≡ other.now) × (limit ≡ most) × (names.now ≡ more.now)
AskTheSame _ _ = ⊥

-- Bytes that begin with the good frames of two requests: the requests ask the same, and the same
-- bytes follow.
abbrev pub NoTwoRequestsHaveOneFrame : Type 0
NoTwoRequestsHaveOneFrame = (one other : Request) (after later : List ℕ)
    → IsGoodRequest one → IsGoodRequest other
    → request_text one ++ after ≡ request_text other ++ later
    → AskTheSame one other × (after ≡ later)
