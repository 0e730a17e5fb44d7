-- What is known of the kinds of the frames of steps, or of requests.
use Rattle.std.specs.Prelude.{◌≡◌, ℕ, ◌+◌, ◌<◌, Bool, nat_lt, if◌then◌else◌, List, [], length, Option, None, Some}
use Rattle.service_steps.specs.Frames.{Frame, IsUnfinishedBy}

-- Where a frame is wrong whose name and body may be so long, and whose body has to pass this test.
abbrev pub wrong_within : ℕ → ℕ → (List ℕ → Bool) → ℕ → List ℕ → Option ℕ
wrong_within names bodies good n body =
    if nat_lt names n then Some 3
    else if nat_lt bodies (length body) then Some (7 + n)
    else if good body then None else Some (7 + n + length body)

-- The frames of the kind with this number are wrong there.
pub record Judges (wrong_at : Frame → Option ℕ) (kind names bodies : ℕ) (good : List ℕ → Bool) :
    Type 0 where
  pub small : kind < 256
  pub is : (tenant body : List ℕ) → wrong_at (record { kind = kind; tenant = tenant; body = body })
      ≡ wrong_within names bodies good (length tenant) body

-- What the frames of some kinds may be: where a frame is wrong, which kind has a number, and what the
-- name and the body of a kind may be.
pub record Rules (K : Type 0) : Type 0 where
  pub wrong_at : Frame → Option ℕ
  pub kind_of : ℕ → Option K
  pub number : K → ℕ
  pub names : K → ℕ
  pub bodies : K → ℕ
  pub good : K → List ℕ → Bool

abbrev pub rules_of : {K : Type 0} → (Frame → Option ℕ) → (ℕ → Option K) → (K → ℕ) → (K → ℕ)
    → (K → ℕ) → (K → List ℕ → Bool) → Rules K
rules_of w k number n b g =
    record { wrong_at = w; kind_of = k; number = number; names = n; bodies = b; good = g }

-- A kind has one number, and a frame of no known kind is wrong at its first byte.
pub record Kinds {K : Type 0} (r : Rules K) : Type 0 where
  pub judges : (k : K) → Judges r.wrong_at (r.number k) (r.names k) (r.bodies k) (r.good k)
  pub numbered : (byte : ℕ) (k : K) → r.kind_of byte ≡ Some k → byte ≡ r.number k
  pub unknown : (byte : ℕ) → r.kind_of byte ≡ None
      → r.wrong_at (record { kind = byte; tenant = []; body = [] }) ≡ Some 1
  pub none : IsUnfinishedBy r.wrong_at []
