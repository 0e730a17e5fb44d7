-- Which bytes begin no frame of the operator: what is read of them is what `Frames` reads.
use Rattle.std.specs.Prelude.{ℕ, Bool, true, false, ◌&&◌, not, nat_lt, List, [], ◌∷◌}
use Rattle.service_steps.specs.declared.request.Request.{Request}
use Rattle.service_steps.specs.declared.request.Request.TheVariants as request

-- The numbers of the kinds of requests that are no steps.
abbrev pub is_operator_kind : ℕ → Bool
is_operator_kind byte = nat_lt 15 byte && nat_lt byte 24

abbrev pub begins_no_request : List ℕ → Bool
begins_no_request [] = true
begins_no_request (byte ∷ bytes) = not (is_operator_kind byte)

-- A request that is a step.
abbrev pub is_step : Request → Bool
is_step (request.Step s) = true
is_step _ = false
