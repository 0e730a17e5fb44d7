-- Checks in their order, and the refusal of the first that fails.
use Rattle.std.specs.Prelude.{◌≡◌, ◌⊎◌, List, [], ◌∷◌, Result, Ok, Err}
use Rattle.pool_file_format.specs.declared.refusal.Refusal.{Refusal}
use Rattle.pool_file_format.specs.declared.fault.Fault.{Fault}
use Rattle.pool_file_format.specs.declared.fault.Fault.TheVariants as fault

-- What must hold, in order, each with the refusal if it does not hold.
abbrev pub Checks : Type 1
Checks = List (Type 0 × Refusal)

-- All hold.
abbrev pub Passes : Checks → Type 0
Passes [] = Unit {0}
Passes (c ∷ cs) = c.0 × Passes cs

-- The first check that does not hold has this refusal.
abbrev pub Refuses : Checks → Refusal → Type 0
Refuses [] r = ⊥
Refuses (c ∷ cs) r = ((c.0 → ⊥) × (r ≡ c.1)) ⊎ (c.0 × Refuses cs r)

-- What a call that makes these checks answers. `Memory` may replace any answer.
abbrev pub Checked : Checks → Result Unit Fault → Type 0
Checked cs (Ok u) = Passes cs
Checked cs (Err (fault.Refused r)) = Refuses cs r
Checked cs (Err fault.Memory) = Unit {0}
Checked cs (Err fault.Device) = ⊥
