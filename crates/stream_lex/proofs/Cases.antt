-- Cases on a test.
use Rattle.std.proofs.Common.{◌≡◌, Bool, true, false, refl}

pub by_cases : {P : Type 0} (b : Bool) → (b ≡ true → P) → (b ≡ false → P) → P
by_cases true yes_case no_case = yes_case refl
by_cases false yes_case no_case = no_case refl
