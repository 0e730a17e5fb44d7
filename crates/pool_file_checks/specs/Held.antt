-- Each object of a file belongs to a tenant. The rule is this service's own.
use Rattle.std.specs.Prelude.{◌≡◌, ◌↔◌, ℕ, ◌<◌, Bool, true, false, List, [], ◌∷◌, length, slice_index_or}
use Rattle.std.specs.List.{flat_map, Contains}
use Rattle.pool_file_format.specs.declared.refusal.Refusal.TheVariants as refusal
use Rattle.pool_file_format.specs.Format.{RawTenant}
use Rattle.pool_file_checks.specs.Checks.{Checks}

-- All numbers that tenants have.
abbrev pub numbers_of : List RawTenant → List ℕ
numbers_of ts = flat_map (λ t. t.numbers) ts

abbrev pub AreHeld : ℕ → List ℕ → Type 0
AreHeld count numbers = (n : ℕ) → n < count → Contains numbers n

abbrev pub held_checks : ℕ → List RawTenant → Checks
held_checks count ts = (AreHeld count (numbers_of ts), refusal.NotCanonical) ∷ []

-- There are `count` flags, and exactly those of these numbers are set.
pub record AreMarked (flags : List Bool) (count : ℕ) (numbers : List ℕ) : Type 0 where
  pub size : length flags ≡ count
  pub each : (n : ℕ) → n < count → (slice_index_or flags n false ≡ true) ↔ Contains numbers n
