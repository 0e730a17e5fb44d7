-- What a file may say of a tenant: its name, and how many objects and refs it has. The rules are
-- this service's own.
use Rattle.std.specs.Prelude.{◌≡◌, ◌≢◌, ◌⊎◌, ℕ, ◌<◌, ◌≤◌, List, [], ◌∷◌, length, All, Option}
use Rattle.git_model.specs.RefStore.{first_head}
use Rattle.git_model.specs.GoodRepository.{objects_limit, refs_limit}
use Rattle.tenant_refs.specs.TenantName.{IsTenantName}
use Rattle.pool_file_format.specs.declared.refusal.Refusal.TheVariants as refusal
use Rattle.pool_file_format.specs.Format.{RawTenant}
use Rattle.pool_file_checks.specs.Checks.{Checks}
use Rattle.pool_file_checks.specs.Objects.{IsAfter}

-- In version 1 a tenant's name has one part.
pub record IsNameIn (version : ℕ) (text : List ℕ) : Type 0 where
  pub name : IsTenantName text
  pub one_part : version ≡ 1 → All (λ byte. byte ≢ 47) text

-- A tenant has an object, or a HEAD other than `refs/heads/main`.
abbrev pub IsWorthSaving : RawTenant → Type 0
IsWorthSaving t = (t.numbers ≢ []) ⊎ (t.head ≢ first_head)

-- The name is good, it comes after that of the tenant before, and there is something to save.
abbrev pub name_checks : ℕ → Option (List ℕ) → RawTenant → Checks
name_checks version last t =
    (IsNameIn version t.name, refusal.NotCanonical)
    ∷ (IsAfter last t.name, refusal.NotCanonical)
    ∷ (IsWorthSaving t, refusal.NotCanonical)
    ∷ []

-- Each number is below the count of the file's objects, and the tenant does not have too many
-- objects or refs. Equal numbers are two objects of one name, which a later check refuses.
abbrev pub number_checks : ℕ → RawTenant → Checks
number_checks count t =
    (All (λ n. n < count) t.numbers, refusal.NotCanonical)
    ∷ (length t.numbers ≤ objects_limit, refusal.NotCanonical)
    ∷ (length t.refs ≤ refs_limit, refusal.NotCanonical)
    ∷ []
