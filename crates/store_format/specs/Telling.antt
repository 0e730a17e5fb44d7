-- What one record tells, by those that it stands on: other records may be refused.
use Rattle.std.specs.Prelude.{ℕ, List, [], ◌∷◌, ◌++◌, Option, Some, None, Result, Ok, Err, slice_get}
use Rattle.std.specs.List.{fold}
use Rattle.std.specs.FinMap as finite
use Rattle.pool_file_format.specs.declared.refusal.Refusal.{Refusal}
use Rattle.pool_file_format.specs.declared.refusal.Refusal.TheVariants as refusal
use Rattle.pool_file_format.specs.Lengths.{◌>>=◌}
use Rattle.store_format.specs.Records.{TenantRecord}
use Rattle.store_format.specs.Saying.{Told, changed, shared_of}

-- No object and no ref: what a record stands on that stands on none.
abbrev pub nothing_told : Told
nothing_told = record { name = []; numbers = []; refs = finite.empty; head = [] }

-- What a record tells that stands on one that told this.
unfoldable pub told_over : Told → TenantRecord → Result Told Refusal
told_over base r = do
  shared ← shared_of r.shared base.numbers
  Ok (record {
    name = r.name;
    numbers = shared ++ r.numbers;
    refs = fold changed base.refs r.changes;
    head = r.head;
  })

-- ---- all records

-- What the record that one stands on tells; `MissingReference` if there is none.
abbrev pub found_told : Option (Result Told Refusal) → Result Told Refusal
found_told None = Err refusal.MissingReference
found_told (Some told) = told

abbrev pub base_told : List (Result Told Refusal) → Option ℕ → Result Told Refusal
base_told before None = Ok nothing_told
base_told before (Some r) = found_told (slice_get before r)

-- What a record tells, after what those before it tell.
unfoldable pub told_among : List (Result Told Refusal) → TenantRecord → Result Told Refusal
told_among before r = do
  base ← base_told before r.base
  told_over base r

-- What each record tells, or why it tells nothing.
unfoldable pub each_told : List (Result Told Refusal) → List TenantRecord
    → List (Result Told Refusal)
each_told before [] = before
each_told before (r ∷ rs) = each_told (before ++ told_among before r ∷ []) rs

-- What the record of a number tells. `MissingReference` if there is no such record, or if what it
-- stands on is not there.
unfoldable pub tells : List TenantRecord → ℕ → Result Told Refusal
tells rs number = found_told (slice_get (each_told [] rs) number)

-- The same where all are told.
abbrev pub found_one : Option Told → Result Told Refusal
found_one None = Err refusal.MissingReference
found_one (Some told) = Ok told

abbrev pub told_at : List Told → ℕ → Result Told Refusal
told_at all number = found_one (slice_get all number)

-- ---- some records

-- What the first of some records tells, if each stands on the one after it, and the last on this.
abbrev pub told_upon : Result Told Refusal → List TenantRecord → Result Told Refusal
told_upon base [] = base
told_upon base (r ∷ rs) = told_upon base rs >>= λ b. told_over b r
