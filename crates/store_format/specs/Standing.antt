-- How many objects each record has: a record stands on an earlier one, and on no more objects than
-- that has.
use Rattle.std.specs.Prelude.{ℕ, ◌+◌, List, [], ◌∷◌, ◌++◌, length, map, Option, None, Some, Result, Ok, Err, nat_lt, if◌then◌else◌, slice_get}
use Rattle.pool_file_format.specs.declared.refusal.Refusal.{Refusal}
use Rattle.pool_file_format.specs.declared.refusal.Refusal.TheVariants as refusal
use Rattle.pool_file_format.specs.Lengths.{◌>>=◌}
use Rattle.store_format.specs.Records.{TenantRecord}
use Rattle.store_format.specs.Saying.{all_told}

-- How many objects each record tells; `MissingReference` if a record stands on none before it, or
-- on more objects than that has.
abbrev pub counts_of : List TenantRecord → Result (List ℕ) Refusal
counts_of rs = all_told [] rs >>= λ all. Ok (map (λ t. length t.numbers) all)

-- ---- the same without the objects

abbrev pub found_count : Option ℕ → Result ℕ Refusal
found_count None = Err refusal.MissingReference
found_count (Some count) = Ok count

unfoldable pub count_of_base : List ℕ → Option ℕ → Result ℕ Refusal
count_of_base before None = Ok 0
count_of_base before (Some r) = found_count (slice_get before r)

unfoldable pub count_after : List ℕ → TenantRecord → Result ℕ Refusal
count_after before r = do
  base ← count_of_base before r.base
  if nat_lt base r.shared then Err refusal.MissingReference
      else Ok (r.shared + length r.numbers)

unfoldable pub all_counts : List ℕ → List TenantRecord → Result (List ℕ) Refusal
all_counts before [] = Ok before
all_counts before (r ∷ rs) = do
  count ← count_after before r
  all_counts (before ++ count ∷ []) rs
