-- The counts of records are those of the objects that they tell.
use Rattle.std.proofs.Common.{◌≡◌, ℕ, ◌+◌, ◌≤◌, ◌<◌, Bool, true, false, cond, ltb, List, [], ◌∷◌, ◌++◌, length, map, take, drop, get_or, Option, None, Some, Result, Ok, Err, refl, sym, ap, ◌∙◌, arith}
use Rattle.std.specs.Prelude.{slice_get}
use Rattle.std.specs.Option.{option_map}
use Rattle.std.proofs.lemmas.Bool.{ltb-false}
use Rattle.std.proofs.lemmas.List.{drop_more, drop_all, map_push, length-append, length-take-le}
use Rattle.std.proofs.lemmas.Option.{slice_get-map}
use Rattle.pool_file_format.specs.declared.refusal.Refusal.{Refusal}
use Rattle.pool_file_format.specs.declared.refusal.Refusal.TheVariants as refusal
use Rattle.pool_file_format.specs.declared.fault.Fault.{Fault}
use Rattle.pool_file_format.specs.declared.fault.Fault.TheVariants as fault
use Rattle.pool_file_format.specs.Lengths.{◌>>=◌}
use Rattle.pool_file_format.specs.Taking.{Fails}
use Rattle.store_format.specs.declared.tenant_record.TenantRecord.{TenantRecord as CodeTenantRecord}
use Rattle.store_format.specs.Records.{TenantRecord}
use Rattle.std.specs.List.{fold}
use Rattle.store_format.specs.Saying.{Told, Targets, changed, found_base, base_of, shared_of, told_after, all_told}
use Rattle.store_format.specs.Standing.{counts_of, found_count, count_of_base, count_after, all_counts}
use Rattle.store_format.specs.Shown.{record_of, records_of}

abbrev size_of : Told → ℕ
size_of t = length t.numbers

found_so : (o : Option Told) → found_count (option_map size_of o) ≡ found_base o >>= λ base. Ok (length base.0)
found_so None = refl
found_so (Some t) = refl

base_so : (before : List Told) (b : Option ℕ) → count_of_base (map size_of before) b ≡ base_of before b >>= λ base. Ok (length base.0)
unfolding count_of_base base_of
base_so before None = refl
base_so before (Some r) = ap found_count (slice_get-map size_of before r) ∙ found_so (slice_get before r)

count_so : (before : List Told) (r : TenantRecord) → count_after (map size_of before) r ≡ told_after before r >>= λ t. Ok (size_of t)
unfolding count_after told_after
count_so before r = rw (base_so before r.base) (by (base_of before r.base))
  where
    told : List ℕ × Targets → List ℕ → Told
    told base shared = record { name = r.name; numbers = shared ++ r.numbers; refs = fold changed base.1 r.changes; head = r.head }

    all : (base : List ℕ × Targets) (t : Bool) → ltb (length base.0) r.shared ≡ t
        → cond t (Err refusal.MissingReference) (Ok (r.shared + length r.numbers)) ≡ (cond t (Err refusal.MissingReference) (Ok (take r.shared base.0)) >>= λ shared. Ok (told base shared)) >>= λ t. Ok (size_of t)
    all base true is = refl
    all base false is = ap (λ (n : ℕ). Ok n) (let long : r.shared ≤ length base.0 = ltb-false _ _ is in
        omega (arith, long, length-append (take r.shared base.0) r.numbers, length-take-le r.shared base.0 long))

    by : (x : Result (List ℕ × Targets) Refusal)
        → (x >>= λ base. Ok (length base.0)) >>= (λ base. cond (ltb base r.shared) (Err refusal.MissingReference) (Ok (r.shared + length r.numbers)))
        ≡ (x >>= λ base. shared_of r.shared base.0 >>= λ shared. Ok (told base shared)) >>= λ t. Ok (size_of t)
    by (Ok base) = all base (ltb (length base.0) r.shared) refl
    by (Err e) = refl

all_so : (before : List Told) (rs : List TenantRecord) → all_counts (map size_of before) rs ≡ all_told before rs >>= λ all. Ok (map size_of all)
unfolding all_counts all_told
all_so before [] = refl
all_so before (r ∷ rs) = rw (count_so before r) (by (told_after before r) (λ t. all_so (before ++ t ∷ []) rs))
  where
    by : (x : Result Told Refusal) → ((t : Told) → all_counts (map size_of (before ++ t ∷ [])) rs ≡ all_told (before ++ t ∷ []) rs >>= λ all. Ok (map size_of all))
        → (x >>= λ t. Ok (size_of t)) >>= (λ count. all_counts (map size_of before ++ count ∷ []) rs) ≡ (x >>= λ told. all_told (before ++ told ∷ []) rs) >>= λ all. Ok (map size_of all)
    by (Ok t) more = ap (λ (l : List ℕ). all_counts l rs) (sym (map_push size_of before t)) ∙ more t
    by (Err e) more = refl

pub counts_so : (rs : List TenantRecord) → all_counts [] rs ≡ counts_of rs
counts_so rs = all_so [] rs

-- ---- one record after the other, as a loop goes

pub counts_on : (counts : List ℕ) (rs : List CodeTenantRecord) (i : ℕ) (r : CodeTenantRecord) (count : ℕ) → i < length rs → r ≡ get_or rs i r
    → count_after counts (record_of r) ≡ Ok count → all_counts (counts ++ count ∷ []) (records_of (drop (i + 1) rs)) ≡ all_counts counts (records_of (drop i rs))
unfolding all_counts
counts_on counts rs i r count lt is e = sym (ap (λ (l : List CodeTenantRecord). all_counts counts (records_of l)) (drop_more rs i r lt) ∙ rw (sym is, e) refl)

pub counts_fail : (counts : List ℕ) (rs : List CodeTenantRecord) (i : ℕ) (r : CodeTenantRecord) (e : Fault) → i < length rs → r ≡ get_or rs i r
    → Fails e (count_after counts (record_of r)) → Fails e (all_counts counts (records_of (drop i rs)))
unfolding all_counts
counts_fail counts rs i r fault.Memory lt is f = tt
counts_fail counts rs i r fault.Device lt is f = tt
counts_fail counts rs i r (fault.Refused d) lt is f = ap (λ (l : List CodeTenantRecord). all_counts counts (records_of l)) (drop_more rs i r lt) ∙ rw (sym is, f) refl

pub counts_end : (counts : List ℕ) (rs : List CodeTenantRecord) (i : ℕ) → length rs ≤ i → all_counts counts (records_of (drop i rs)) ≡ Ok counts
unfolding all_counts
counts_end counts rs i le = ap (λ (l : List CodeTenantRecord). all_counts counts (records_of l)) (drop_all i rs le)
