-- Where all records are told, each one tells the same.
use Rattle.std.proofs.Common.{◌≡◌, ℕ, zero, suc, ◌<◌, List, [], ◌∷◌, ◌++◌, length, map, Option, None, Some, Result, Ok, Err, refl, sym, ap, subst, ◌∙◌, arith}
use Rattle.std.specs.Prelude.{slice_get, option_map}
use Rattle.std.specs.List.{fold}
use Rattle.std.proofs.lemmas.List.{map_push}
use Rattle.std.proofs.lemmas.Option.{slice_get-map}
use Rattle.pool_file_format.specs.declared.refusal.Refusal.{Refusal}
use Rattle.pool_file_format.specs.declared.refusal.Refusal.TheVariants as refusal
use Rattle.pool_file_format.specs.Lengths.{◌>>=◌}
use Rattle.pool_file_format.proofs.Formats.{bind_ok, ok_is}
use Rattle.store_format.specs.Records.{TenantRecord}
use Rattle.store_format.specs.Saying.{Told, Targets, changed, shared_of, found_base, base_of, told_after, all_told}
use Rattle.store_format.specs.Telling.{nothing_told, told_over, found_told, base_told, told_among, each_told, tells, found_one, told_at}

abbrev all_ok : List Told → List (Result Told Refusal)
all_ok ts = map (λ (t : Told). Ok t) ts

abbrev pair_of : Told → Result (List ℕ × Targets) Refusal
pair_of t = Ok (t.numbers, t.refs)

found-so : (o : Option Told) → found_base o ≡ found_told (option_map (λ (t : Told). Ok t) o) >>= pair_of
found-so None = refl
found-so (Some t) = refl

base-so : (before : List Told) (b : Option ℕ) → base_of before b ≡ base_told (all_ok before) b >>= pair_of
unfolding base_of
base-so before None = refl
base-so before (Some n) = found-so (slice_get before n) ∙ ap (λ (o : Option (Result Told Refusal)). found_told o >>= pair_of) (sym (slice_get-map (λ (t : Told). Ok t) before n))

abbrev told_with : TenantRecord → Targets → List ℕ → Told
told_with r refs shared = record { name = r.name; numbers = shared ++ r.numbers; refs = fold changed refs r.changes; head = r.head }

abbrev over_pair : TenantRecord → List ℕ × Targets → Result Told Refusal
over_pair r base = shared_of r.shared base.0 >>= λ shared. Ok (told_with r base.1 shared)

over-so : (r : TenantRecord) (x : Result Told Refusal) → (x >>= pair_of) >>= over_pair r ≡ x >>= λ t. told_over t r
unfolding told_over
over-so r (Ok t) = refl
over-so r (Err e) = refl

among-so : (before : List Told) (r : TenantRecord) → told_after before r ≡ told_among (all_ok before) r
unfolding told_after told_among
among-so before r = ap (λ (x : Result (List ℕ × Targets) Refusal). x >>= over_pair r) (base-so before r.base) ∙ over-so r (base_told (all_ok before) r.base)

each-so : (before : List Told) (rs : List TenantRecord) (all : List Told) → all_told before rs ≡ Ok all → each_told (all_ok before) rs ≡ all_ok all
unfolding all_told each_told
each-so before [] all e = ap all_ok (ok_is before all e)
each-so before (r ∷ rs) all e =
    let one = bind_ok (told_after before r) (λ told. all_told (before ++ told ∷ []) rs) all e in
    let this : told_among (all_ok before) r ≡ Ok one.0 = sym (among-so before r) ∙ one.1 in
    ap (λ (l : List (Result Told Refusal)). each_told l rs)
    (ap (λ (x : Result Told Refusal). all_ok before ++ x ∷ []) this ∙ sym (map_push (λ (t : Told). Ok t) before one.0))
    ∙ each-so (before ++ one.0 ∷ []) rs all one.2

at-so : (o : Option Told) → found_told (option_map (λ (t : Told). Ok t) o) ≡ found_one o
at-so None = refl
at-so (Some t) = refl

pub tells-so : (rs : List TenantRecord) (all : List Told) (n : ℕ) → all_told [] rs ≡ Ok all → tells rs n ≡ told_at all n
unfolding tells
tells-so rs all n e =
    ap (λ (l : List (Result Told Refusal)). found_told (slice_get l n)) (each-so [] rs all e)
    ∙ ap found_told (slice_get-map (λ (t : Told). Ok t) all n) ∙ at-so (slice_get all n)
