-- What records tell, one on the other.
use Rattle.std.proofs.Common.{◌≡◌, ℕ, zero, suc, ◌+◌, ◌≤◌, ◌<◌, List, [], ◌∷◌, ◌++◌, length, map, take, drop, get_or, Option, None, Some, Result, Ok, Err, refl, sym, ap, subst, ◌∙◌, append_assoc, append-nil, arith}
use Rattle.std.specs.Prelude.{slice_get, option_to_list, option_map}
use Rattle.std.specs.Borrow.{Bor}
use Rattle.std.proofs.lemmas.List.{map_push}
use Rattle.std.proofs.lemmas.Option.{slice_get-map, slice_get_read, slice_get_past}
use Rattle.pool_file_format.specs.declared.refusal.Refusal.{Refusal}
use Rattle.pool_file_format.specs.declared.refusal.Refusal.TheVariants as refusal
use Rattle.pool_file_format.specs.declared.fault.Fault.{Fault}
use Rattle.pool_file_format.specs.declared.fault.Fault.TheVariants as fault
use Rattle.pool_file_format.specs.Lengths.{◌>>=◌}
use Rattle.pool_file_format.specs.Taking.{Fails}
use Rattle.store_format.specs.declared.tenant_record.TenantRecord.{TenantRecord as CodeTenantRecord}
use Rattle.store_format.specs.Records.{TenantRecord}
use Rattle.store_format.specs.Saying.{Told}
use Rattle.store_format.specs.Shown.{record_of, records_of}
use Rattle.store_format.specs.Telling.{nothing_told, told_over, told_upon, found_told, base_told, told_among, each_told, tells}
use Rattle.store_format.specs.ShownTold.{lent_records_of}

abbrev Tellings : Type 0
Tellings = List (Result Told Refusal)

each-append : (before : Tellings) (rs more : List TenantRecord) → each_told before (rs ++ more) ≡ each_told (each_told before rs) more
unfolding each_told
each-append before [] more = refl
each-append before (r ∷ rs) more = each-append (before ++ told_among before r ∷ []) rs more

each-front : (before : Tellings) (rs : List TenantRecord) → (after : Tellings) × (each_told before rs ≡ before ++ after) × (length after ≡ length rs)
unfolding each_told
each-front before [] = ([], sym (append-nil before), refl)
each-front before (r ∷ rs) =
    let x = told_among before r in
    let rest = each-front (before ++ x ∷ []) rs in
    (x ∷ rest.0, rest.1 ∙ append_assoc before (x ∷ []) rest.0, ap suc rest.2)

pub each-length : (rs : List TenantRecord) → length (each_told [] rs) ≡ length rs
each-length rs = let all = each-front [] rs in ap (λ (l : Tellings). length l) all.1 ∙ all.2

get-seam : {A : Type 0} (xs ys : List A) (y : A) → slice_get (xs ++ y ∷ ys) (length xs) ≡ Some y
get-seam [] ys y = refl
get-seam (x ∷ xs) ys y = get-seam xs ys y

-- A list, cut at an item.
cut : {A : Type 0} (xs : List A) (n : ℕ) (x : A) → slice_get xs n ≡ Some x → (xs ≡ take n xs ++ x ∷ drop (suc n) xs) × (length (take n xs) ≡ n)
cut [] n x e = absurd cc
cut (y ∷ ys) zero x e = (let same : y ≡ x = cc in ap (λ z. z ∷ ys) same, refl)
cut (y ∷ ys) (suc n) x e = let rest = cut ys n x e in (ap (λ l. y ∷ l) rest.0, ap suc rest.1)

-- A record tells what it tells among those before it.
pub tells-there : (rs : List TenantRecord) (n : ℕ) (r : TenantRecord) → slice_get rs n ≡ Some r → tells rs n ≡ told_among (each_told [] (take n rs)) r
unfolding tells each_told
tells-there rs n r e =
    let parts = cut rs n r e in
    let front = each_told [] (take n rs) in
    let x = told_among front r in
    let rest = each-front (front ++ x ∷ []) (drop (suc n) rs) in
    let place : length front ≡ n = each-length (take n rs) ∙ parts.1 in
    let all : each_told [] rs ≡ front ++ (x ∷ rest.0) = ap (each_told []) parts.0 ∙ each-append [] (take n rs) (r ∷ drop (suc n) rs) ∙ rest.1 ∙ append_assoc front (x ∷ []) rest.0 in
    ap (λ (l : Tellings). found_told (slice_get l n)) all
    ∙ ap (λ (k : ℕ). found_told (slice_get (front ++ (x ∷ rest.0)) k)) (sym place)
    ∙ ap found_told (get-seam front rest.0 x)

pub tells-none : (rs : List TenantRecord) (n : ℕ) → length rs ≤ n → tells rs n ≡ Err refusal.MissingReference
unfolding tells
tells-none rs n le = ap found_told (slice_get_past (each_told [] rs) n (omega (arith, le, each-length rs)))

-- ---- the path of a record

-- What a record stands on, if it stands on one.
abbrev pub stands : List TenantRecord → Option ℕ → Result Told Refusal
stands before None = Ok nothing_told
stands before (Some n) = tells before n

stands-base : (before : List TenantRecord) (b : Option ℕ) → base_told (each_told [] before) b ≡ stands before b
unfolding tells
stands-base before None = refl
stands-base before (Some n) = refl

upon-push : (base : Result Told Refusal) (path : List TenantRecord) (r : TenantRecord) → told_upon base (path ++ r ∷ []) ≡ told_upon (base >>= λ b. told_over b r) path
upon-push base [] r = refl
upon-push base (p ∷ path) r = ap (λ (t : Result Told Refusal). t >>= λ b. told_over b p) (upon-push base path r)

upon-err : (e : Refusal) (path : List TenantRecord) → told_upon (Err e) path ≡ Err e
upon-err e [] = refl
upon-err e (p ∷ path) = ap (λ (t : Result Told Refusal). t >>= λ b. told_over b p) (upon-err e path)

abbrev Lent : Type 0
Lent = Bor CodeTenantRecord

lent-push : (path : List Lent) (r : Lent) → lent_records_of (path ++ r ∷ []) ≡ lent_records_of path ++ record_of r.now ∷ []
lent-push path r = map_push (λ (x : Lent). record_of x.now) path r

records-take : (n : ℕ) (rs : List CodeTenantRecord) → records_of (take n rs) ≡ take n (records_of rs)
records-take zero rs = refl
records-take (suc n) [] = refl
records-take (suc n) (r ∷ rs) = ap (λ (l : List TenantRecord). record_of r ∷ l) (records-take n rs)

records-length : (rs : List CodeTenantRecord) → length (records_of rs) ≡ length rs
records-length [] = refl
records-length (r ∷ rs) = ap suc (records-length rs)

-- One record more on the path.
pub path_on : (path new : List Lent) (before : List CodeTenantRecord) (n : ℕ) (r : Lent) (told : Result Told Refusal) → n < length before → r.now ≡ get_or before n r.now
    → new ≡ path ++ r ∷ [] → told_upon (stands (records_of before) (Some n)) (lent_records_of path) ≡ told
    → told_upon (stands (records_of (take n before)) (record_of r.now).base) (lent_records_of new) ≡ told
unfolding told_among
path_on path new before n r told lt is pushed so_far =
    let there : slice_get (records_of before) n ≡ Some (record_of r.now) = slice_get-map record_of before n ∙ ap (λ (o : Option CodeTenantRecord). option_map record_of o) (slice_get_read before (length before) n r.now refl lt is) in
    let one : tells (records_of before) n ≡ stands (records_of (take n before)) (record_of r.now).base >>= (λ b. told_over b (record_of r.now))
    = tells-there (records_of before) n (record_of r.now) there
    ∙ ap (λ (t : Result Told Refusal). t >>= λ b. told_over b (record_of r.now))
    (stands-base (take n (records_of before)) (record_of r.now).base ∙ ap (λ (l : List TenantRecord). stands l (record_of r.now).base) (sym (records-take n before))) in
    ap (λ (l : List TenantRecord). told_upon (stands (records_of (take n before)) (record_of r.now).base) l) (ap lent_records_of pushed ∙ lent-push path r)
    ∙ upon-push (stands (records_of (take n before)) (record_of r.now).base) (lent_records_of path) (record_of r.now)
    ∙ ap (λ (t : Result Told Refusal). told_upon t (lent_records_of path)) (sym one) ∙ so_far

-- A record that is not there.
pub path_fails : (path : List Lent) (before : List CodeTenantRecord) (n : ℕ) (told : Result Told Refusal) → length before ≤ n
    → told_upon (stands (records_of before) (Some n)) (lent_records_of path) ≡ told → told ≡ Err refusal.MissingReference
path_fails path before n told le so_far =
    let none : tells (records_of before) n ≡ Err refusal.MissingReference = tells-none (records_of before) n (omega (arith, le, records-length before)) in
    sym so_far ∙ ap (λ (t : Result Told Refusal). told_upon t (lent_records_of path)) none ∙ upon-err refusal.MissingReference (lent_records_of path)

-- ---- the way back

-- The last record of the path is told.
last-told : (base : Told) (path left : List Lent) (o : Option Lent) (r : Lent) → path ≡ left ++ option_to_list o → o ≡ Some r
    → told_upon (Ok base) (lent_records_of path) ≡ told_upon (told_over base (record_of r.now)) (lent_records_of left)
last-told base path left o r popped is =
    ap (λ (l : List Lent). told_upon (Ok base) (lent_records_of l)) (popped ∙ ap (λ (x : Option Lent). left ++ option_to_list x) is)
    ∙ ap (told_upon (Ok base)) (lent-push left r) ∙ upon-push (Ok base) (lent_records_of left) (record_of r.now)

pub told_on : (base after : Told) (path left : List Lent) (o : Option Lent) (r : Lent) (told : Result Told Refusal) → path ≡ left ++ option_to_list o → o ≡ Some r
    → told_over base (record_of r.now) ≡ Ok after → told_upon (Ok base) (lent_records_of path) ≡ told → told_upon (Ok after) (lent_records_of left) ≡ told
told_on base after path left o r told popped is over so_far =
    ap (λ (t : Result Told Refusal). told_upon t (lent_records_of left)) (sym over) ∙ sym (last-told base path left o r popped is) ∙ so_far

pub told_fails : (base : Told) (e : Fault) (path left : List Lent) (o : Option Lent) (r : Lent) (told : Result Told Refusal) → path ≡ left ++ option_to_list o → o ≡ Some r
    → Fails e (told_over base (record_of r.now)) → told_upon (Ok base) (lent_records_of path) ≡ told → Fails e told
told_fails base fault.Memory path left o r told popped is over so_far = tt
told_fails base fault.Device path left o r told popped is over so_far = tt
told_fails base (fault.Refused d) path left o r told popped is over so_far =
    sym so_far ∙ last-told base path left o r popped is ∙ ap (λ (t : Result Told Refusal). told_upon t (lent_records_of left)) over ∙ upon-err d (lent_records_of left)

pub told_end : (base : Told) (path left : List Lent) (o : Option Lent) (told : Result Told Refusal) → path ≡ left ++ option_to_list o → o ≡ None → length path ≡ 0
    → told_upon (Ok base) (lent_records_of path) ≡ told → told ≡ Ok base
told_end base [] left o told popped is none so_far = sym so_far
told_end base (p ∷ path) left o told popped is none so_far = absurd (omega (arith, none))
