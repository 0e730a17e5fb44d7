-- Checks of a whole file, one call after another.
use Rattle.std.proofs.Common.{◌≡◌, ℕ, ◌<◌, List, [], ◌∷◌, ◌++◌, length, get_or, Option, None, Some, Result, Ok, Err, sym, ap, subst, ◌∙◌, arith}
use Rattle.std.specs.Prelude.{All}
use Rattle.std.proofs.lemmas.List.{length-map}
use Rattle.std.proofs.lemmas.List.Elements.{All-nil, All-cons}
use Rattle.std.specs.List.{IsDistinct}
use Rattle.pool_file_format.specs.declared.raw.RawObject.{RawObject as Read}
use Rattle.pool_file_format.specs.declared.raw.RawTenant.{RawTenant as Tenant}
use Rattle.pool_file_format.specs.declared.refusal.Refusal.TheVariants as refusal
use Rattle.pool_file_format.specs.declared.fault.Fault.{Fault}
use Rattle.pool_file_format.specs.declared.fault.Fault.TheVariants as fault
use Rattle.pool_file_format.specs.Format.{RawObject, RawTenant}
use Rattle.pool_file_format.specs.Shown.{object_of, objects_of, tenants_of}
use Rattle.pool_file_checks.specs.Checks.{Checks, Passes, Checked}
use Rattle.pool_file_checks.specs.Objects.{object_key, CanStore, object_checks}
use Rattle.pool_file_checks.specs.Own.{names_of, Rows, rows_of, objects_in, own_objects, AreDistinct}
use Rattle.pool_file_checks.specs.Indexing.{Indexes}
use Rattle.pool_file_checks.specs.Connecting.{AreConnected}
use Rattle.pool_file_checks.specs.Sums.{TreesFit}
use Rattle.pool_file_checks.specs.Tenants.{name_checks, number_checks}
use Rattle.pool_file_checks.specs.FileRefs.{ref_checks}
use Rattle.pool_file_checks.specs.Held.{held_checks}
use Rattle.pool_file_checks.specs.Whole.{own_checks, one_tenant_checks, tenant_checks}
use Rattle.pool_file_checks.proofs.CheckLemmas.{Leads, leads_same, leads_front, stops}

-- ---- checks after others

-- Those in front refuse, or memory ran out there.
pub front_stops : (front rest : Checks) (e : Fault) → Checked front (Err e) → Checked (front ++ rest) (Err e)
front_stops front rest e p = stops front rest (front ++ rest) e (leads_same (front ++ rest)) p

-- Those in front hold, and the others decide.
pub front_passes : (front rest : Checks) (r : Result Unit Fault) → Passes front → Checked rest r → Checked (front ++ rest) r
front_passes front rest (Ok u) p q = (leads_front front rest (front ++ rest) (leads_same (front ++ rest)) p).passes q
front_passes front rest (Err (fault.Refused s)) p q = (leads_front front rest (front ++ rest) (leads_same (front ++ rest)) p).refuses s q
front_passes front rest (Err fault.Memory) p q = tt
front_passes front rest (Err fault.Device) p q = absurd q

-- ---- objects that are judged can be stored

pub all_stored : (last : Option (List ℕ)) (os : List RawObject) → Passes (object_checks last os) → All CanStore os
all_stored last [] p = All-nil CanStore
all_stored last (o ∷ os) p = All-cons CanStore o os p.0 (all_stored (Some (object_key o)) os p.1.1)

-- ---- the objects of a tenant

pub within_names : (digest : List ℕ → List ℕ) (xs : List Read) (names : List (List ℕ)) (numbers : List ℕ)
    → names ≡ names_of digest (objects_of xs) → All (λ n. n < length xs) numbers → All (λ n. n < length names) numbers
within_names digest xs names numbers same h i d l =
    let sizes : length names ≡ length xs = ap (λ (ns : List (List ℕ)). length ns) same ∙ length-map (objects_of xs) _ ∙ length-map xs object_of in
    subst (λ (k : ℕ). get_or numbers i d < k) (sym sizes) (h i d l)

-- An index: what is asked of its objects is asked of the tenant's.
pub record IsOwn (digest : List ℕ → List ℕ) (os : List RawObject) (numbers : List ℕ) (rows : Rows) : Type 0 where
  pub distinct : AreDistinct (rows_of (names_of digest os) numbers)
  pub objects : objects_in os rows ≡ own_objects digest os numbers

pub indexed : (digest : List ℕ → List ℕ) (os : List RawObject) (names : List (List ℕ)) (numbers : List ℕ) (rows : Rows)
    → names ≡ names_of digest os → Indexes (rows_of names numbers) (Ok rows) → IsOwn digest os numbers rows
indexed digest os names numbers rows same h =
    let all : rows ≡ rows_of (names_of digest os) numbers = h.0 ∙ (let p = same in λ j. rows_of (p j) numbers) in record {
      distinct = subst (λ (ns : List (List ℕ)). AreDistinct (rows_of ns numbers)) same h.1;
      objects = λ j. objects_in os (all j);
    }

pub not_connected : (digest : List ℕ → List ℕ) (os : List RawObject) (numbers : List ℕ) (rows : Rows) (e : Fault) → IsOwn digest os numbers rows
    → Checked ((AreConnected (objects_in os rows), refusal.MissingReference) ∷ []) (Err e) → Checked (own_checks digest os numbers) (Err e)
not_connected digest os numbers rows e own h =
    let front : Checks = (AreDistinct (rows_of (names_of digest os) numbers), refusal.NotCanonical) ∷ [] in
    let fit : Checks = (TreesFit [] (own_objects digest os numbers), refusal.BadObject) ∷ [] in
    front_passes front ((AreConnected (own_objects digest os numbers), refusal.MissingReference) ∷ fit) (Err e) (own.distinct, tt)
    (front_stops ((AreConnected (own_objects digest os numbers), refusal.MissingReference) ∷ []) fit e
    (let same = own.objects in subst (λ xs. Checked ((AreConnected xs, refusal.MissingReference) ∷ []) (Err e)) same h))

pub connected : (digest : List ℕ → List ℕ) (os : List RawObject) (numbers : List ℕ) (rows : Rows) (r : Result Unit Fault) → IsOwn digest os numbers rows
    → Checked ((AreConnected (objects_in os rows), refusal.MissingReference) ∷ []) (Ok tt)
    → Checked ((TreesFit [] (objects_in os rows), refusal.BadObject) ∷ []) r → Checked (own_checks digest os numbers) r
connected digest os numbers rows r own h k =
    let front : Checks = (AreDistinct (rows_of (names_of digest os) numbers), refusal.NotCanonical)
    ∷ (AreConnected (own_objects digest os numbers), refusal.MissingReference) ∷ [] in
    let fit : Checks = (TreesFit [] (own_objects digest os numbers), refusal.BadObject) ∷ [] in
    front_passes front fit r (own.distinct, (subst AreConnected own.objects h.0, tt))
    (subst (λ xs. Checked ((TreesFit [] xs, refusal.BadObject) ∷ []) r) own.objects k)

-- ---- one tenant

-- Its name is refused, or its numbers are.
pub name_stops : (digest : List ℕ → List ℕ) (version : ℕ) (os : List RawObject) (last : Option (List ℕ)) (t : RawTenant) (e : Fault)
    → Checked (name_checks version last t) (Err e) → Checked (one_tenant_checks digest version os last t) (Err e)
name_stops digest version os last t e p =
    front_stops (name_checks version last t) (number_checks (length os) t ++ (own_checks digest os t.numbers ++ ref_checks os t)) e p

pub numbers_stop : (digest : List ℕ → List ℕ) (version : ℕ) (xs : List Read) (last : Option (List ℕ)) (t : RawTenant) (e : Fault)
    → Checked (name_checks version last t) (Ok tt) → Checked (number_checks (length xs) t) (Err e)
    → Checked (one_tenant_checks digest version (objects_of xs) last t) (Err e)
numbers_stop digest version xs last t e name p =
    let os = objects_of xs in
    front_passes (name_checks version last t) (number_checks (length os) t ++ (own_checks digest os t.numbers ++ ref_checks os t)) (Err e) name
    (front_stops (number_checks (length os) t) (own_checks digest os t.numbers ++ ref_checks os t) e
    (subst (λ (n : ℕ). Checked (number_checks n t) (Err e)) (sym (length-map xs object_of)) p))

-- Its name and its numbers are judged.
pub record IsCounted (version : ℕ) (xs : List Read) (last : Option (List ℕ)) (t : RawTenant) : Type 0 where
  pub name : Passes (name_checks version last t)
  pub numbers : Passes (number_checks (length (objects_of xs)) t)

pub counted : (version : ℕ) (xs : List Read) (last : Option (List ℕ)) (t : RawTenant)
    → Passes (name_checks version last t) → Passes (number_checks (length xs) t) → IsCounted version xs last t
counted version xs last t p q = record {
  name = p;
  numbers = subst (λ (n : ℕ). Passes (number_checks n t)) (sym (length-map xs object_of)) q;
}

pub own_stops : (digest : List ℕ → List ℕ) (version : ℕ) (xs : List Read) (last : Option (List ℕ)) (t : RawTenant) (e : Fault) → IsCounted version xs last t
    → Checked (own_checks digest (objects_of xs) t.numbers) (Err e) → Checked (one_tenant_checks digest version (objects_of xs) last t) (Err e)
own_stops digest version xs last t e p h =
    let refs : Checks = ref_checks (objects_of xs) t in
    let own : Checks = own_checks digest (objects_of xs) t.numbers in
    let numbers : Checks = number_checks (length (objects_of xs)) t in
    front_passes (name_checks version last t) (numbers ++ (own ++ refs)) (Err e) p.name
    (front_passes numbers (own ++ refs) (Err e) p.numbers (front_stops own refs e h))

pub refs_decide : (digest : List ℕ → List ℕ) (version : ℕ) (xs : List Read) (last : Option (List ℕ)) (t : RawTenant) (r : Result Unit Fault) → IsCounted version xs last t
    → Passes (own_checks digest (objects_of xs) t.numbers) → Checked (ref_checks (objects_of xs) t) r → Checked (one_tenant_checks digest version (objects_of xs) last t) r
refs_decide digest version xs last t r p q h =
    let refs : Checks = ref_checks (objects_of xs) t in
    let own : Checks = own_checks digest (objects_of xs) t.numbers in
    let numbers : Checks = number_checks (length (objects_of xs)) t in
    front_passes (name_checks version last t) (numbers ++ (own ++ refs)) r p.name
    (front_passes numbers (own ++ refs) r p.numbers (front_passes own refs r q h))

-- what a tenant's own objects are judged by
pub own_passed : (digest : List ℕ → List ℕ) (version : ℕ) (os : List RawObject) (last : Option (List ℕ)) (t : RawTenant)
    → Passes (one_tenant_checks digest version os last t) → Passes (own_checks digest os t.numbers)
own_passed digest version os last t p = let q = p.1.1.1.1.1.1 in (q.0, (q.1.0, (q.1.1.0, tt)))

-- no objects pass
pub none_judged : (digest : List ℕ → List ℕ) (os : List RawObject) → Passes (own_checks digest os [])
unfolding objects_in IsDistinct
none_judged digest os = (tt, ((λ i l. absurd (omega (arith, l))), (tt, tt)))

-- ---- tenants in turn

pub tenant_on : (digest : List ℕ → List ℕ) (version : ℕ) (os : List RawObject) (last : Option (List ℕ)) (t : RawTenant) (ts : List RawTenant) (whole : Checks)
    → Leads (tenant_checks digest version os last (t ∷ ts)) whole → Checked (one_tenant_checks digest version os last t) (Ok tt)
    → Leads (tenant_checks digest version os (Some t.name) ts) whole
tenant_on digest version os last t ts whole l p =
    leads_front (one_tenant_checks digest version os last t) (tenant_checks digest version os (Some t.name) ts) whole l p

pub tenant_stops : (digest : List ℕ → List ℕ) (version : ℕ) (os : List RawObject) (last : Option (List ℕ)) (t : RawTenant) (ts : List RawTenant) (whole : Checks) (e : Fault)
    → Leads (tenant_checks digest version os last (t ∷ ts)) whole → Checked (one_tenant_checks digest version os last t) (Err e) → Checked whole (Err e)
tenant_stops digest version os last t ts whole e l p =
    stops (one_tenant_checks digest version os last t) (tenant_checks digest version os (Some t.name) ts) whole e l p

-- ---- the file

pub tenants_stop : (digest : List ℕ → List ℕ) (version : ℕ) (xs : List Read) (ts : List Tenant) (e : Fault) → Passes (object_checks None (objects_of xs))
    → Checked (tenant_checks digest version (objects_of xs) None (tenants_of ts)) (Err e)
    → Checked (object_checks None (objects_of xs) ++ (tenant_checks digest version (objects_of xs) None (tenants_of ts) ++ held_checks (length (objects_of xs)) (tenants_of ts))) (Err e)
tenants_stop digest version xs ts e p h =
    let tenants : Checks = tenant_checks digest version (objects_of xs) None (tenants_of ts) in
    let held : Checks = held_checks (length (objects_of xs)) (tenants_of ts) in
    front_passes (object_checks None (objects_of xs)) (tenants ++ held) (Err e) p (front_stops tenants held e h)

pub held_decides : (digest : List ℕ → List ℕ) (version : ℕ) (xs : List Read) (ts : List Tenant) (r : Result Unit Fault) → Passes (object_checks None (objects_of xs))
    → Passes (tenant_checks digest version (objects_of xs) None (tenants_of ts)) → Checked (held_checks (length xs) (tenants_of ts)) r
    → Checked (object_checks None (objects_of xs) ++ (tenant_checks digest version (objects_of xs) None (tenants_of ts) ++ held_checks (length (objects_of xs)) (tenants_of ts))) r
held_decides digest version xs ts r p q h =
    let tenants : Checks = tenant_checks digest version (objects_of xs) None (tenants_of ts) in
    let held : Checks = held_checks (length (objects_of xs)) (tenants_of ts) in
    front_passes (object_checks None (objects_of xs)) (tenants ++ held) r p
    (front_passes tenants held r q (subst (λ (n : ℕ). Checked (held_checks n (tenants_of ts)) r) (sym (length-map xs object_of)) h))
