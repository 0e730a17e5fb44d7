-- A whole file in which all is good, as a quick look finds it.
use Rattle.std.proofs.Common.{◌≡◌, ℕ, ◌<◌, List, [], ◌∷◌, ◌++◌, length, map, get_or, Option, None, Some, Result, Ok, Err, sym, ap, subst, ◌∙◌, arith}
use Rattle.std.specs.Prelude.{All, OnOk}
use Rattle.std.proofs.lemmas.List.{get_or-map, get_or_default, length-map}
use Rattle.std.proofs.lemmas.List.Elements.{All-nil, All-head, All-tail, All-append, All-contains}
use Rattle.git_model.specs.declared.kind.Kind.{Kind}
use Rattle.git_model.specs.Repository.{Object}
use Rattle.git_model.specs.References.{object_at, no_object}
use Rattle.pool_file_format.specs.declared.raw.RawObject.{RawObject as Read}
use Rattle.pool_file_format.specs.declared.raw.RawTenant.{RawTenant as Tenant}
use Rattle.pool_file_format.specs.declared.fault.Fault.{Fault}
use Rattle.pool_file_format.specs.Format.{RawObject, RawTenant}
use Rattle.pool_file_format.specs.Shown.{object_of, objects_of, tenants_of}
use Rattle.pool_file_checks.specs.Checks.{Passes, Checked}
use Rattle.pool_file_checks.specs.FileRefs.{AreRising}
use Rattle.pool_file_checks.specs.Held.{AreHeld, numbers_of, held_checks}
use Rattle.pool_file_checks.specs.Objects.{kind_byte, IsContent, object_key, CanStore, object_checks}
use Rattle.pool_file_checks.specs.Own.{kind_of, content_of, content_at, names_of, row, rows_of, objects_in, own_objects, Rows}
use Rattle.pool_file_checks.specs.Quick.{AreFound, AreGood, HasKind}
use Rattle.pool_file_checks.specs.Whole.{tenant_checks}
use Rattle.pool_file_checks.proofs.CheckLemmas.{kind_again}
use Rattle.pool_file_checks.proofs.WholeLemmas.{IsOwn, none_judged, held_decides}

-- ---- kinds and order

pub has_kind : (o : RawObject) (k : Kind) → kind_byte k ≡ o.kind → HasKind o
has_kind o k e =
    ap (λ (n : ℕ). kind_byte (kind_of n)) (sym e) ∙ ap (λ (j : Kind). kind_byte j) (kind_again k) ∙ e

-- objects that rise and can be stored pass
pub risen_pass : (last : Option (List ℕ)) (os : List RawObject) → All CanStore os
    → AreRising last (map object_key os) → Passes (object_checks last os)
unfolding AreRising
risen_pass last [] all rising = tt
risen_pass last (o ∷ os) all rising =
    (All-head CanStore o os all, (rising.0, risen_pass (Some (object_key o)) os (All-tail CanStore o os all) rising.1))

-- ---- the objects of a tenant

content_of_own : (os : List RawObject) (names : List (List ℕ)) (numbers : List ℕ) (k d : ℕ) → k < length numbers
    → (object_at k (objects_in os (rows_of names numbers))).content ≡ content_at os (get_or numbers k d)
unfolding object_at objects_in
content_of_own os names numbers k d l =
    ap (λ (o : Object). o.content) (get_or-map _ (rows_of names numbers) k (row names d) no_object (rw length-map l))
    ∙ ap (λ (r : List ℕ × ℕ). content_at os r.1) (get_or-map (row names) numbers k d (row names d) l)

own_length : (os : List RawObject) (names : List (List ℕ)) (numbers : List ℕ)
    → length (objects_in os (rows_of names numbers)) ≡ length numbers
unfolding objects_in
own_length os names numbers = length-map (rows_of names numbers) _ ∙ length-map numbers (row names)

pub found_own : (digest : List ℕ → List ℕ) (os : List RawObject) (numbers : List ℕ) (rows : Rows) → IsOwn digest os numbers rows
    → AreGood (objects_in os rows) → AreFound digest os numbers
found_own digest os numbers rows own good =
    let all : AreGood (own_objects digest os numbers) = subst AreGood own.objects good in record {
      contents = λ k d l. subst IsContent (content_of_own os (names_of digest os) numbers k d l)
          (all.contents k (let size = own_length os (names_of digest os) numbers in omega (arith, size, l)));
      own = (own.distinct, (all.connected, (all.trees, tt)));
    }

pub none_found : (digest : List ℕ → List ℕ) (os : List RawObject) → AreFound digest os []
none_found digest os = record { contents = All-nil (λ (n : ℕ). IsContent (content_at os n)); own = none_judged digest os }

-- ---- tenants in turn

-- those that are left decide about all
pub contents_on : (os : List RawObject) (t : RawTenant) (ts : List RawTenant) (whole : Type 0)
    → (All (λ n. IsContent (content_at os n)) (numbers_of (t ∷ ts)) → whole)
    → All (λ n. IsContent (content_at os n)) t.numbers
    → All (λ n. IsContent (content_at os n)) (numbers_of ts) → whole
contents_on os t ts whole before here rest =
    before (All-append (λ (n : ℕ). IsContent (content_at os n)) t.numbers (numbers_of ts) here rest)

-- ---- the file

stored_one : (o : RawObject) → HasKind o → IsContent (content_of o) → CanStore o
stored_one o kind content =
    (content_of o, ap (λ (n : ℕ). record { kind = n; bytes = o.bytes }) (sym kind), content)

content_is_at : (os : List RawObject) (k : ℕ) (d : RawObject) → k < length os → content_at os k ≡ content_of (get_or os k d)
unfolding content_at
content_is_at os k d l = ap (λ (o : RawObject). content_of o) (get_or_default os k _ d l)

pub held_stored : (os : List RawObject) (numbers : List ℕ) → All HasKind os → All (λ n. IsContent (content_at os n)) numbers
    → AreHeld (length os) numbers → All CanStore os
held_stored os numbers kinds contents held = λ k d l.
    stored_one (get_or os k d) (kinds k d l)
    (subst IsContent (content_is_at os k d l) (All-contains (λ (n : ℕ). IsContent (content_at os n)) numbers k contents (held k l)))

-- no refusal of an object that no tenant has, so all hold
pub passed_file : (digest : List ℕ → List ℕ) (version : ℕ) (xs : List Read) (ts : List Tenant) (r : Result Unit Fault)
    → All HasKind (objects_of xs) → AreRising None (map object_key (objects_of xs))
    → Passes (tenant_checks digest version (objects_of xs) None (tenants_of ts))
    → All (λ n. IsContent (content_at (objects_of xs) n)) (numbers_of (tenants_of ts))
    → Checked (held_checks (length xs) (tenants_of ts)) r
    → OnOk r (Passes (object_checks None (objects_of xs) ++ (tenant_checks digest version (objects_of xs) None (tenants_of ts) ++ held_checks (length (objects_of xs)) (tenants_of ts))))
passed_file digest version xs ts (Err e) kinds rising tenants contents held = tt
passed_file digest version xs ts (Ok u) kinds rising tenants contents held =
    let all = subst (λ (n : ℕ). AreHeld n (numbers_of (tenants_of ts))) (sym (length-map xs object_of)) held.0 in
    let stored = held_stored (objects_of xs) (numbers_of (tenants_of ts)) kinds contents all in
    held_decides digest version xs ts (Ok tt) (risen_pass None (objects_of xs) stored rising) tenants held
