-- What is known of a file that passes its checks.
use Rattle.std.proofs.Common.{ℕ, ◌<◌, ◌≤◌, List, [], ◌∷◌, ◌++◌, map, length, Option, None, Some, subst, inl, inr}
use Rattle.std.specs.Prelude.{All}
use Rattle.git_model.specs.GoodRepository.{objects_limit, refs_limit, IsShortRefName}
use Rattle.tenant_refs.specs.FullName.{namespaces}
use Rattle.pool_file_format.specs.Format.{RawObject, RawTenant, RawFile}
use Rattle.pool_file_checks.specs.Checks.{Checks, Passes}
use Rattle.pool_file_checks.specs.Objects.{object_key, object_checks, CanStore, IsAfter}
use Rattle.pool_file_checks.specs.Own.{names_of, rows_of, own_objects, AreDistinct}
use Rattle.pool_file_checks.specs.Connecting.{AreConnected}
use Rattle.pool_file_checks.specs.Sums.{TreesFit}
use Rattle.pool_file_checks.specs.Tenants.{IsNameIn, IsWorthSaving}
use Rattle.pool_file_checks.specs.FileRefs.{IsGoodRef, AreRising}
use Rattle.pool_file_checks.specs.Held.{numbers_of, AreHeld, held_checks}
use Rattle.pool_file_checks.specs.Whole.{one_tenant_checks, tenant_checks, file_checks}
use Rattle.pool_file_checks.proofs.Members.{Has}
use Rattle.pool_file_checks.proofs.Rising.{rising_none, rising_more}

pub passes_both : (front rest : Checks) → Passes front → Passes rest → Passes (front ++ rest)
passes_both [] rest p q = q
passes_both (c ∷ cs) rest p q = (p.0, passes_both cs rest p.1 q)

pub passes_front : (front rest : Checks) → Passes (front ++ rest) → Passes front
passes_front [] rest p = tt
passes_front (c ∷ cs) rest p = (p.0, passes_front cs rest p.1)

pub passes_rest : (front rest : Checks) → Passes (front ++ rest) → Passes rest
passes_rest [] rest p = p
passes_rest (c ∷ cs) rest p = passes_rest cs rest p.1

-- ---- objects

pub objects_rise : (last : Option (List ℕ)) (os : List RawObject) → Passes (object_checks last os)
    → AreRising last (map object_key os)
objects_rise last [] p = rising_none last
objects_rise last (o ∷ os) p =
    rising_more last (object_key o) (map object_key os) p.1.0
    (objects_rise (Some (object_key o)) os p.1.1)

pub can_store : (last : Option (List ℕ)) (os : List RawObject) (o : RawObject)
    → Passes (object_checks last os) → Has os o → CanStore o
can_store last [] o p h = absurd h
can_store last (x ∷ xs) o p (inl e) = subst CanStore e p.0
can_store last (x ∷ xs) o p (inr h) = can_store (Some (object_key x)) xs o p.1.1 h

-- ---- tenants

-- All checks of one tenant, but for the order of names.
pub record Holds (digest : List ℕ → List ℕ) (version : ℕ) (os : List RawObject) (t : RawTenant) :
    Type 0 where
  pub name : IsNameIn version t.name
  pub worth : IsWorthSaving t
  pub numbers : All (λ n. n < length os) t.numbers
  pub few : length t.numbers ≤ objects_limit
  pub few_refs : length t.refs ≤ refs_limit
  pub distinct : AreDistinct (rows_of (names_of digest os) t.numbers)
  pub connected : AreConnected (own_objects digest os t.numbers)
  pub trees : TreesFit [] (own_objects digest os t.numbers)
  pub refs : All (IsGoodRef (namespaces t.name) os t.numbers) t.refs
  pub rising : AreRising None (map (λ r. r.name) t.refs)
  pub places : All (λ r. r.place < length t.numbers) t.refs
  pub head : IsShortRefName t.head

pub holds : (digest : List ℕ → List ℕ) (version : ℕ) (os : List RawObject)
    (last : Option (List ℕ)) (t : RawTenant) → Passes (one_tenant_checks digest version os last t)
    → Holds digest version os t
holds digest version os last t p =
    let numbers = p.1.1.1 in
    let own = numbers.1.1.1 in
    let refs = own.1.1.1 in
    record {
      name = p.0;
      worth = p.1.1.0;
      numbers = numbers.0;
      few = numbers.1.0;
      few_refs = numbers.1.1.0;
      distinct = own.0;
      connected = own.1.0;
      trees = own.1.1.0;
      refs = refs.0;
      rising = refs.1.0;
      places = refs.1.1.0;
      head = refs.1.1.1.0;
    }

pub passes_one : (digest : List ℕ → List ℕ) (version : ℕ) (os : List RawObject)
    (last : Option (List ℕ)) (t : RawTenant) → IsAfter last t.name
    → Holds digest version os t → Passes (one_tenant_checks digest version os last t)
passes_one digest version os last t after h = (
  h.name,
  (
    after,
    (
      h.worth,
      (
        h.numbers,
        (
          h.few,
          (
            h.few_refs,
            (h.distinct, (h.connected, (h.trees, (h.refs, (h.rising, (h.places, (h.head, tt))))))),
          ),
        ),
      ),
    ),
  ),
)

pub each_holds : (digest : List ℕ → List ℕ) (version : ℕ) (os : List RawObject)
    (last : Option (List ℕ)) (ts : List RawTenant) (t : RawTenant)
    → Passes (tenant_checks digest version os last ts) → Has ts t → Holds digest version os t
each_holds digest version os last [] t p h = absurd h
each_holds digest version os last (x ∷ xs) t p (inl e) =
    subst (Holds digest version os) e
    (holds digest version os last x (passes_front (one_tenant_checks digest version os last x)
    (tenant_checks digest version os (Some x.name) xs) p))
each_holds digest version os last (x ∷ xs) t p (inr h) =
    each_holds digest version os (Some x.name) xs t
    (passes_rest (one_tenant_checks digest version os last x)
    (tenant_checks digest version os (Some x.name) xs) p) h

-- ---- a file

pub record HoldsAll (digest : List ℕ → List ℕ) (f : RawFile) : Type 0 where
  pub objects : Passes (object_checks None f.objects)
  pub tenants : Passes (tenant_checks digest f.version f.objects None f.tenants)
  pub held : AreHeld (length f.objects) (numbers_of f.tenants)

pub holds_all : (digest : List ℕ → List ℕ) (f : RawFile) → Passes (file_checks digest f)
    → HoldsAll digest f
holds_all digest f p =
    let tenants = tenant_checks digest f.version f.objects None f.tenants in
    let held = held_checks (length f.objects) f.tenants in
    let rest = passes_rest (object_checks None f.objects) (tenants ++ held) p in
    record {
      objects = passes_front (object_checks None f.objects) (tenants ++ held) p;
      tenants = passes_front tenants held rest;
      held = (passes_rest tenants held rest).0;
    }

pub passes_all : (digest : List ℕ → List ℕ) (f : RawFile) → HoldsAll digest f
    → Passes (file_checks digest f)
passes_all digest f h =
    let tenants = tenant_checks digest f.version f.objects None f.tenants in
    let held = held_checks (length f.objects) f.tenants in
    passes_both (object_checks None f.objects) (tenants ++ held) h.objects
    (passes_both tenants held h.tenants (h.held, tt))
