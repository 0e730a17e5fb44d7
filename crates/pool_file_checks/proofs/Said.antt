-- What a good file says are repositories that have this file.
use Rattle.std.proofs.Common.{◌≡◌, ℕ, ◌<◌, List, [], ◌∷◌, map, length, None, refl, sym, ap, subst, ◌∙◌, inl, inr}
use Rattle.std.specs.Prelude.{All}
use Rattle.std.proofs.lemmas.List.{length-map}
use Rattle.git_model.specs.Content.{Content}
use Rattle.pool_file_format.specs.Format.{RawObject, RawTenant, RawFile}
use Rattle.pool_file_checks.specs.Checks.{Passes}
use Rattle.pool_file_checks.specs.Objects.{raw_object, object_checks}
use Rattle.pool_file_checks.specs.Own.{content_of, names_of}
use Rattle.pool_file_checks.specs.Whole.{file_checks}
use Rattle.pool_file_checks.specs.Repositories.{Named, listed_contents, raw_ref, raw_tenant, raw_of}
use Rattle.pool_file_checks.specs.Saved.{named_at, saved_in}
use Rattle.pool_file_checks.proofs.Members.{Has}
use Rattle.pool_file_checks.proofs.Passing.{Holds, each_holds, holds_all}
use Rattle.pool_file_checks.proofs.FileContents.{contents_in, objects_again, sorted_objects, listed_again}
use Rattle.pool_file_checks.proofs.OwnObjects.{numbers_again, own_distinct, own_length}
use Rattle.pool_file_checks.proofs.FileRefLemmas.{entries_are, refs_again}

tenant_again : (digest : List ℕ → List ℕ) (version : ℕ) (os : List RawObject) (t : RawTenant)
    → Passes (object_checks None os) → Holds digest version os t
    → raw_tenant (contents_in os) (named_at digest os t) ≡ t
tenant_again digest version os t p h =
    let n : Named = named_at digest os t in
    let numbers = numbers_again os (names_of digest os) t.numbers (sorted_objects os p)
    (length-map os content_of) h.numbers in
    let places : All (λ r. r.place < length n.repository.objects) t.refs =
    subst (λ (k : ℕ). All (λ r. r.place < k) t.refs) (sym (own_length digest os t.numbers)) h.places in
    let refs = ap (λ es. map (raw_ref n) es)
    (entries_are os t.numbers t.name n.repository.objects t.refs h.refs h.rising t.head)
    ∙ refs_again os t.numbers n t.refs h.refs (own_distinct digest os t.numbers h.distinct) places in
    λ i. record { name = t.name; numbers = numbers i; refs = refs i; head = t.head }

tenants_again : (digest : List ℕ → List ℕ) (version : ℕ) (os : List RawObject)
    (ts : List RawTenant) → Passes (object_checks None os)
    → ((t : RawTenant) → Has ts t → Holds digest version os t)
    → map (raw_tenant (contents_in os)) (map (named_at digest os) ts) ≡ ts
tenants_again digest version os [] p each = refl
tenants_again digest version os (t ∷ ts) p each =
    let one = tenant_again digest version os t p (each t (inl refl)) in
    let rest = tenants_again digest version os ts p (λ x h. each x (inr h)) in
    λ i. one i ∷ rest i

pub file_again : (digest : List ℕ → List ℕ) (f : RawFile) → Passes (file_checks digest f)
    → raw_of f.version (saved_in digest f) ≡ f
unfolding raw_of saved_in
file_again digest f p =
    let h = holds_all digest f p in
    let listed : listed_contents (map (named_at digest f.objects) f.tenants)
    ≡ contents_in f.objects = listed_again digest f h in
    let objects = ap (λ (cs : List Content). map raw_object cs) listed
    ∙ objects_again None f.objects h.objects in
    let tenants =
    ap (λ (cs : List Content). map (raw_tenant cs) (map (named_at digest f.objects) f.tenants)) listed
    ∙ tenants_again digest f.version f.objects f.tenants h.objects
    (λ t has. each_holds digest f.version f.objects None f.tenants t h.tenants has) in
    λ i. record { version = f.version; objects = objects i; tenants = tenants i }
