-- What a good file says can be saved.
use Rattle.std.proofs.Common.{◌≡◌, ℕ, List, [], ◌∷◌, map, length, Option, None, Some, refl, sym, ap, subst, inl, inr, arith}
use Rattle.std.specs.List.{AllByRecursion}
use Rattle.git_names.specs.Naming.{AnswersNames}
use Rattle.git_model.specs.RefStore.{first_head}
use Rattle.pool_file_format.specs.Format.{RawObject, RawTenant, RawFile, FitsHead, FitsTenant, FitsFile}
use Rattle.pool_file_checks.specs.Checks.{Passes}
use Rattle.pool_file_checks.specs.Objects.{object_checks}
use Rattle.pool_file_checks.specs.Own.{own_objects}
use Rattle.pool_file_checks.specs.FileRefs.{AreRising}
use Rattle.pool_file_checks.specs.Whole.{one_tenant_checks, tenant_checks, file_checks}
use Rattle.pool_file_checks.specs.Repositories.{Named}
use Rattle.pool_file_checks.specs.Saved.{named_at, saved_in}
use Rattle.pool_file_checks.specs.Saving.{CanSaveOne, CanSave}
use Rattle.pool_file_checks.proofs.Members.{Has, from_map, all_from_has}
use Rattle.pool_file_checks.proofs.Rising.{rising_none, rising_more}
use Rattle.pool_file_checks.proofs.Passing.{passes_rest, Holds, each_holds, holds_all}
use Rattle.pool_file_checks.proofs.OwnObjects.{own_length}
use Rattle.pool_file_checks.proofs.OwnGood.{own_good}
use Rattle.pool_file_checks.proofs.OwnRefs.{refs_good}
use Rattle.pool_file_checks.proofs.Said.{file_again}

pub names_rise : (digest : List ℕ → List ℕ) (version : ℕ) (os : List RawObject)
    (last : Option (List ℕ)) (ts : List RawTenant)
    → Passes (tenant_checks digest version os last ts)
    → AreRising last (map (λ n. n.tenant) (map (named_at digest os) ts))
names_rise digest version os last [] p = rising_none last
names_rise digest version os last (t ∷ ts) p =
    rising_more last t.name (map (λ n. n.tenant) (map (named_at digest os) ts)) p.1.0
    (names_rise digest version os (Some t.name) ts
    (passes_rest (one_tenant_checks digest version os last t)
    (tenant_checks digest version os (Some t.name) ts) p))

fits_one : (version : ℕ) (ts : List RawTenant) (t : RawTenant)
    → AllByRecursion (FitsTenant version) ts → Has ts t → FitsTenant version t
fits_one version [] t all h = absurd h
fits_one version (x ∷ xs) t all (inl e) = subst (FitsTenant version) e all.0
fits_one version (x ∷ xs) t all (inr h) = fits_one version xs t all.1 h

first_is : (version : ℕ) (head : List ℕ) → FitsHead version head → version ≡ 1
    → head ≡ first_head
first_is version head fits e = subst (λ (v : ℕ). FitsHead v head) e fits

no_numbers : (digest : List ℕ → List ℕ) (os : List RawObject) (numbers : List ℕ)
    → own_objects digest os numbers ≡ [] → numbers ≡ []
no_numbers digest os [] e = refl
no_numbers digest os (n ∷ ns) e =
    absurd (let size = own_length digest os (n ∷ ns) in
    let none = ap (λ xs. length xs) e in omega (arith, size, none))

can_save_one : (digest : List ℕ → List ℕ) (version : ℕ) (os : List RawObject) (t : RawTenant)
    → AnswersNames digest → Passes (object_checks None os) → Holds digest version os t
    → FitsTenant version t → CanSaveOne version digest (named_at digest os t)
can_save_one digest version os t names p h fits = record {
  name = h.name;
  worth = elim h.worth [
    | inl some ↦ inl (λ none. some (no_numbers digest os t.numbers none))
    | inr head ↦ inr head
  ];
  first = first_is version t.head fits.head;
  good = record {
    objects = own_good digest version os t names p h;
    trees = h.trees;
    refs = refs_good digest version os t h;
  };
}

pub can_save : (digest : List ℕ → List ℕ) (f : RawFile) → AnswersNames digest → FitsFile f
    → Passes (file_checks digest f) → CanSave f.version digest (saved_in digest f)
unfolding saved_in
can_save digest f names fits p =
    let h = holds_all digest f p in
    let all : List Named = map (named_at digest f.objects) f.tenants in
    record {
      rising = names_rise digest f.version f.objects None f.tenants h.tenants;
      each = all_from_has (CanSaveOne f.version digest) all (λ n has.
          let t = from_map (named_at digest f.objects) f.tenants n has in
          let one = each_holds digest f.version f.objects None f.tenants t.from h.tenants t.there in
          subst (CanSaveOne f.version digest) t.is
          (can_save_one digest f.version f.objects t.from names h.objects one
          (fits_one f.version f.tenants t.from fits.tenants.1 t.there)));
      fits = subst FitsFile (sym (file_again digest f p)) fits;
    }
