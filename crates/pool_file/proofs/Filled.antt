-- A pool with all tenants of a file, once the file's own holds are given up.
use Rattle.std.proofs.Common.{◌≡◌, ℕ, ◌+◌, ◌<◌, List, [], ◌∷◌, map, Option, None, Some, refl, sym, ap, subst, ◌∙◌, inl, inr, arith}
use Rattle.std.specs.Prelude.{All}
use Rattle.std.specs.List.{AllByRecursion}
use Rattle.git_names.specs.Naming.{AnswersNames}
use Rattle.content_pool.specs.Pool.{Cells, holds, content, IsLive}
use Rattle.pool_file_format.specs.Format.{RawObject, RawTenant, RawFile}
use Rattle.pool_file_checks.specs.Checks.{Passes}
use Rattle.pool_file_checks.specs.Objects.{object_checks}
use Rattle.pool_file_checks.specs.FileRefs.{AreRising}
use Rattle.pool_file_checks.specs.Whole.{file_checks}
use Rattle.pool_file_checks.specs.Repositories.{Named}
use Rattle.pool_file_checks.specs.Saved.{named_at, saved_in}
use Rattle.pool_file_checks.specs.Saving.{IsGood}
use Rattle.pool_file_checks.proofs.Members.{Has, from_map}
use Rattle.pool_file_checks.proofs.Passing.{holds_all, each_holds}
use Rattle.pool_file_checks.proofs.OwnGood.{own_good}
use Rattle.pool_file_checks.proofs.OwnRefs.{refs_good}
use Rattle.pool_file_checks.proofs.Savable.{names_rise}
use Rattle.pool_file.specs.declared.tenant.Tenant.{Tenant}
use Rattle.pool_file.specs.Loading.{named_in, loaded_repositories, all_held, IsTenant, AreTenants}
use Rattle.pool_file.specs.Building.{objects_at, times_in, IsChecked, IsBuilt, AreUnder, AddsTenants}
use Rattle.pool_file.proofs.Slots.{once_in}
use Rattle.pool_file.proofs.Built.{said-kept, each-kept, each_checked}

-- ---- before any tenant

pub none_under : (digest : List ℕ → List ℕ) (slots : List ℕ) (pool : Cells) (os : List RawObject)
    → objects_at pool slots ≡ os → Passes (object_checks None os)
    → ((s : ℕ) → holds pool s ≡ times_in slots s) → AreUnder digest slots pool []
none_under digest slots pool os stored p counts = record {
  once = once_in pool slots os stored p;
  counts = λ s. let a = counts s in omega arith;
  each = tt;
}

-- ---- after all tenants

pub record IsReleased (slots : List ℕ) (q z : Cells) : Type 0 where
  pub counts : (s : ℕ) → holds z s + times_in slots s ≡ holds q s
  pub contents : (s : ℕ) → IsLive z s → content z s ≡ content q s

pub released_again : (own slots : List ℕ) (q z : Cells) → own ≡ slots
    → ((s : ℕ) → holds z s + times_in own s ≡ holds q s)
    → ((s : ℕ) → IsLive z s → content z s ≡ content q s) → IsReleased slots q z
released_again own slots q z same counts contents =
    subst (λ (l : List ℕ). IsReleased l q z) same (record { counts = counts; contents = contents })

pub adds_again : {X : Type 0} (shown : X → RawTenant) (digest : List ℕ → List ℕ)
    (own slots : List ℕ) (p q : Cells) (old new : List Tenant) (xs all : List X) → own ≡ slots
    → old ≡ [] → xs ≡ all → AddsTenants digest own p old (map shown xs) q new
    → AddsTenants digest slots p [] (map shown all) q new
adds_again {X} shown digest own slots p q old new xs all same none is a =
    subst (λ (l : List ℕ). AddsTenants digest l p [] (map shown all) q new) same
    (subst (λ (l : List Tenant). AddsTenants digest own p l (map shown all) q new) none
    (subst (λ (l : List X). AddsTenants digest own p old (map shown l) q new) is a))

names_said : (pool : Cells) (ts : List Tenant)
    → map (λ n. n.tenant) (loaded_repositories pool ts) ≡ map (λ t. t.name) ts
unfolding loaded_repositories
names_said pool [] = refl
names_said pool (t ∷ ts) = ap (λ (l : List (List ℕ)). t.name ∷ l) (names_said pool ts)

each_good : (digest : List ℕ → List ℕ) (pool : Cells) (ts : List Tenant)
    → ((n : Named) → Has (loaded_repositories pool ts) n → IsGood digest n.repository)
    → AllByRecursion (IsBuilt digest pool) ts → AllByRecursion (IsTenant digest pool) ts
unfolding loaded_repositories
each_good digest pool [] good all = tt
each_good digest pool (t ∷ ts) good all = (
  record {
    name = all.0.name;
    stands = all.0.stands;
    committed = all.0.committed;
    good = good (named_in pool t) (inl refl);
  },
  each_good digest pool ts (λ n has. good n (inr has)) all.1,
)

module _ (digest : List ℕ → List ℕ) (f : RawFile) (names : AnswersNames digest)
    (p : Passes (file_checks digest f)) where
  good_said : (n : Named) → Has (map (named_at digest f.objects) f.tenants) n
      → IsGood digest n.repository
  good_said n has =
      let h = holds_all digest f p in
      let t = from_map (named_at digest f.objects) f.tenants n has in
      let one = each_holds digest f.version f.objects None f.tenants t.from h.tenants t.there in
      subst (λ (m : Named). IsGood digest m.repository) t.is (record {
        objects = own_good digest f.version f.objects t.from names h.objects one;
        trees = one.trees;
        refs = refs_good digest f.version f.objects t.from one;
      })

  pub all_checked : All (IsChecked digest f.objects) f.tenants
  all_checked =
      let h = holds_all digest f p in
      each_checked digest f.version f.objects None f.tenants h.objects h.tenants

  module _ (slots : List ℕ) (stored q z : Cells) (new : List Tenant)
      (objects : objects_at stored slots ≡ f.objects)
      (adds : AddsTenants digest slots stored [] f.tenants q new) (released : IsReleased slots q z) where
    counted : (s : ℕ) → holds z s ≡ all_held new s
    counted s = let a = adds.under.counts s in let b = released.counts s in omega arith

    kept : (s : ℕ) → 0 < all_held new s → content z s ≡ content q s
    kept s some = released.contents s (let a = counted s in omega arith)

    all_said : loaded_repositories z new ≡ map (named_at digest f.objects) f.tenants
    unfolding loaded_repositories
    all_said =
        said-kept q z new kept ∙ adds.says
        ∙ ap (λ (os : List RawObject). map (named_at digest os) f.tenants) objects

    pub filled : (loaded_repositories z new ≡ saved_in digest f) × AreTenants digest z new
    unfolding saved_in
    filled = (
      all_said,
      record {
        each = each_good digest z new
            (λ n has. good_said n (subst (λ (l : List Named). Has l n) all_said has))
            (each-kept q z digest new kept (λ s. let a = counted s in omega arith) adds.under.each);
        rising = subst (AreRising None)
            (ap (map (λ (n : Named). n.tenant)) (sym all_said) ∙ names_said z new)
            (names_rise digest f.version f.objects None f.tenants (holds_all digest f p).tenants);
        counts = counted;
      },
    )
