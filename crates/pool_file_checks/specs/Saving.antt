-- Which repositories have a file.
use Rattle.std.specs.Prelude.{◌≡◌, ◌≢◌, ◌⊎◌, ℕ, List, [], map, All, None}
use Rattle.git_model.specs.RefStore.{first_head}
use Rattle.git_model.specs.Repository.{Repository}
use Rattle.git_model.specs.GoodRepository.{AreObjects, AreRefs}
use Rattle.pool_file_format.specs.Format.{FitsFile}
use Rattle.pool_file_checks.specs.Tenants.{IsNameIn}
use Rattle.pool_file_checks.specs.FileRefs.{AreRising}
use Rattle.pool_file_checks.specs.Sums.{TreesFit}
use Rattle.pool_file_checks.specs.Repositories.{Named, raw_of, text_in}

-- A repository is good, and its trees are within the limits.
pub record IsGood (digest : List ℕ → List ℕ) (r : Repository) : Type 0 where
  pub objects : AreObjects digest r.objects
  pub trees : TreesFit [] r.objects
  pub refs : AreRefs r.objects r.refs

-- A good repository under a tenant's name. It has an object, or a HEAD other than
-- `refs/heads/main`; in version 1, HEAD names `refs/heads/main`.
pub record CanSaveOne (version : ℕ) (digest : List ℕ → List ℕ) (n : Named) : Type 0 where
  pub name : IsNameIn version n.tenant
  pub worth : (n.repository.objects ≢ []) ⊎ (n.repository.refs.head ≢ first_head)
  pub first : version ≡ 1 → n.repository.refs.head ≡ first_head
  pub good : IsGood digest n.repository

-- Names rise, each repository can be saved, the version is 1 or 2, and all counts fit their bytes.
pub record CanSave (version : ℕ) (digest : List ℕ → List ℕ) (all : List Named) : Type 0 where
  pub rising : AreRising None (map (λ n. n.tenant) all)
  pub each : All (CanSaveOne version digest) all
  pub fits : FitsFile (raw_of version all)

-- The bytes are a text of these repositories, in version 2 or in version 1. Version 2 is written.
abbrev pub IsTextOf : (List ℕ → List ℕ) → List Named → List ℕ → Type 0
IsTextOf digest all bytes = (CanSave 2 digest all × (bytes ≡ text_in 2 digest all))
    ⊎ (CanSave 1 digest all × (bytes ≡ text_in 1 digest all))
