-- The refs of a tenant, made one after another from those of a file that passed its checks:
-- gitnamespaces(7).
use Rattle.std.specs.Prelude.{◌≡◌, ℕ, ◌<◌, List, [], ◌++◌, length, drop, fold, unwrap_or, slice_get}
use Rattle.git_model.specs.GoodRepository.{IsShortRefName}
use Rattle.git_model.specs.RefStore.{RefStore, with_ref}
use Rattle.pool_file_format.specs.Format.{RawRef}

-- A ref has a good name after the namespaces, and its place is below the count of objects.
pub record IsRefIn (front : List ℕ) (count : ℕ) (r : RawRef) : Type 0 where
  pub ref : List ℕ
  pub full : r.name ≡ front ++ ref
  pub name : IsShortRefName ref
  pub within : r.place < count

-- The name of a ref without the namespaces, and the name of the object at its place.
abbrev pub entry_in : List ℕ → List (List ℕ) → RawRef → List ℕ × List ℕ
entry_in front ids r = (drop (length front) r.name, unwrap_or (slice_get ids r.place) [])

-- A store with more refs set, one after another.
unfoldable pub with_refs : RefStore → List (List ℕ × List ℕ) → RefStore
with_refs store entries = fold (λ now e. with_ref now e.0 e.1) store entries
