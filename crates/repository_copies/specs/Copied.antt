-- A copy of a repository by places: git-fast-export(1), git-fast-import(1).
use Rattle.std.specs.Prelude.{◌≡◌, ℕ, ◌<◌, nat_eq, List, length, All}
use Rattle.std.specs.List.{IsDistinct}
use Rattle.git_model.specs.Repository.{Repository}
use Rattle.export_laws.specs.Copies.{CanBeCopied}
use Rattle.export_laws.specs.Order.{copied_objects, objects_at}

-- The objects at these places, each once and in this order, are those of a copy of the repository,
-- which can be copied.
pub record AreCopied (repository : Repository) (places : List ℕ) : Type 0 where
  pub within : All (λ p. p < length repository.objects) places
  pub once : IsDistinct nat_eq places
  pub objects : objects_at repository.objects places ≡ copied_objects repository
  pub can : CanBeCopied repository
