-- What is kept of objects that passed, for tenants whose objects begin alike.
use Rattle.std.specs.Prelude.{◌≡◌, ℕ, List, length}
use Rattle.pool_file_format.specs.Format.{RawObject}
use Rattle.pool_file_checks.specs.Own.{names_of, rows_of, objects_in, AreDistinct}
use Rattle.pool_file_checks.specs.Quick.{AreGoodFirst}
use Rattle.pool_file_checks.specs.declared.fronts.Front.{Front}

-- The index has the rows of the numbers, and all of the objects are good and have these summaries.
pub record IsFront (digest : List ℕ → List ℕ) (os : List RawObject) (front : Front) : Type 0 where
  pub rows : front.index.entries ≡ rows_of (names_of digest os) front.numbers.items
  pub distinct : AreDistinct front.index.entries
  pub all : length front.sums.items ≡ length front.index.entries
  pub good : AreGoodFirst (objects_in os front.index.entries) front.sums.items
