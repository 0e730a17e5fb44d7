-- The stored trees of objects that a table has, said without the pool and the table.
use Rattle.std.proofs.Common.{◌≡◌, List, ℕ, refl, subst}
use Rattle.git_model.specs.Repository.{Object}
use Rattle.content_pool.specs.Pool.{Cells}
use Rattle.tenant_tables.specs.View.{Entries}
use Rattle.tenant_tables.specs.Objects.{objects}
use Rattle.tenant_tables.specs.IsBackedBy.{IsBackedBy, AreBacked}
use Rattle.file_maps.specs.PlainTrees.{HasSummary}
use Rattle.file_maps.specs.StoredAgain.{AreTreesGood}
use Rattle.file_maps.proofs.StandingGood as standing

-- the objects of a table that a pool backs
pub of_table : (digest : List ℕ → List ℕ) (pool : Cells) (entries : Entries)
    → IsBackedBy digest pool entries → AreBacked digest (objects pool entries)
of_table digest pool entries stands =
    record { pool = pool; entries = entries; stands = stands; same = refl }

pub trees-good : (digest : List ℕ → List ℕ) (os : List Object) → AreBacked digest os
    → AreTreesGood digest os (HasSummary os)
trees-good digest os backed =
    subst (λ (xs : List Object). AreTreesGood digest xs (HasSummary xs)) backed.same
    (standing.trees-good digest backed.pool backed.entries backed.stands)
