-- What a call answers and leaves.
use Rattle.std.specs.Prelude.{◌≡◌, ◌≢◌, List, ◌++◌, Result, Ok, Err}
use Rattle.git_model.specs.Results.{GivesOr}
use Rattle.git_model.specs.Repository.{Object}
use Rattle.content_pool.specs.Pool.{Cells}
use Rattle.tenant_tables.specs.Objects.{objects}
use Rattle.tenant_tables.specs.View.{View}
use Rattle.tree_build.specs.Branch.{Branch, IsBranch}
use Rattle.open_commits.specs.declared.fault.Fault.{Fault}
use Rattle.open_commits.specs.declared.fault.Fault.TheVariants as fault
use Rattle.open_commits.specs.OpenCommit.{OpenCommit}

-- A change leaves the commit that is wanted, or answers the refusal that is wanted and changes
-- nothing. `Memory` may take the place of either answer; the commit may then be anything.
abbrev pub Changes : Result OpenCommit Fault → OpenCommit → OpenCommit → Result Unit Fault → Type 0
Changes wanted old new (Ok u) = wanted ≡ Ok new
Changes wanted old new (Err e) = e ≢ fault.Memory → (wanted ≡ Err e) × (new ≡ old)

-- A call that stores objects answers and leaves what is wanted, or answers the refusal that is
-- wanted. `Memory` may take the place of either answer.
abbrev pub Gives : {A B : Type 0} → Result A Fault → (B → A) → Result B Fault → Type 0
Gives wanted left result = GivesOr fault.Memory left result wanted

-- Objects may have been added after those that were there, and none of them is committed. What was
-- a branch among the objects is one still.
pub record AddsOnly (before : Cells) (old : View) (after : Cells) (new : View) : Type 0 where
  pub branches : (b : Branch) → IsBranch (objects before old.entries) b
      → IsBranch (objects after new.entries) b
  pub more : List Object
  pub objects : objects after new.entries ≡ objects before old.entries ++ more
  pub committed : new.committed ≡ old.committed
