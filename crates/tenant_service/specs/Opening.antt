-- What a tenant had when its stream was opened, and that a stream leaves it in place: definitions
-- for the contracts of private functions. No public clause cites them.
use Rattle.std.specs.Prelude.{◌≡◌, ◌≤◌, ℕ, take}
use Rattle.git_model.specs.Repository.{Repository}
use Rattle.content_pool.specs.Pool.{Cells}
use Rattle.tenant_tables.specs.View.{View}
use Rattle.tenant_tables.specs.Objects.{objects}
use Rattle.tenant_service.specs.declared.opened.Opened.{Opened}
use Rattle.tenant_service.specs.declared.tenant.OpenStream.{OpenStream}
use Rattle.tenant_service.specs.declared.tenant.OpenStream.TheVariants as phase

-- The first so many objects of its table, and the refs of that time.
abbrev pub opened_in : Opened → Cells → View → Repository
opened_in opened pool table = record {
  objects = take opened.objects (objects pool table.entries);
  refs = opened.refs;
}

-- These objects are committed.
abbrev pub HasOpened : OpenStream → View → Type 0
HasOpened phase.Closed table = Unit {0}
HasOpened (phase.Running opened stream) table = opened.objects ≤ table.committed
HasOpened (phase.Dead opened code) table = opened.objects ≤ table.committed

-- The phase after a running stream died under this number.
abbrev pub dead_under : ℕ → OpenStream → OpenStream
dead_under code phase.Closed = phase.Closed
dead_under code (phase.Running opened stream) = phase.Dead opened code
dead_under code (phase.Dead opened before) = phase.Dead opened before

-- The objects of the last checkpoint stay: they are the same, and no fewer are committed.
pub record CommittedStay (before : Cells) (old : View) (after : Cells) (new : View) : Type 0 where
  pub same : (n : ℕ) → n ≤ old.committed
      → take n (objects after new.entries) ≡ take n (objects before old.entries)
  pub committed : old.committed ≤ new.committed
