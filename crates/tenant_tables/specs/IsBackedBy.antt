-- How tables share a pool.
use Rattle.std.specs.Prelude.{◌≡◌, ℕ, ◌+◌, ◌<◌, ◌≤◌, List, All, length}
use Rattle.git_model.specs.Limits.{contents_limit}
use Rattle.git_model.specs.Content.{name_by}
use Rattle.git_model.specs.Repository.{Object}
use Rattle.content_pool.specs.Pool.{Cells, holds, content}
use Rattle.tenant_tables.specs.View.{Entries, held}
use Rattle.tenant_tables.specs.Objects.{objects}
use Rattle.tenant_tables.specs.Summed.{IsSummed}

-- A pool backs the entries of a table: each entry has the object name of the content in its slot,
-- no content is longer than a table takes, no slot has two entries, the pool counts a hold for each
-- entry, and the summaries are those of the trees.
pub record IsBackedBy (digest : List ℕ → List ℕ) (pool : Cells) (entries : Entries) : Type 0 where
  pub named : All (λ e. e.0 ≡ name_by digest (content pool e.1.slot)) entries
  pub short : All (λ e. length (content pool e.1.slot).bytes ≤ contents_limit) entries
  pub once : (s : ℕ) → held entries s ≤ 1
  pub counted : (s : ℕ) → held entries s ≤ holds pool s
  pub summed : IsSummed pool entries

-- Objects of a table that some pool backs.
pub record AreBacked (digest : List ℕ → List ℕ) (os : List Object) : Type 0 where
  pub pool : Cells
  pub entries : Entries
  pub stands : IsBackedBy digest pool entries
  pub same : objects pool entries ≡ os

-- A call changed the entries of a table from `old` to `new` and the pool from `before` to `after`,
-- and did nothing to others: the count of a slot changed only by the holds that this table took or
-- released, and a slot that someone else held at entry keeps its content.
pub record PreservesOthers (before : Cells) (old : Entries) (after : Cells)
    (new : Entries) : Type 0 where
  pub rest : (s : ℕ) → holds after s + held old s ≡ holds before s + held new s
  pub kept : (s : ℕ) → held old s < holds before s → content after s ≡ content before s

-- Two tables whose holds the pool counts side by side.
pub record AreCounted (pool : Cells) (entries others : Entries) : Type 0 where
  pub sum : (s : ℕ) → held entries s + held others s ≤ holds pool s

-- Two tables share a pool: it backs both, and nobody else holds anything.
pub record Share (digest : List ℕ → List ℕ) (pool : Cells) (entries others : Entries) : Type 0 where
  pub first : IsBackedBy digest pool entries
  pub second : IsBackedBy digest pool others
  pub counts : (s : ℕ) → holds pool s ≡ held entries s + held others s
