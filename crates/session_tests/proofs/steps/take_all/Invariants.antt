use Rattle.std.proofs.Common.{◌≡◌, ℕ}
use Rattle.content_pool.specs.Pool.{holds}
use Rattle.tenant_tables.specs.View.{held}
use Rattle.tenant_tables.specs.IsBackedBy.{IsBackedBy}
use Rattle.stream_commands.specs.Held.{FilesStand}
use Rattle.session_tests.proofs.steps.take_all.Given as goal

-- the table stands in the pool, and nothing else does; among its objects what the session holds
abbrev pub invariant-loop-text : goal.invariant-loop-text
invariant-loop-text g l = record {
  stands : IsBackedBy g.N.Naming.digest_of l.pool l.table.entries;
  alone : (s : ℕ) → holds l.pool s ≡ held l.table.entries s;
  files : FilesStand g.N.Naming.digest_of l.session.state l.pool l.table;
}
