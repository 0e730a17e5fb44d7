-- The objects of a table, as its tenant sees them: "object database" of gitglossary(7).
use Rattle.std.specs.Prelude.{List, map}
use Rattle.git_model.specs.Repository.{Object}
use Rattle.content_pool.specs.Pool.{Cells, content}
use Rattle.tenant_tables.specs.View.{Entries}

-- The objects that entries stand for in a pool.
unfoldable pub objects : Cells → Entries → List Object
objects pool entries = map (λ e. record { id = e.0; content = content pool e.1.slot }) entries
