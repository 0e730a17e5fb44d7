use Rattle.std.proofs.Common.{◌∙◌}
use Rattle.std.specs.Str.{bytes_eq}
use Rattle.pool_tests.proofs.TablesInLists.{position-keys}
use Rattle.pool_tests.proofs.tables.plain_table.PlainTable.place.Goals as goal

pub returns : goal.returns
returns c =
    rw (← c.self.view_is, ← c.as_slice.ensures.value) (c.place_among.ensures ∙ position-keys (bytes_eq c.args.id.now) c.as_slice.result.now)
