use Rattle.std.proofs.Common.{Some, sym, ap, ◌∙◌}
use Rattle.std.specs.Str.{bytes_eq}
use Rattle.tenant_tables.specs.View.{entry_named}
use Rattle.pool_tests.proofs.TablesInLists.{lookup_at, lookup_none}
use Rattle.pool_tests.proofs.tables.plain_table.entry_among.Goals as goal

pub returns-in_err-place : goal.returns-in_err-place
unfolding entry_named
returns-in_err-place c =
    c.from_residual.ensures
    ∙ sym
    (lookup_none (bytes_eq c.args.id.now) c.args.objects.now (sym c.place_among.ensures ∙ c.in_err-place.was))

pub returns : goal.returns
unfolding entry_named
returns c =
    ap (λ r. Some r.1) (sym c.index-objects-place.is)
    ∙ sym
    (lookup_at (bytes_eq c.args.id.now) c.args.objects.now c.in_ok-place.place c.index-objects-place.result (sym c.place_among.ensures ∙ c.in_ok-place.was) c.index-objects-place.is)
