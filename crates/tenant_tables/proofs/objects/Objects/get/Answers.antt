use Rattle.std.proofs.Common.{sym, ◌∙◌, ap, Some}
use Rattle.git_model.specs.Repository.{object_named}
use Rattle.tenant_tables.specs.View.{in_sight}
use Rattle.tenant_tables.proofs.AddLemmas.{found_none, found_some}
use Rattle.tenant_tables.proofs.InSight.{slot_live}
use Rattle.tenant_tables.proofs.objects.Objects.get.Goals as goal

pub get-requires : goal.get-requires
get-requires g c = slot_live _ _ c.self.inside.sight c.self.inside.table.now c.args.id.now _ c.self.invariant c.in-Some.ensures

pub returns-in-Some : goal.returns-in-Some
returns-in-Some g c =
    ap Some c.get.ensures
    ∙ sym (found_some c.self.inside.pool.now c.args.id.now (in_sight c.self.inside.sight c.self.inside.table.now) c.in-Some.slot c.in-Some.ensures)
    ∙ ap (object_named c.args.id.now) c.self.view_is

pub returns-in-None : goal.returns-in-None
returns-in-None g c = sym (found_none c.self.inside.pool.now c.args.id.now (in_sight c.self.inside.sight c.self.inside.table.now) c.in-None.ensures)
    ∙ ap (object_named c.args.id.now) c.self.view_is
