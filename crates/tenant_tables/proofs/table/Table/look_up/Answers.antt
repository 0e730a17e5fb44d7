use Rattle.tenant_tables.proofs.Joined.{in_front, in_none, in_own}
use Rattle.tenant_tables.proofs.table.Table.look_up.Goals as goal

pub returns-in-Some-clause-place : goal.returns-in-Some-clause-place
returns-in-Some-clause-place c =
    rw (← c.self.view_is)
    (in_front c.args.id.now c.self.inside.front c.self.inside.own.entries c.in-Some.found c.in-Some.ensures.place c.in-Some.ensures.entry).place

pub returns-in-Some-clause-entry : goal.returns-in-Some-clause-entry
returns-in-Some-clause-entry c =
    rw (← c.self.view_is)
    (in_front c.args.id.now c.self.inside.front c.self.inside.own.entries c.in-Some.found c.in-Some.ensures.place c.in-Some.ensures.entry).entry

pub returns-in_err-place-clause-place : goal.returns-in_err-place-clause-place
returns-in_err-place-clause-place c =
    rw (c.from_residual.ensures, ← c.self.view_is)
    (in_none c.args.id.now c.self.inside.front c.self.inside.own.entries c.in_default.ensures.place c.in_default.ensures.entry c.in_err-place.ensures.place c.in_err-place.ensures.entry).place

pub returns-in_err-place-clause-entry : goal.returns-in_err-place-clause-entry
returns-in_err-place-clause-entry c =
    rw (c.from_residual.ensures, ← c.self.view_is)
    (in_none c.args.id.now c.self.inside.front c.self.inside.own.entries c.in_default.ensures.place c.in_default.ensures.entry c.in_err-place.ensures.place c.in_err-place.ensures.entry).entry

pub returns-clause-place : goal.returns-clause-place
returns-clause-place c =
    rw (← c.self.view_is)
    (in_own c.args.id.now c.self.inside.front c.self.inside.own.entries (c.in_ok-place.place, c.in_ok-place.entry) c.len.result c.len.ensures c.in_default.ensures.place c.in_default.ensures.entry c.in_ok-place.ensures.place c.in_ok-place.ensures.entry).place

pub returns-clause-entry : goal.returns-clause-entry
returns-clause-entry c =
    rw (← c.self.view_is)
    (in_own c.args.id.now c.self.inside.front c.self.inside.own.entries (c.in_ok-place.place, c.in_ok-place.entry) c.len.result c.len.ensures c.in_default.ensures.place c.in_default.ensures.entry c.in_ok-place.ensures.place c.in_ok-place.ensures.entry).entry
