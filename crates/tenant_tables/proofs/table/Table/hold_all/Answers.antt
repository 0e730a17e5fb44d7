use Rattle.std.proofs.Common.{sym, ◌∙◌, arith}
use Rattle.tenant_tables.proofs.Joined.{take-none}
use Rattle.tenant_tables.proofs.Shared.{HoldsMore-none, HoldsMore-one, may_hold}
use Rattle.tenant_tables.proofs.table.Table.hold_all.Goals as goal
use Rattle.tenant_tables.proofs.table.Table.hold_all.Goals.{in-Some, in_default}

pub loop-place-init : goal.loop-place-init
loop-place-init g c = HoldsMore-none c.args.pool.now

pub hold-requires-clause-live : goal.hold-requires-clause-live
hold-requires-clause-live g c =
    (may_hold _ _ _ c.args.self.now.entries c.loop-place.place _ _ c.requires.stands c.requires.room c.loop-place.invariant (sym c.entry_at.ensures.entry ∙ c.in-Some.is)).live

pub hold-requires-clause-room : goal.hold-requires-clause-room
hold-requires-clause-room g c =
    (may_hold _ _ _ c.args.self.now.entries c.loop-place.place _ _ c.requires.stands c.requires.room c.loop-place.invariant (sym c.entry_at.ensures.entry ∙ c.in-Some.is)).room

pub loop-place-preserved : goal.loop-place-preserved
loop-place-preserved g c = elim c.match-entry_at.branch [
  | in-Some w ↦
      rw w.pool-is
      (HoldsMore-one _ _ _ c.args.self.now.entries c.loop-place.place _ _ c.loop-place.invariant
      (sym c.entry_at.ensures.entry ∙ w.in-Some.is) w.hold.ensures)
  | in_default w ↦
      let past = take-none c.loop-place.place c.args.self.now.entries
      (sym w.in_default.is ∙ c.entry_at.ensures.entry) in
      let size = c.len-place-end.ensures.value in
      let below = c.loop-place-test.true in absurd (omega (arith, past, size, below))
]
