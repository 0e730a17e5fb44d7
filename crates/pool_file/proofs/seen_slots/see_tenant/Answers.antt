use Rattle.std.proofs.Common.{[], subst}
use Rattle.pool_file.specs.Slots.{Sees}
use Rattle.pool_file.proofs.SeenSlots.{sees_on}
use Rattle.pool_file.proofs.TenantSlots.{counted_all, told_before, told_more}
use Rattle.pool_file.proofs.seen_slots.see_tenant.Goals as goal
use Rattle.pool_file.proofs.seen_slots.see_tenant.Goals.{in-Some+in_ok-see, in_default}

pub loop-place-preserved : goal.loop-place-preserved
loop-place-preserved c = elim c.match-at.branch [
  | in-Some+in_ok-see w ↦
      rw w.seen-is (sees_on c.args.seen.now.items c.loop-place.seen.items w.see.new.seen.items _ _ _
      c.loop-place.invariant w.in_ok-see.ensures
      (told_more c.args.tenant.now.table.now.entries c.loop-place.place _ _ w.in-Some.ensures))
  | in_default w ↦
      let v = c.args.tenant.now in
      absurd (told_before v.table.now.entries v.objects c.loop-place.place _ (c.object_count-place-end.ensures []) c.loop-place-test.true w.in_default.ensures)
]

pub returns : goal.returns
returns c =
    subst (Sees c.args.seen.now.items c.loop-place.seen.items)
    (counted_all c.args.tenant.now.table.now.entries c.args.tenant.now.objects c.loop-place.place _ (c.object_count-place-end.ensures [])
    c.loop-place.auto.place-end c.loop-place-test.false)
    c.loop-place.invariant
