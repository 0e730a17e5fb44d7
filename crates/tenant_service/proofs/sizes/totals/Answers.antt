use Rattle.std.proofs.Common.{length, sym, ap, ◌∙◌}
use Rattle.git_model.specs.Content.{Content}
use Rattle.tenant_tables.proofs.Positions.{told_live}
use Rattle.pool_file.proofs.TenantSlots.{before_end, told_there}
use Rattle.tenant_service.specs.Sizes.{own_size, size}
use Rattle.tenant_service.specs.Tenants.{holds_of}
use Rattle.tenant_service.proofs.SizeLemmas.{own-elsewhere, own-here, total-kept, total-told}
use Rattle.tenant_service.proofs.sizes.totals.Goals as goal
use Rattle.tenant_service.proofs.sizes.totals.Goals.{in-Some+then-hold_count-eq1, in-Some+else-hold_count-eq1, in_default}

pub get-requires : goal.get-requires
get-requires g c =
    told_live _ c.args.pool.now c.args.view.now.table.now.entries c.loop-place.place _ _ c.requires c.in-Some.ensures

pub hold_count-requires : goal.hold_count-requires
hold_count-requires g c =
    told_live _ c.args.pool.now c.args.view.now.table.now.entries c.loop-place.place _ _ c.requires c.in-Some.ensures

pub loop-place-preserved : goal.loop-place-preserved
loop-place-preserved g c =
    let pool = c.args.pool.now in
    let es = c.args.view.now.table.now.entries in
    let place = c.loop-place.place in
    elim c.match-at.branch [
      | in-Some+then-hold_count-eq1 w ↦
          let length_is = sym (ap (λ (x : Content). length x.bytes) w.get.ensures) in
          record {
            all = total-told size pool es place _ _ _ _ _ w.in-Some.ensures length_is
                c.loop-place.invariant.all (w.all-is ∙ w.saturating_add-all.ensures);
            own = total-told (own_size (holds_of pool)) pool es place _ _ _ _ _ w.in-Some.ensures
                (own-here pool _ _ c.holds_each_once.ensures
                (told_live _ pool es place _ _ c.requires w.in-Some.ensures)
                (sym w.hold_count.ensures ∙ w.if-hold_count-eq1.true) length_is)
                c.loop-place.invariant.own (w.own-is ∙ w.saturating_add-own.ensures);
          }
      | in-Some+else-hold_count-eq1 w ↦
          let length_is = sym (ap (λ (x : Content). length x.bytes) w.get.ensures) in
          record {
            all = total-told size pool es place _ _ _ _ _ w.in-Some.ensures length_is
                c.loop-place.invariant.all (w.all-is ∙ w.saturating_add-all.ensures);
            own = total-kept (own_size (holds_of pool)) pool es place _ _ _ _ w.in-Some.ensures
                (own-elsewhere pool _ c.holds_each_once.ensures
                (told_live _ pool es place _ _ c.requires w.in-Some.ensures)
                (λ one. w.if-hold_count-eq1.false (w.hold_count.ensures ∙ one)))
                c.loop-place.invariant.own w.own-is;
          }
      | in_default w ↦
          let l = before_end pool es c.args.view.now.objects place c.object_count-place-end.result
          (c.object_count-place-end.ensures pool) c.loop-place-test.true in
          absurd (told_there es place w.in_default.ensures l)
    ]
