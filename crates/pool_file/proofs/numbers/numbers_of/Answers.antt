use Rattle.std.proofs.Common.{◌<◌, ℕ, [], ◌∷◌, ◌++◌, length, map, sym, ap, ◌∙◌}
use Rattle.std.specs.Prelude.{slice_index}
use Rattle.std.proofs.lemmas.List.{map-append}
use Rattle.pool_file.proofs.TenantSlots.{before_count, counted_all, first_slots, told_all, told_before, told_more}
use Rattle.pool_file.proofs.numbers.numbers_of.Goals as goal
use Rattle.pool_file.proofs.numbers.numbers_of.Goals.{in-Some+in_ok-push, in_default}

pub number_at-requires : goal.number_at-requires
number_at-requires c =
    let v = c.args.tenant.now in
    told_all (λ s. s < length c.args.by_slot.now) v.table.now.entries v.objects c.loop-place.place _ _
    c.requires
    (before_count [] v.table.now.entries v.objects c.loop-place.place c.object_count-place-end.result
    (c.object_count-place-end.ensures []) c.loop-place-test.true)
    c.in-Some.ensures

pub loop-place-preserved : goal.loop-place-preserved
loop-place-preserved c = elim c.match-at.branch [
  | in-Some+in_ok-push w ↦
      let es = c.args.tenant.now.table.now.entries in
      let number : ℕ → ℕ = λ s. slice_index c.args.by_slot.now s in
      ap (λ v. v.items) w.numbers-is ∙ w.in_ok-push.ensures.items
      ∙ (λ i. c.loop-place.invariant i ++ w.number_at.ensures i ∷ [])
      ∙ sym (ap (map number) (told_more es c.loop-place.place _ _ w.in-Some.ensures)
      ∙ map-append number (first_slots es c.loop-place.place) (_ ∷ []))
  | in_default w ↦
      let v = c.args.tenant.now in
      absurd (told_before v.table.now.entries v.objects c.loop-place.place _ (c.object_count-place-end.ensures []) c.loop-place-test.true w.in_default.ensures)
]

pub returns : goal.returns
returns c =
    c.loop-place.invariant
    ∙ ap (map (λ s. slice_index c.args.by_slot.now s))
    (counted_all c.args.tenant.now.table.now.entries c.args.tenant.now.objects c.loop-place.place _ (c.object_count-place-end.ensures [])
    c.loop-place.auto.place-end c.loop-place-test.false)
