use Rattle.std.proofs.Common.{ℕ, List, subst}
use Rattle.std.proofs.lemmas.List.{take_all, take_more}
use Rattle.commit_walk.specs.Marks.{Marks}
use Rattle.commit_walk.proofs.Flags.{Marks-nil, Marks-append}
use Rattle.commit_walk.proofs.marks.mark_all.Goals as goal

pub loop-id-init : goal.loop-id-init
loop-id-init g c = Marks-nil _ _ _

pub loop-id-preserved : goal.loop-id-preserved
loop-id-preserved g c =
    let one = rw c.id-item.is at c.mark.ensures in
    let more = take_more c.args.ids.now c.loop-id.id-index c.id-item.result c.loop-id-test.true in
    rw more (Marks-append _ _ _ _ _ _ _ c.loop-id.invariant one)

pub returns : goal.returns
returns g c =
    subst (λ (ids : List (List ℕ)). Marks c.args.objects.now c.args.floor c.args.flags.now c.loop-id.flags ids)
    (take_all c.loop-id.id-index c.args.ids.now c.loop-id-test.false) c.loop-id.invariant
