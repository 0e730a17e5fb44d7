use Rattle.std.proofs.Common.{ap, ◌∙◌}
use Rattle.std.proofs.lemmas.List.{take_all}
use Rattle.export_text.specs.Marking.{with_flags}
use Rattle.export_text.proofs.Pieces.{next-of}
use Rattle.export_text.proofs.Marked.{one-more}
use Rattle.export_text.proofs.marking.mark_all.Goals as goal

pub loop-id-preserved : goal.loop-id-preserved
loop-id-preserved g c =
    one-more c.args.objects.now c.args.flags.now c.loop-id.flags c.mark.new.flags _ _ c.id-item.result
    (next-of c.args.ids.now c.loop-id.id-index c.id-item.result c.loop-id-test.true c.id-item.is)
    c.loop-id.invariant c.mark.ensures

pub returns : goal.returns
returns g c =
    c.loop-id.invariant
    ∙ ap (with_flags c.args.objects.now c.args.flags.now) (take_all c.loop-id.id-index c.args.ids.now c.loop-id-test.false)
