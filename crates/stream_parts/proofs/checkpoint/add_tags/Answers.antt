use Rattle.stream_parts.proofs.CheckpointLemmas.{tag_next}
use Rattle.stream_parts.proofs.checkpoint.add_tags.Goals as goal

pub loop-ref_name-preserved : goal.loop-ref_name-preserved
loop-ref_name-preserved c store =
    tag_next store c.args.changes.now.items c.loop-ref_name.changes.items c.add_change.new.changes.items
    c.args.tags.now c.loop-ref_name.ref_name-index c.loop-ref_name-item.result
    c.in_ok-add_change.ensures.added c.loop-ref_name-test.true c.loop-ref_name-item.is
    (c.loop-ref_name.invariant store)
