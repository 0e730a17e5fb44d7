use Rattle.std.proofs.Common.{length, ap, ◌∙◌}
use Rattle.name_index.proofs.SharedDigits.{differ_at, same_through}
use Rattle.name_index.proofs.digits.shared_apart.Goals as goal

pub returns-then-ours-place : goal.returns-then-ours-place
returns-then-ours-place c =
    rw (← c.as_bytes-ours.ensures, ← c.as_bytes-theirs.ensures)
    (differ_at c.as_bytes-ours.result.now c.as_bytes-theirs.result.now c.loop-place.place c.from.result
    (ap length c.as_bytes-ours.ensures ∙ c.has_twenty_bytes.ensures.size)
    (ap length c.as_bytes-theirs.ensures ∙ c.has_twenty_bytes-2.ensures.size) c.loop-place-test.true
    c.loop-place.invariant c.if-ours-place.true c.from.ensures)

pub returns : goal.returns
returns c =
    rw (← c.as_bytes-ours.ensures, ← c.as_bytes-theirs.ensures)
    (same_through c.as_bytes-ours.result.now c.as_bytes-theirs.result.now c.loop-place.place
    (ap length c.as_bytes-ours.ensures ∙ c.has_twenty_bytes.ensures.size)
    (ap length c.as_bytes-theirs.ensures ∙ c.has_twenty_bytes-2.ensures.size) c.loop-place-test.false
    c.loop-place.invariant)
