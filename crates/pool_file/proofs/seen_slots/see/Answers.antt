use Rattle.std.proofs.Common.{ℕ, ◌<◌, Some, length, set, ap, subst}
use Rattle.pool_file.proofs.SeenSlots.{sees_one}
use Rattle.pool_file.proofs.seen_slots.see.Goals as goal

pub returns : goal.returns
returns c =
    let now = c.reach.new.seen.items in
    sees_one c.args.seen.now.items now _ c.args.slot c.in_ok-reach.ensures.same
    (subst (λ (n : ℕ). n < length now) c.number-number.ensures c.in_ok-reach.ensures.within)
    (ap (λ (n : ℕ). set now n (Some c.args.slot)) c.number-number.ensures)
