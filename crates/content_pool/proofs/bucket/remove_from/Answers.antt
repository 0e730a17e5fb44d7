use Rattle.std.proofs.Common.{arith, sym, ◌∙◌, ◌≡◌}
use Rattle.content_pool.specs.Index.{times}
use Rattle.content_pool.proofs.IndexLemmas.{times-swap_remove, times_from_absent}
use Rattle.content_pool.proofs.bucket.remove_from.Goals as goal

pub returns-in-Some : goal.returns-in-Some
returns-in-Some c = λ s.
    rw c.swap_remove.ensures.items (times-swap_remove _ _ _ _ (sym (rw c.as_slice.ensures.value at c.index_of.ensures) ∙ c.in-Some.is) s)

pub returns-in_default : goal.returns-in_default
returns-in_default c =
    let none : times c.args.slots.now.items c.args.slot ≡ 0 =
    times_from_absent c.args.slots.now.items c.args.slot (sym (rw c.as_slice.ensures.value at c.index_of.ensures) ∙ c.in_default.is) in
    absurd (omega (arith, c.requires))
