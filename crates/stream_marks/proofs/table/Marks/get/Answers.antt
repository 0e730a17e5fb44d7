use Rattle.std.proofs.Common.{nat_eq, sym, ap, ◌∙◌}
use Rattle.std.specs.Map.{lookup}
use Rattle.std.specs.Option.{option_or}
use Rattle.stream_marks.proofs.InTurn.{lookup-in_turn}
use Rattle.stream_marks.proofs.table.Marks.get.Goals as goal

pub returns-in-Some : goal.returns-in-Some
returns-in-Some c =
    let found = rw c.deref.ensures.value at c.in-Some.ensures in
    let others = c.self.inside.others.entries in
    rw (← c.self.view_is) (ap (λ o. option_or o (lookup (nat_eq c.args.mark) others)) found
    ∙ sym (lookup-in_turn c.args.mark 1 c.position_of.result c.self.inside.in_order.items others
    c.position_of.ensures))

pub returns-in-None : goal.returns-in-None
returns-in-None c =
    let missing = rw c.deref.ensures.value at c.in-None.ensures in
    let others = c.self.inside.others.entries in
    rw (← c.self.view_is) (c.get.ensures.value
    ∙ ap (λ o. option_or o (lookup (nat_eq c.args.mark) others)) missing
    ∙ sym (lookup-in_turn c.args.mark 1 c.position_of.result c.self.inside.in_order.items others
    c.position_of.ensures))
