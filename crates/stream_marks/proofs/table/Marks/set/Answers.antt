use Rattle.std.proofs.Common.{◌≡◌, ℕ, ◌+◌, ◌-◌, ◌*◌, ◌/◌, ◌≤◌, Bool, true, Option, None, Some, Bor, is_some, refl, sym, ap, ◌∙◌, arith}
use Rattle.std.proofs.lemmas.Grind.{common_steps}
use Rattle.std.proofs.lemmas.List.{length-set}
use Rattle.std.specs.Option.{option_copied}
use Rattle.stream_grammar.specs.declared.marked_object.MarkedObject.{MarkedObject}
use Rattle.stream_marks.specs.InOrder.{may_follow}
use Rattle.stream_marks.specs.View.{in_turn}
use Rattle.stream_marks.proofs.InTurn.{set-other, set-within, set-after, length-set_within, length-put_after, length-put, length-marks_from}
use Rattle.stream_marks.proofs.table.Marks.set.Goals as goal

-- whether there is an object, by the reference to it
found : (b : Bool) (r : Option (Bor MarkedObject)) (o : Option MarkedObject) → b ≡ is_some r
    → option_copied r ≡ o → is_some o ≡ b
found b None o tested copied = ap is_some (sym copied) ∙ sym tested
found b (Some r) o tested copied = ap is_some (sym copied) ∙ sym tested

-- a mark that may follow is past the end of the list
after : (places room count position : ℕ) → true ≡ may_follow places room count position
    → places ≤ position
after places room count position follows = grind (arith, common_steps)

-- and the list stays dense with it
dense : (places room count position : ℕ) → true ≡ may_follow places room count position
    → position ≤ 4 * (count + 16) + 3
dense places room count position follows =
    let few : position / 4 ≤ count + 16 = grind (arith, common_steps) in omega arith

pub invariant_of-self : goal.invariant_of-self
invariant_of-self c =
    let looked = rw c.deref.ensures.value at c.object_at.ensures in
    let list = c.self.inside.in_order in
    let position = c.position_of-position.result in
    record {
      counted = c.self.invariant.counted ∙ sym (length-set_within 1 position list.items c.args.object
          (found _ _ _ c.if-is_some.ensures looked));
      dense = omega (arith, c.self.invariant.dense, length-set list.items position (Some c.args.object));
    }

pub returns-then-is_some : goal.returns-then-is_some
returns-then-is_some c =
    let looked = rw c.deref.ensures.value at c.object_at.ensures in
    rw (← c.self.view_is) (set-within c.args.mark c.args.object 1 c.position_of-position.result
    c.self.inside.in_order.items c.self.inside.others.entries c.position_of-position.ensures
    (found _ _ _ c.if-is_some.ensures looked))

pub may_follow-requires : goal.may_follow-requires
may_follow-requires c =
    let list = c.self.inside.in_order in
    omega (arith, c.self.invariant.counted, length-marks_from 1 list.items)

pub overflow_add-self : goal.overflow_add-self
overflow_add-self c =
    let list = c.self.inside.in_order in
    omega (arith, c.self.invariant.counted, length-marks_from 1 list.items)

pub invariant_of-self-then-may_follow : goal.invariant_of-self-then-may_follow
invariant_of-self-then-may_follow c =
    let list = c.self.inside.in_order in
    let position = c.position_of-position.result in
    let gap : ℕ = position - list.len in
    let follows = c.if-may_follow.ensures in
    let past = after list.len list.cap c.self.inside.count position follows in
    let few = dense list.len list.cap c.self.inside.count position follows in
    let counted = ap (λ n. n + 1) c.self.invariant.counted
    ∙ sym (length-put_after 1 gap list.items c.args.object) in
    let places = length-put list.items gap (Some c.args.object) in
    rw c.put_at.ensures (record { counted = counted; dense = omega (arith, past, few, places, list.ok.0) })

pub returns-then-may_follow : goal.returns-then-may_follow
returns-then-may_follow c =
    let looked = rw c.deref.ensures.value at c.object_at.ensures in
    let list = c.self.inside.in_order in
    let position = c.position_of-position.result in
    let past = after list.len list.cap c.self.inside.count position c.if-may_follow.ensures in
    rw (← c.self.view_is, c.put_at.ensures) (set-after c.args.mark c.args.object
    (position - list.len) position list.items c.self.inside.others.entries
    c.position_of-position.ensures (omega (arith, past, list.ok.0))
    (found _ _ _ c.if-is_some.ensures looked) (c.if-is_empty.ensures.0 refl))

pub returns-else-is_empty : goal.returns-else-is_empty
returns-else-is_empty c =
    let looked = rw c.deref.ensures.value at c.object_at.ensures in
    let inserted = rw c.unwrap.ensures at c.insert.ensures.entries in
    rw (← c.self.view_is) (ap (in_turn c.self.inside.in_order.items) inserted
    ∙ set-other c.args.mark c.args.object 1 c.position_of-position.result
    c.self.inside.in_order.items c.self.inside.others.entries c.position_of-position.ensures
    (found _ _ _ c.if-is_some.ensures looked))
