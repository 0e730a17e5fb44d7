use Rattle.std.proofs.Common.{◌+◌, ◌-◌, ◌/◌, sym, ◌∙◌, arith}
use Rattle.git_model.specs.Tree.{order_key}
use Rattle.git_objects.specs.Parts.{entry_of}
use Rattle.tree_build.proofs.Searched.{none_up_to, all_from}
use Rattle.tree_build.proofs.names.place_by_halves.Goals as goal

pub loop-low-preserved-then-comes_before : goal.loop-low-preserved-then-comes_before
loop-low-preserved-then-comes_before c =
    let inv = c.loop-low.invariant in
    let test = c.loop-low-test.true in
    let order = inv.order in
    let within = inv.within in record {
      order = omega arith;
      within = omega arith;
      halves = λ h. (
        (inv.halves h).0,
        all_from (order_key (entry_of c.args.entry.now)) c.args.entries.now.items h
            (c.loop-low.low + (c.loop-low.high - c.loop-low.low) / 2) c.at.result.now c.at.ensures (omega arith)
            (sym c.comes_before.ensures ∙ c.if-comes_before.true),
      );
    }

pub loop-low-preserved : goal.loop-low-preserved
loop-low-preserved c =
    let inv = c.loop-low.invariant in
    let test = c.loop-low-test.true in
    let order = inv.order in
    let within = inv.within in record {
      order = omega arith;
      within = within;
      halves = λ h. (
        λ i d lt.
            none_up_to (order_key (entry_of c.args.entry.now)) c.args.entries.now.items h
            (c.loop-low.low + (c.loop-low.high - c.loop-low.low) / 2) c.at.result.now c.at.ensures (omega arith)
            (sym c.comes_before.ensures ∙ c.if-comes_before.false) i d (omega arith),
        (inv.halves h).1,
      );
    }
