use Rattle.std.proofs.Common.{Ok, sym, ◌∙◌, arith}
use Rattle.stream_grammar.specs.Commands.{top}
use Rattle.uses.proofs.Checked.{none, goes_on}
use Rattle.uses.proofs.checking.check.Goals as goal

pub loop-item-init : goal.loop-item-init
loop-item-init c = c.new-parser.ensures ∙ sym (none (Ok top))

pub loop-item-preserved : goal.loop-item-preserved
loop-item-preserved c =
    goes_on c.args.items.now c.loop-item.item-index _ c.loop-item.parser _ (omega arith) c.loop-item.invariant
    (c.in_ok-take.ensures.leaves (λ e. cc e))
