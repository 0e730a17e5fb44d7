use Rattle.std.proofs.Common.{arith, rules}
use Rattle.std.proofs.lemmas.Grind.{common_steps}
use Rattle.stream_commands.specs.Replies.{replied}
use Rattle.stream_commands.proofs.CommittedLemmas.{committed_stay}
use Rattle.stream_commands.proofs.ChainLemmas.{chain_stands}
use Rattle.stream_commands.proofs.HeldLemmas.{kept_stand}
use Rattle.stream_commands.proofs.replies.show_entry.Goals as goal

pub returns-clause-done : goal.returns-clause-done
unfolding replied
returns-clause-done g c = grind (arith, common_steps)

pub returns-in-Err-clause-done : goal.returns-in-Err-clause-done
unfolding replied
returns-in-Err-clause-done g c = search rules

pub returns-in-Err-clause-committed : goal.returns-in-Err-clause-committed
returns-in-Err-clause-committed g c =
    committed_stay c.args.pool.now c.args.table.now c.show_entry.new.pool c.show_entry.new.table
    c.committed_len-within.ensures.within c.show_entry.ensures.adds

pub returns-in_err-print_entry-clause-committed : goal.returns-in_err-print_entry-clause-committed
returns-in_err-print_entry-clause-committed g c =
    committed_stay c.args.pool.now c.args.table.now c.show_entry.new.pool c.show_entry.new.table
    c.committed_len-within.ensures.within c.show_entry.ensures.adds

pub returns-clause-committed : goal.returns-clause-committed
returns-clause-committed g c =
    committed_stay c.args.pool.now c.args.table.now c.show_entry.new.pool c.show_entry.new.table
    c.committed_len-within.ensures.within c.show_entry.ensures.adds

pub returns-clause-held : goal.returns-clause-held
returns-clause-held g c = record {
  command = c.show_entry.ensures.held;
  kept = kept_stand c.args.pool.now c.args.table.now c.show_entry.new.pool c.show_entry.new.table
      c.show_entry.ensures.adds c.args.state.now.kept c.requires.held.kept;
  chain = chain_stands g.N.Naming.digest_of c.args.pool.now c.args.table.now c.show_entry.new.pool c.show_entry.new.table
      c.show_entry.ensures.adds c.args.state.now.chain c.requires.held.chain;
}
