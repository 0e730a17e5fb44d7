use Rattle.std.proofs.Common.{rules}
use Rattle.stream_commands.proofs.ChainLemmas.{chain_stands}
use Rattle.stream_commands.proofs.CommittedLemmas.{committed_stay}
use Rattle.import_session.proofs.closing.close_commit.Goals as goal

pub returns-clause-done : goal.returns-clause-done
returns-clause-done g c = search rules

pub returns-in-Err-clause-committed : goal.returns-in-Err-clause-committed
returns-in-Err-clause-committed g c =
    committed_stay c.args.pool.now c.args.table.now c.close.new.pool c.close.new.table
    c.committed_len-within.ensures.within c.close.ensures.adds

pub returns-in_err-place-clause-committed : goal.returns-in_err-place-clause-committed
returns-in_err-place-clause-committed g c =
    committed_stay c.args.pool.now c.args.table.now c.close.new.pool c.close.new.table
    c.committed_len-within.ensures.within c.close.ensures.adds

pub returns-clause-committed : goal.returns-clause-committed
returns-clause-committed g c =
    committed_stay c.args.pool.now c.args.table.now c.close.new.pool c.close.new.table
    c.committed_len-within.ensures.within c.close.ensures.adds

pub returns-in-Err-clause-chain : goal.returns-in-Err-clause-chain
returns-in-Err-clause-chain g c =
    chain_stands g.N.Naming.digest_of c.args.pool.now c.args.table.now c.close.new.pool c.close.new.table c.close.ensures.adds
    c.args.state.now.chain

pub returns-in_err-place-clause-chain : goal.returns-in_err-place-clause-chain
returns-in_err-place-clause-chain g c =
    chain_stands g.N.Naming.digest_of c.args.pool.now c.args.table.now c.close.new.pool c.close.new.table c.close.ensures.adds
    c.args.state.now.chain

pub returns-clause-chain : goal.returns-clause-chain
returns-clause-chain g c =
    chain_stands g.N.Naming.digest_of c.args.pool.now c.args.table.now c.close.new.pool c.close.new.table c.close.ensures.adds
    c.args.state.now.chain
