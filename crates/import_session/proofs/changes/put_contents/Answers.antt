use Rattle.tenant_tables.specs.Objects.{objects}
use Rattle.open_commits.specs.OpenCommit.{commit_held}
use Rattle.stream_commands.specs.State.{state_shown}
use Rattle.stream_commands.proofs.ChainLemmas.{chain_stands}
use Rattle.stream_commands.proofs.CommittedLemmas.{committed_stay}
use Rattle.stream_commands.proofs.HeldLemmas.{kept_stand, open_again}
use Rattle.import_session.proofs.changes.put_contents.Goals as goal

pub returns-clause-committed : goal.returns-clause-committed
returns-clause-committed g c =
    committed_stay c.args.pool.now c.args.table.now c.put_contents.new.pool c.put_contents.new.table
    c.committed_len-within.ensures.within c.put_contents.ensures.adds

pub returns-clause-held : goal.returns-clause-held
returns-clause-held g c =
    rw (c.passed_on-put.ensures, c.keep_open.ensures)
    (open_again g.N.Naming.digest_of (objects c.put_contents.new.pool c.put_contents.new.table.entries)
    (state_shown c.args.state.now) (commit_held c.put_contents.new.self) c.put_contents.result
    c.put_contents.ensures.held
    (kept_stand c.args.pool.now c.args.table.now c.put_contents.new.pool c.put_contents.new.table
    c.put_contents.ensures.adds c.args.state.now.kept c.requires.held.kept)
    (chain_stands g.N.Naming.digest_of c.args.pool.now c.args.table.now c.put_contents.new.pool c.put_contents.new.table
    c.put_contents.ensures.adds c.args.state.now.chain c.requires.held.chain))
