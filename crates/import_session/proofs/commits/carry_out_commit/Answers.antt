use Rattle.git_model.proofs.Readables.{objects_are}
use Rattle.tenant_tables.specs.Objects.{objects}
use Rattle.stream_commands.specs.State.{state_shown}
use Rattle.stream_commands.proofs.HeldLemmas.{still_held}
use Rattle.import_session.proofs.commits.carry_out_commit.Goals as goal

pub returns-in-Begin-clause-done : goal.returns-in-Begin-clause-done
returns-in-Begin-clause-done g c out sound =
    rw c.in-Begin.is (c.begin_commit.ensures.done c.args.pool.now c.args.table.now out)

pub returns-in-Begin-clause-held : goal.returns-in-Begin-clause-held
returns-in-Begin-clause-held g c =
    still_held c.begin_commit.result g.N.Naming.digest_of (objects c.args.pool.now c.args.table.now.entries)
    (state_shown c.args.state.now) (state_shown c.begin_commit.new.state) c.begin_commit.ensures.files c.requires.held

pub returns-in-Author-clause-done : goal.returns-in-Author-clause-done
returns-in-Author-clause-done g c out sound =
    rw c.in-Author.is (c.say_author.ensures.done c.args.pool.now c.args.table.now out)

pub returns-in-Author-clause-held : goal.returns-in-Author-clause-held
returns-in-Author-clause-held g c =
    still_held c.say_author.result g.N.Naming.digest_of (objects c.args.pool.now c.args.table.now.entries)
    (state_shown c.args.state.now) (state_shown c.say_author.new.state) c.say_author.ensures.files c.requires.held

pub returns-in-Committer-clause-done : goal.returns-in-Committer-clause-done
returns-in-Committer-clause-done g c out sound =
    rw c.in-Committer.is (c.say_committer.ensures.done c.args.pool.now c.args.table.now out)

pub returns-in-Committer-clause-held : goal.returns-in-Committer-clause-held
returns-in-Committer-clause-held g c =
    still_held c.say_committer.result g.N.Naming.digest_of (objects c.args.pool.now c.args.table.now.entries)
    (state_shown c.args.state.now) (state_shown c.say_committer.new.state) c.say_committer.ensures.files c.requires.held

pub returns-in-Encoding-clause-done : goal.returns-in-Encoding-clause-done
returns-in-Encoding-clause-done g c out sound =
    rw c.in-Encoding.is (c.say_encoding.ensures.done c.args.pool.now c.args.table.now out)

pub returns-in-Encoding-clause-held : goal.returns-in-Encoding-clause-held
returns-in-Encoding-clause-held g c =
    still_held c.say_encoding.result g.N.Naming.digest_of (objects c.args.pool.now c.args.table.now.entries)
    (state_shown c.args.state.now) (state_shown c.say_encoding.new.state) c.say_encoding.ensures.files c.requires.held

pub returns-in-Message-clause-done : goal.returns-in-Message-clause-done
returns-in-Message-clause-done g c out sound = rw c.in-Message.is (c.open_commit.ensures.done out sound)

pub returns-in-From-clause-done : goal.returns-in-From-clause-done
returns-in-From-clause-done g c out sound =
    rw c.in-From.is (c.start_open.ensures.done out (objects_are _ _ sound.objects))

pub returns-in-Merge-clause-done : goal.returns-in-Merge-clause-done
returns-in-Merge-clause-done g c out sound =
    rw c.in-Merge.is ((rw c.of.ensures at c.merge_open.ensures.done) out c.args.table.now.committed (objects_are _ _ sound.objects))
