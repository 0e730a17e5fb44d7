use Rattle.std.proofs.Common.{refl}
use Rattle.std.proofs.lemmas.Result.{on_err_weaker}
use Rattle.git_model.proofs.Readables.{objects_are}
use Rattle.tenant_tables.specs.Objects.{objects}
use Rattle.tenant_tables.proofs.RoomLemmas.{has_room}
use Rattle.import_session.specs.Meaning.{after_act}
use Rattle.stream_commands.specs.State.{state_shown}
use Rattle.stream_commands.proofs.HeldLemmas.{still_held}
use Rattle.import_session.proofs.LastLemmas.{in_any_case, unchanged_committed}
use Rattle.import_session.proofs.acts.carry_out.Goals as goal

pub carry_out_object-requires-clause-room : goal.carry_out_object-requires-clause-room
carry_out_object-requires-clause-room g c =
    has_room _ c.args.pool.now c.args.table.now.entries c.requires.stands c.requires.room

pub returns-in-Object-clause-done : goal.returns-in-Object-clause-done
unfolding after_act
returns-in-Object-clause-done g c sound =
    rw c.in-Object.is (c.carry_out_object.ensures.done c.args.out.now.items (objects_are _ _ sound.objects))

pub returns-in-Object-clause-committed : goal.returns-in-Object-clause-committed
returns-in-Object-clause-committed g c =
    on_err_weaker c.carry_out_object.result (unchanged_committed c.args.pool.now c.args.table.now
    c.carry_out_object.new.pool c.carry_out_object.new.table) c.carry_out_object.ensures.same

pub returns-in-Commit-clause-done : goal.returns-in-Commit-clause-done
unfolding after_act
returns-in-Commit-clause-done g c sound =
    rw c.in-Commit.is (c.carry_out_commit.ensures.done c.args.out.now.items sound)

pub returns-in-Change-clause-done : goal.returns-in-Change-clause-done
unfolding after_act
returns-in-Change-clause-done g c sound =
    rw c.in-Change.is (c.carry_out_change.ensures.done c.args.refs.now c.args.out.now.items)

pub returns-in-Change-clause-committed : goal.returns-in-Change-clause-committed
returns-in-Change-clause-committed g c =
    in_any_case c.carry_out_change.result c.carry_out_change.ensures.committed

pub returns-in-Ref-clause-done : goal.returns-in-Ref-clause-done
unfolding after_act
returns-in-Ref-clause-done g c sound =
    rw c.in-Ref.is ((rw c.of.ensures at c.carry_out_ref.ensures.done) c.args.out.now.items c.args.table.now.committed (objects_are _ _ sound.objects))

pub returns-in-Reply-clause-done : goal.returns-in-Reply-clause-done
unfolding after_act
returns-in-Reply-clause-done g c sound =
    rw c.in-Reply.is (c.carry_out_reply.ensures.done c.args.refs.now (objects_are _ _ sound.objects))

pub returns-in-Reply-clause-committed : goal.returns-in-Reply-clause-committed
returns-in-Reply-clause-committed g c =
    in_any_case c.carry_out_reply.result c.carry_out_reply.ensures.committed

pub returns-in-Control-clause-done : goal.returns-in-Control-clause-done
unfolding after_act
returns-in-Control-clause-done g c sound =
    rw c.in-Control.is (c.carry_out_control.ensures.done (objects_are _ _ sound.objects))

pub returns-in-Control-clause-committed : goal.returns-in-Control-clause-committed
returns-in-Control-clause-committed g c =
    on_err_weaker c.carry_out_control.result (λ same. unchanged_committed c.args.pool.now
    c.args.table.now c.args.pool.now c.carry_out_control.new.table
    (record { pool = refl; table = same.0 })) c.carry_out_control.ensures.same

pub returns-in-Control-clause-held : goal.returns-in-Control-clause-held
returns-in-Control-clause-held g c =
    still_held c.carry_out_control.result g.N.Naming.digest_of (objects c.args.pool.now c.carry_out_control.new.table.entries)
    (state_shown c.args.state.now) (state_shown c.carry_out_control.new.state)
    c.carry_out_control.ensures.files (rw c.carry_out_control.ensures.entries c.requires.held)
