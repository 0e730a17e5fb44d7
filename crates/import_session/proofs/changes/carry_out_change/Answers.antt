use Rattle.tenant_tables.specs.Objects.{objects}
use Rattle.stream_commands.specs.State.{state_shown}
use Rattle.stream_commands.proofs.HeldLemmas.{still_held}
use Rattle.import_session.proofs.changes.carry_out_change.Goals as goal

pub returns-in-Modify-clause-done : goal.returns-in-Modify-clause-done
returns-in-Modify-clause-done g c refs out = rw c.in-Modify.is (c.modify.ensures.done refs out)

pub returns-in-ModifyInline-clause-done : goal.returns-in-ModifyInline-clause-done
returns-in-ModifyInline-clause-done g c refs out =
    rw c.in-ModifyInline.is (c.await_contents.ensures.done g.N.Naming.digest_of c.args.pool.now
    c.args.table.now refs out)

pub returns-in-ModifyInline-clause-held : goal.returns-in-ModifyInline-clause-held
returns-in-ModifyInline-clause-held g c =
    still_held c.await_contents.result g.N.Naming.digest_of (objects c.args.pool.now c.args.table.now.entries)
    (state_shown c.args.state.now) (state_shown c.await_contents.new.state) c.await_contents.ensures.files c.requires.held

pub returns-in-InlineData-clause-done : goal.returns-in-InlineData-clause-done
returns-in-InlineData-clause-done g c refs out = rw c.in-InlineData.is (c.put_contents.ensures.done refs out)

pub returns-in-Delete-clause-done : goal.returns-in-Delete-clause-done
returns-in-Delete-clause-done g c refs out = rw c.in-Delete.is (c.delete.ensures.done refs out)

pub returns-in-Copy-clause-done : goal.returns-in-Copy-clause-done
returns-in-Copy-clause-done g c refs out = rw c.in-Copy.is (c.copy.ensures.done refs out)

pub returns-in-Rename-clause-done : goal.returns-in-Rename-clause-done
returns-in-Rename-clause-done g c refs out = rw c.in-Rename.is (c.rename.ensures.done refs out)

pub returns-in-DeleteAll-clause-done : goal.returns-in-DeleteAll-clause-done
returns-in-DeleteAll-clause-done g c refs out =
    rw c.in-DeleteAll.is (c.delete_all.ensures.done g.N.Naming.digest_of c.args.pool.now
    c.args.table.now refs out)

pub returns-in-DeleteAll-clause-held : goal.returns-in-DeleteAll-clause-held
returns-in-DeleteAll-clause-held g c =
    c.delete_all.ensures.held g.N.Naming.digest_of (objects c.args.pool.now c.args.table.now.entries) c.requires.held
