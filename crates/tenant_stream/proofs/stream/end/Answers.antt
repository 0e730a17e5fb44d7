use Rattle.std.proofs.Common.{sym, ◌∙◌}
use Rattle.stream_commands.specs.State.{workspace_in}
use Rattle.tenant_stream.proofs.EndLemmas.{ends_done, ends_cut, ends_well, ends_refused}
use Rattle.tenant_stream.proofs.RoomLemmas.{room_beside}
use Rattle.tenant_stream.proofs.stream.end.Goals as goal

pub finish-requires-clause-room : goal.finish-requires-clause-room
finish-requires-clause-room g c =
    room_beside c.args.pool.now c.args.table.now.entries c.requires.room

pub returns-then-is_done-clause-ended : goal.returns-then-is_done-clause-ended
returns-then-is_done-clause-ended g c sound =
    ends_done _ _ (sym c.is_done.ensures ∙ c.if-is_done.true)

pub returns-in-Err-clause-ended : goal.returns-in-Err-clause-ended
returns-in-Err-clause-ended g c sound =
    rw c.code.ensures
    (ends_cut _ _ (sym c.is_done.ensures ∙ c.if-is_done.false) c.in-Err.fault
    (sym c.end.ensures ∙ c.in-Err.is))

pub returns-in-Err-finish-clause-ended : goal.returns-in-Err-finish-clause-ended
returns-in-Err-finish-clause-ended g c sound =
    rw (c.stop_of.ensures, c.in-Err-finish.ensures.checkpoint, c.in-Err-finish.ensures.printed)
    (ends_refused _ _ (sym c.is_done.ensures ∙ c.if-is_done.false)
    (sym c.in_default.is ∙ c.end.ensures) _ _ c.in-Err-finish.fault
    (c.in-Err-finish.ensures.ended sound))

pub returns-clause-ended : goal.returns-clause-ended
returns-clause-ended g c sound =
    ends_well _ _ (sym c.is_done.ensures ∙ c.if-is_done.false)
    (sym c.in_default.is ∙ c.end.ensures)
    (workspace_in c.finish.new.self.state c.finish.new.pool c.finish.new.table c.finish.new.refs)
    c.finish.new.out.items (c.in_default-finish.ensures.ended sound)
