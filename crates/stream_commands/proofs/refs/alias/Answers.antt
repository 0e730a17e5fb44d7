use Rattle.std.proofs.Common.{Some, Err, ap}
use Rattle.std.proofs.lemmas.Result.{err_from_is_err_and}
use Rattle.git_model.specs.declared.kind.Kind.TheVariants as kind
use Rattle.stream_grammar.specs.Shown.{commit_shown}
use Rattle.git_model.specs.Results.{and_then}
use Rattle.stream_commands.specs.Workspace.{quiet}
use Rattle.stream_parts.specs.Marks.{room_for, with_mark}
use Rattle.stream_commands.specs.CommitIshes.{commit_in}
use Rattle.stream_commands.specs.Refs.{ref_set}
use Rattle.stream_commands.specs.State.{StreamState, state_shown, workspace_over}
use Rattle.stream_commands.proofs.ActLemmas.{first_refused, first_then}
use Rattle.stream_commands.proofs.refs.alias.Goals as goal

pub returns-in_err-make_room-clause-done : goal.returns-in_err-make_room-clause-done
unfolding ref_set
returns-in_err-make_room-clause-done g c out committed good =
    let w = workspace_over (state_shown c.args.state.now) c.args.objects.now committed c.args.refs.now in
    let left = workspace_over (state_shown (record c.commit_named.new.state { marks = c.make_room.new.marks }))
    c.args.objects.now committed c.args.refs.now in
    let marks = ap (λ (state : StreamState). state.stream.marks) c.in_ok-id.ensures.same in
    let p = err_from_is_err_and c.from_residual-in_err-make_room.result
    c.from_residual-in_err-make_room.ensures.1 in
    rw (p.1, p.2)
    (first_then (commit_in w (commit_shown c.args.commit.now)) c.in_ok-id.id
    (λ id. and_then (room_for w.stream.marks (Some c.args.mark)) (λ _.
    quiet (record w { stream = record w.stream { marks = with_mark w.stream.marks (Some c.args.mark) kind.Commit id } })))
    left out out (Err c.in_err-make_room.field-0.0) (c.in_ok-id.ensures.named committed good)
    (first_refused (room_for w.stream.marks (Some c.args.mark)) (λ _.
    quiet (record w { stream = record w.stream { marks = with_mark w.stream.marks (Some c.args.mark) kind.Commit c.in_ok-id.id } }))
    left out out c.in_err-make_room.field-0.0 (rw marks at c.in_err-make_room.ensures.room)))
