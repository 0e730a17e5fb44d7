use Rattle.std.proofs.Common.{◌≡◌, refl, Ok}
use Rattle.std.proofs.lemmas.Result.{err_from_is_err_and, on_err_weaker}
use Rattle.git_model.proofs.Readables.{objects_are}
use Rattle.stream_commands.specs.Checkpoints.{checkpoint}
use Rattle.import_session.specs.Commits.{closed_where}
use Rattle.stream_commands.specs.State.{state_shown, workspace_in}
use Rattle.stream_commands.proofs.ActLemmas.{first_refused, first_then}
use Rattle.import_session.proofs.LastLemmas.{in_any_case, last_kept, same_entries, unchanged_committed}
use Rattle.import_session.proofs.SoundEnds.{ended_sound}
use Rattle.import_session.proofs.session.save_at_end.Goals as goal

pub returns-in_err-close_where-clause-saved : goal.returns-in_err-close_where-clause-saved
returns-in_err-close_where-clause-saved g c sound =
    let digest = g.N.Naming.digest_of in
    let now = workspace_in (state_shown c.args.state.now) c.args.pool.now c.args.table.now
    c.args.refs.now in
    let left = workspace_in (state_shown c.close_where.new.state) c.close_where.new.pool
    c.close_where.new.table c.args.refs.now in
    let p = err_from_is_err_and c.from_residual.result c.from_residual.ensures.1 in
    rw (p.1, p.2)
    (first_refused (closed_where digest c.args.ends now) checkpoint left c.args.out.now.items
    c.args.out.now.items c.in_err-close_where.field-0.0
    (c.in_err-close_where.ensures.done c.args.refs.now))

pub returns-in_err-close_where-clause-last : goal.returns-in_err-close_where-clause-last
returns-in_err-close_where-clause-last g c =
    in_any_case c.from_residual.result (rw c.close_where.ensures.committed refl)

pub returns-clause-keeps : goal.returns-clause-keeps
returns-clause-keeps g c =
    same_entries _ _ _ _ c.close_where.new.table _ c.save.ensures.entries c.close_where.ensures.keeps

pub returns-clause-saved : goal.returns-clause-saved
returns-clause-saved g c sound =
    let digest = g.N.Naming.digest_of in
    let now = workspace_in (state_shown c.args.state.now) c.args.pool.now c.args.table.now
    c.args.refs.now in
    let left = workspace_in (state_shown c.close_where.new.state) c.close_where.new.pool
    c.close_where.new.table c.args.refs.now in
    let ended : closed_where digest c.args.ends now ≡ Ok left =
    c.in_ok-close_where.ensures.done c.args.refs.now in
    let kept = ended_sound digest g.met.N.Naming.answers_names c.args.ends now left sound ended in
    first_then (closed_where digest c.args.ends now) left checkpoint _ c.args.out.now.items _
    c.save.result ended (c.save.ensures.saved (objects_are _ _ kept.objects))

pub returns-clause-last : goal.returns-clause-last
returns-clause-last g c =
    let pool = c.close_where.new.pool in
    let table = c.close_where.new.table in
    last_kept c.save.result c.args.pool.now c.args.table.now pool table pool c.save.new.table
    c.args.refs.now c.save.new.refs c.close_where.ensures.committed
    (on_err_weaker c.save.result (λ same. unchanged_committed pool table pool c.save.new.table
    (record { pool = refl; table = same.0 })) c.save.ensures.same)
    (on_err_weaker c.save.result (λ same. same.1) c.save.ensures.same)
