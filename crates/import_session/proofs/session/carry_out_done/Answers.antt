use Rattle.std.proofs.Common.{◌≡◌, refl, Ok}
use Rattle.std.proofs.lemmas.Result.{err_from_is_err_and}
use Rattle.stream_grammar.specs.Shown.{act_shown}
use Rattle.import_session.specs.Commits.{closed_where}
use Rattle.import_session.specs.Meaning.{after_act}
use Rattle.stream_commands.specs.State.{state_shown, workspace_in}
use Rattle.stream_commands.proofs.ActLemmas.{first_refused, first_then}
use Rattle.import_session.proofs.LastLemmas.{in_any_case, last_kept}
use Rattle.import_session.proofs.LentLemmas.{Keeps-then}
use Rattle.import_session.proofs.SoundEnds.{ended_sound}
use Rattle.import_session.proofs.session.carry_out_done.Goals as goal

pub returns-in_err-close_where-clause-carried : goal.returns-in_err-close_where-clause-carried
returns-in_err-close_where-clause-carried g c sound =
    let digest = g.N.Naming.digest_of in
    let now = workspace_in (state_shown c.args.state.now) c.args.pool.now c.args.table.now
    c.args.refs.now in
    let left = workspace_in (state_shown c.close_where.new.state) c.close_where.new.pool
    c.close_where.new.table c.args.refs.now in
    let p = err_from_is_err_and c.from_residual.result c.from_residual.ensures.1 in
    rw (p.1, p.2)
    (first_refused (closed_where digest c.args.done.now.ends_commit now)
    (after_act digest (act_shown c.args.done.now.act)) left c.args.out.now.items
    c.args.out.now.items c.in_err-close_where.field-0.0
    (c.in_err-close_where.ensures.done c.args.refs.now))

pub returns-in_err-close_where-clause-last : goal.returns-in_err-close_where-clause-last
returns-in_err-close_where-clause-last g c =
    in_any_case c.from_residual.result (rw c.close_where.ensures.committed refl)

pub returns-clause-keeps : goal.returns-clause-keeps
returns-clause-keeps g c =
    Keeps-then _ _ _ _ _ _ _ c.close_where.ensures.keeps c.carry_out.ensures.keeps

pub returns-clause-carried : goal.returns-clause-carried
returns-clause-carried g c sound =
    let digest = g.N.Naming.digest_of in
    let ends = c.args.done.now.ends_commit in
    let now = workspace_in (state_shown c.args.state.now) c.args.pool.now c.args.table.now
    c.args.refs.now in
    let left = workspace_in (state_shown c.close_where.new.state) c.close_where.new.pool
    c.close_where.new.table c.args.refs.now in
    let ended : closed_where digest ends now ≡ Ok left =
    c.in_ok-close_where.ensures.done c.args.refs.now in
    first_then (closed_where digest ends now) left (after_act digest (act_shown c.args.done.now.act))
    _ c.args.out.now.items _ c.carry_out.result ended
    (c.carry_out.ensures.done
    (ended_sound digest g.met.N.Naming.answers_names ends now left sound ended))

pub returns-clause-last : goal.returns-clause-last
returns-clause-last g c =
    last_kept c.carry_out.result c.args.pool.now c.args.table.now c.close_where.new.pool
    c.close_where.new.table c.carry_out.new.pool c.carry_out.new.table c.args.refs.now
    c.carry_out.new.refs c.close_where.ensures.committed c.carry_out.ensures.committed
    c.carry_out.ensures.refs
