use Rattle.std.proofs.Common.{sym, rules}
use Rattle.std.proofs.lemmas.Result.{err_from_is_err_and}
use Rattle.stream_grammar.specs.Shown.{commit_shown}
use Rattle.stream_parts.specs.declared.branches.Tip.{Tip}
use Rattle.stream_commands.specs.Workspace.{quiet}
use Rattle.stream_parts.specs.Branches.{with_branch}
use Rattle.stream_parts.specs.OpenCommand.{Nothing}
use Rattle.stream_commands.specs.Refs.{ref_set, tip_from}
use Rattle.stream_commands.specs.State.{state_shown, workspace_over}
use Rattle.stream_commands.proofs.ActLemmas.{first_refused}
use Rattle.stream_commands.proofs.refs.reset_to.Goals as goal

pub returns-in_err-tip-clause-done : goal.returns-in_err-tip-clause-done
unfolding ref_set
returns-in_err-tip-clause-done g c out committed good =
    let w = workspace_over (state_shown c.args.state.now) c.args.objects.now committed c.args.refs.now in
    let p = err_from_is_err_and c.from_residual.result c.from_residual.ensures.1 in
    rw (sym c.take.ensures.taken, c.in-Reset.is, p.1, p.2)
    (first_refused (tip_from w c.in-Reset.branch (commit_shown c.args.from.now))
    (λ (tip : Tip). quiet (record w {
      stream = record w.stream {
        branches = with_branch w.stream.branches c.in-Reset.branch tip;
        command = Nothing;
      };
    }))
    _ out out c.in_err-tip.field-0.0 (c.in_err-tip.ensures.tip committed good))

pub returns-clause-done : goal.returns-clause-done
unfolding ref_set
returns-clause-done g c out committed good =
    let tip = c.in_ok-tip.ensures.tip committed good in search rules
