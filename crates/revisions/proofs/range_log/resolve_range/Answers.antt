use Rattle.std.proofs.Common.{ℕ, List, Result, Ok, sym, ap, ◌∙◌}
use Rattle.std.proofs.lemmas.List.Elements.{All-contains_itself}
use Rattle.commit_walk.specs.Logs.{log_of}
use Rattle.commit_walk.proofs.LogOrder.{one_log}
use Rattle.revisions.specs.declared.commit_range.Range.{Range}
use Rattle.revisions.specs.declared.fault.Fault.{Fault}
use Rattle.git_model.specs.Results.{and_then}
use Rattle.revisions.specs.Ranges.{is_in_range}
use Rattle.revisions.proofs.Differences.{range_commit}
use Rattle.revisions.proofs.range_log.resolve_range.Goals as goal

pub returns-clause-log : goal.returns-clause-log
returns-clause-log g c held chain =
    let os = c.args.objects.now in
    let log = c.in_ok-ids.ensures held in
    ap (λ (r : Result (Range (List ℕ)) Fault). and_then r
    (λ (range : Range (List ℕ)). Ok (log_of os (is_in_range os range)))) (c.in_ok-range.ensures.named held chain)
    ∙ ap (λ (ids : List (List ℕ)). Ok ids) (sym log)

pub returns-clause-commits : goal.returns-clause-commits
returns-clause-commits g c held k d within =
    let os = c.args.objects.now in
    let range = c.in_ok-range.range in
    let ids = c.in_ok-ids.ids.items in
    let log = c.in_ok-ids.ensures held in
    let is_log = (one_log os (is_in_range os range) ids).1 log in
    let member = All-contains_itself ids k d within in
    range_commit os range _ ((is_log.members _).0 member).1
