use Rattle.std.proofs.Common.{◌≡◌, ℕ, ◌+◌, ◌-◌, List, [], ◌∷◌, Result, Some, Err, slice_get, ap, sym, subst, ◌∙◌, arith}
use Rattle.std.proofs.lemmas.Option.{slice_get_read, slice_get_within}
use Rattle.std.proofs.lemmas.List.{length-append}
use Rattle.std.proofs.lemmas.Result.{err_from_is_err_and}
use Rattle.tenant_tables.proofs.SummaryLemmas.{slice_get-append}
use Rattle.revisions.specs.declared.fault.Fault.{Fault}
use Rattle.revisions.specs.Faults.{Gives}
use Rattle.revisions.specs.Resolution.{nth_ancestor}
use Rattle.revisions.proofs.Ancestors.{chain-from, chain-more, chain-refused-from}
use Rattle.revisions.proofs.first_parents.FirstParentCache.along.Goals as goal

pub returns-in_err-parent-clause-found : goal.returns-in_err-parent-clause-found
returns-in_err-parent-clause-found g c commit held is stands =
    let p = err_from_is_err_and c.from_residual.result c.from_residual.ensures.1 in
    let os = c.args.objects.now in
    let commits = c.way.self-inside.commits.items in
    let some = c.way.invariant.within in
    let many = c.len-in-way.ensures ∙ c.way.self-inside.commits.ok.0 in
    let last = slice_get_read commits c.len-in-way.result (c.len-in-way.result - 1) c.index-last.result.now many
    (omega (arith, some, many)) c.index-last.ensures in
    let before = c.way-test.true in
    let first = c.len.ensures ∙ c.way.self-inside.commits.ok.0 in
    subst (λ (r : Result (List ℕ) Fault). Gives r (nth_ancestor os c.args.n commit)) (sym (p.1 ∙ ap Err p.2))
    (λ no. chain-refused-from os commits commit c.index-last.result.now c.args.at c.args.n _ (c.way.invariant.chain held is)
    (c.way.invariant.stays c.args.at commit stands)
    (subst (λ (k : ℕ). slice_get commits (k - 1) ≡ Some c.index-last.result.now) many last)
    (c.in_err-parent.ensures held no) (omega (arith, before, first, some)))

pub way-preserved : goal.way-preserved
way-preserved g c =
    let commits = c.way.self-inside.commits.items in
    let some = c.way.invariant.within in
    let many = c.len-in-way.ensures ∙ c.way.self-inside.commits.ok.0 in
    let last = slice_get_read commits c.len-in-way.result (c.len-in-way.result - 1) c.index-last.result.now many
    (omega (arith, some, many)) c.index-last.ensures in
    rw c.in_ok-push.ensures.items
    (record {
      within = let more = length-append commits (c.in_ok-parent.parent ∷ []) in omega (arith, some, more);
      chain = λ held is.
          chain-more c.args.objects.now commits c.index-last.result.now c.in_ok-parent.parent (c.way.invariant.chain held is)
          (subst (λ (k : ℕ). slice_get commits (k - 1) ≡ Some c.index-last.result.now) many last) (c.in_ok-parent.ensures held);
      stays = λ i id had. let was = c.way.invariant.stays i id had in slice_get-append commits _ i (slice_get_within commits i id was) ∙ was;
    })

pub returns-clause-found : goal.returns-clause-found
returns-clause-found g c commit held is stands =
    let commits = c.way.self-inside.commits.items in
    let many = c.len.ensures ∙ c.way.self-inside.commits.ok.0 in
    let past = c.way-test.false in
    let some = c.way.invariant.within in
    chain-from c.args.objects.now commits commit c.index.result.now c.args.at c.args.n (c.way.invariant.chain held is)
    (c.way.invariant.stays c.args.at commit stands)
    (slice_get_read commits c.len.result (c.args.at + c.args.n) c.index.result.now many (omega (arith, many, past, some)) c.index.ensures)
