use Rattle.std.proofs.Common.{◌≡◌, ◌≢◌, ℕ, ◌-◌, Option, Result, Some, Err, IfErr, slice_get, ap, sym, subst, ◌∙◌, arith}
use Rattle.std.proofs.lemmas.Option.{slice_get_read, slice_get_within}
use Rattle.std.proofs.lemmas.Result.{err_from_is_err_and}
use Rattle.tenant_tables.proofs.SummaryLemmas.{slice_get-append}
use Rattle.revisions.specs.declared.fault.Fault.{Fault}
use Rattle.revisions.specs.declared.fault.Fault.TheVariants as fault
use Rattle.revisions.specs.Resolution.{nth_ancestor}
use Rattle.revisions.proofs.Ancestors.{chain-more, chain-refused}
use Rattle.revisions.proofs.first_parents.FirstParentCache.walk_to.Goals as goal

pub returns-in_err-begin_at-clause-chain : goal.returns-in_err-begin_at-clause-chain
returns-in_err-begin_at-clause-chain g c held is = c.begin_at.ensures.chain c.args.objects.now is

pub way-init : goal.way-init
way-init g c = rw c.self.view_is (record {
  begun = c.in_ok-begin_at.ensures.begun;
  chain = λ held is. c.begin_at.ensures.chain c.args.objects.now is;
})

pub returns-in_err-parent-clause-refused : goal.returns-in_err-parent-clause-refused
returns-in_err-parent-clause-refused g c held is =
    let p = err_from_is_err_and c.from_residual-in_err-parent.result c.from_residual-in_err-parent.ensures.1 in
    let os = c.args.objects.now in
    let commits = c.way.self-inside.commits.items in
    let some = slice_get_within commits 0 c.args.commit c.way.invariant.begun in
    let many = c.len-in-way.ensures ∙ c.way.self-inside.commits.ok.0 in
    let last = slice_get_read commits c.len-in-way.result (c.len-in-way.result - 1) c.index.result.now many
    (omega (arith, some, many)) c.index.ensures in
    let before = c.way-test.true in
    let first = c.len.ensures ∙ c.way.self-inside.commits.ok.0 in
    subst (λ (r : Result (Option ℕ) Fault). IfErr r (λ e. e ≢ fault.Memory → nth_ancestor os c.args.n c.args.commit ≡ Err e))
    (sym (p.1 ∙ ap Err p.2))
    (λ no. chain-refused os commits c.args.commit c.index.result.now c.args.n _ (c.way.invariant.chain held is)
    c.way.invariant.begun (subst (λ (k : ℕ). slice_get commits (k - 1) ≡ Some c.index.result.now) many last)
    (c.in_err-parent.ensures held no) (omega (arith, before, first)))

pub way-preserved : goal.way-preserved
way-preserved g c =
    let commits = c.way.self-inside.commits.items in
    let some = slice_get_within commits 0 c.args.commit c.way.invariant.begun in
    let many = c.len-in-way.ensures ∙ c.way.self-inside.commits.ok.0 in
    let last = slice_get_read commits c.len-in-way.result (c.len-in-way.result - 1) c.index.result.now many
    (omega (arith, some, many)) c.index.ensures in
    rw c.in_ok-push.ensures.items
    (record {
      begun = slice_get-append commits _ 0 some ∙ c.way.invariant.begun;
      chain = λ held is.
          chain-more c.args.objects.now commits c.index.result.now c.in_ok-parent.parent (c.way.invariant.chain held is)
          (subst (λ (k : ℕ). slice_get commits (k - 1) ≡ Some c.index.result.now) many last) (c.in_ok-parent.ensures held);
    })
