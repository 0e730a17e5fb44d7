use Rattle.std.proofs.Common.{IsSome, Some, sym, ap, refl, subst, ◌∙◌}
use Rattle.std.proofs.lemmas.Result.{err_from_is_err_and}
use Rattle.content_pool.proofs.IndexLemmas.{Notes-push, Notes-first, SameBuckets-written}
use Rattle.content_pool.proofs.index.note.Goals as goal

pub returns-clause-ok : goal.returns-clause-ok
returns-clause-ok c =
    Notes-first _ _ c.args.prefix c.with_slot.result c.args.slot
    (rw c.get_mut.follows.holds-at-none at c.in_ok-insert.ensures.updates.0)
    (sym c.in_default.ensures.value) c.with_slot.ensures

pub returns-in_err-add-clause-err : goal.returns-in_err-add-clause-err
returns-in_err-add-clause-err c =
    let is_error = err_from_is_err_and c.from_residual.result c.from_residual.ensures.1 in
    rw is_error.1
    (SameBuckets-written _ _ c.args.prefix c.add.new.self c.args.slot
    ((c.get_mut.follows.holds c.add.new.self).3 (subst (λ o. IsSome o) c.in-Some.ensures.value refl)).0
    (ap Some c.in_err-add.ensures.err ∙ c.in-Some.ensures.value))

pub returns-in-Some-clause-ok : goal.returns-in-Some-clause-ok
returns-in-Some-clause-ok c =
    Notes-push _ _ c.args.prefix c.add.new.self c.args.slot
    ((c.get_mut.follows.holds c.add.new.self).3 (subst (λ o. IsSome o) c.in-Some.ensures.value refl)).0
    c.in-Some.bucket.now c.in-Some.ensures.value c.in_ok-add.ensures.ok
