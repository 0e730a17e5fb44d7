use Rattle.std.proofs.Common.{List, ℕ, ◌<◌, ◌∙◌, Ok, length, sym, subst}
use Rattle.std.specs.Prelude.{All}
use Rattle.std.specs.Option.{option_map}
use Rattle.pool_file_format.specs.Shown.{objects_of, tenant_of}
use Rattle.pool_file_checks.specs.Checks.{Passes}
use Rattle.pool_file_checks.specs.Whole.{own_checks}
use Rattle.pool_file_checks.proofs.WholeLemmas.{counted, refs_decide}
use Rattle.pool_file_checks.proofs.FrontLemmas.{front_found}
use Rattle.pool_file_checks.proofs.quick.pass_tenant.Goals as goal

pub returns-clause-checks : goal.returns-clause-checks
returns-clause-checks c =
    let xs = c.args.objects.now in let last = option_map (λ o. o.now) c.args.last in let t = tenant_of c.args.tenant.now in
    let below = subst (All (λ n. n < length xs)) (sym c.deref.ensures.value) c.in_ok-check_numbers.ensures.0 in
    let ready = counted c.args.version xs last t c.in_ok-check_name.ensures c.in_ok-check_numbers.ensures in
    λ digest same front.
    let passed = c.in_ok-pass.ensures digest same below front in
    refs_decide digest c.args.version xs last t (Ok tt) ready
    (subst (λ (l : List ℕ). Passes (own_checks digest (objects_of xs) l)) (passed.1 ∙ c.deref.ensures.value) (front_found digest (objects_of xs) _ passed.0).own)
    c.in_ok-check_refs.ensures

pub returns-clause-front : goal.returns-clause-front
returns-clause-front c =
    let xs = c.args.objects.now in
    let below = subst (All (λ n. n < length xs)) (sym c.deref.ensures.value) c.in_ok-check_numbers.ensures.0 in
    λ digest same front.
    let passed = c.in_ok-pass.ensures digest same below front in (passed.0, passed.1 ∙ c.deref.ensures.value)
