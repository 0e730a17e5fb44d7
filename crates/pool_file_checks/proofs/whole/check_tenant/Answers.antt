use Rattle.std.proofs.Common.{List, ℕ, ◌<◌, Err, length, sym, subst}
use Rattle.std.specs.Prelude.{All}
use Rattle.std.specs.Option.{option_map}
use Rattle.std.proofs.lemmas.Result.{err_from_is_err_and}
use Rattle.pool_file_format.specs.Shown.{objects_of, tenant_of}
use Rattle.pool_file_checks.specs.Checks.{Passes, Checked}
use Rattle.pool_file_checks.specs.Whole.{own_checks}
use Rattle.pool_file_checks.proofs.WholeLemmas.{name_stops, numbers_stop, counted, own_stops, refs_decide}
use Rattle.pool_file_checks.proofs.whole.check_tenant.Goals as goal

pub returns-in_err-check_name : goal.returns-in_err-check_name
returns-in_err-check_name c =
    let p = err_from_is_err_and c.from_residual.result c.from_residual.ensures.1 in
    λ digest same stored judged. rw (p.1, p.2) (name_stops digest c.args.version (objects_of c.args.objects.now)
    (option_map (λ o. o.now) c.args.last) (tenant_of c.args.tenant.now) c.in_err-check_name.field-0.0 c.in_err-check_name.ensures)

pub returns-in_err-check_numbers : goal.returns-in_err-check_numbers
returns-in_err-check_numbers c =
    let p = err_from_is_err_and c.from_residual-in_err-check_numbers.result c.from_residual-in_err-check_numbers.ensures.1 in
    λ digest same stored judged. rw (p.1, p.2) (numbers_stop digest c.args.version c.args.objects.now
    (option_map (λ o. o.now) c.args.last) (tenant_of c.args.tenant.now) c.in_err-check_numbers.field-0.0 c.in_ok-check_name.ensures c.in_err-check_numbers.ensures)

pub returns-in_err-check_own : goal.returns-in_err-check_own
returns-in_err-check_own c =
    let p = err_from_is_err_and c.from_residual-in_err-check_own.result c.from_residual-in_err-check_own.ensures.1 in
    let xs = c.args.objects.now in let last = option_map (λ o. o.now) c.args.last in let t = tenant_of c.args.tenant.now in
    let below = subst (All (λ n. n < length xs)) (sym c.deref.ensures.value) c.in_ok-check_numbers.ensures.0 in
    let ready = counted c.args.version xs last t c.in_ok-check_name.ensures c.in_ok-check_numbers.ensures in
    λ digest same stored judged. rw (p.1, p.2) (own_stops digest c.args.version xs last t c.in_err-check_own.field-0.0 ready
    (subst (λ (l : List ℕ). Checked (own_checks digest (objects_of xs) l) (Err c.in_err-check_own.field-0.0)) c.deref.ensures.value
    (c.in_err-check_own.ensures digest same stored below judged)))

pub returns : goal.returns
returns c =
    let xs = c.args.objects.now in let last = option_map (λ o. o.now) c.args.last in let t = tenant_of c.args.tenant.now in
    let below = subst (All (λ n. n < length xs)) (sym c.deref.ensures.value) c.in_ok-check_numbers.ensures.0 in
    let ready = counted c.args.version xs last t c.in_ok-check_name.ensures c.in_ok-check_numbers.ensures in
    λ digest same stored judged. refs_decide digest c.args.version xs last t c.check_refs.result ready
    (subst (λ (l : List ℕ). Passes (own_checks digest (objects_of xs) l)) c.deref.ensures.value (c.in_ok-check_own.ensures digest same stored below judged))
    c.check_refs.ensures
