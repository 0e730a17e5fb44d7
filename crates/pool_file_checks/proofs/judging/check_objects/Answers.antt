use Rattle.std.proofs.Common.{◌≡◌, ◌+◌, suc, None, ◌∷◌, drop, ap, sym, subst, ◌∙◌, drop-cons}
use Rattle.std.specs.Option.{option_map}
use Rattle.std.proofs.lemmas.List.{drop_all}
use Rattle.std.proofs.lemmas.Result.{err_from_is_err_and}
use Rattle.pool_file_format.specs.Shown.{object_of, objects_of}
use Rattle.pool_file_checks.specs.Objects.{object_key, object_checks}
use Rattle.pool_file_checks.proofs.CheckLemmas.{Leads, leads_same, object_on, object_stops}
use Rattle.pool_file_checks.proofs.TenantLemmas.{left_at}
use Rattle.pool_file_checks.proofs.judging.check_objects.Goals as goal

pub returns-in_err-check_object : goal.returns-in_err-check_object
returns-in_err-check_object c =
    let p = err_from_is_err_and c.from_residual.result c.from_residual.ensures.1 in
    let xs = c.args.objects.now in let i = c.loop-object.object-index in let x = c.object-item.result in
    let left : drop i xs ≡ x ∷ drop (suc i) xs = drop-cons xs i x c.loop-object-test.true ∙ ap (λ y. y ∷ drop (suc i) xs) (sym c.object-item.is) in
    rw (p.1, p.2) (object_stops (option_map (λ o. object_key (object_of o.now)) c.loop-object.last) (object_of x) (objects_of (drop (suc i) xs)) (object_checks None (objects_of xs))
    c.in_err-check_object.field-0.0
    (subst (λ os. Leads (object_checks (option_map (λ o. object_key (object_of o.now)) c.loop-object.last) (objects_of os)) (object_checks None (objects_of xs))) left c.loop-object.invariant)
    c.in_err-check_object.ensures)

pub loop-object-init : goal.loop-object-init
loop-object-init c = leads_same (object_checks None (objects_of c.args.objects.now))

pub loop-object-preserved : goal.loop-object-preserved
loop-object-preserved c =
    let xs = c.args.objects.now in let i = c.loop-object.object-index in let x = c.object-item.result in
    let last = option_map (λ o. object_key (object_of o.now)) c.loop-object.last in
    object_on last (object_of x) (objects_of (drop (i + 1) xs)) (object_checks None (objects_of xs))
    (subst (λ os. Leads (object_checks last (objects_of os)) (object_checks None (objects_of xs)))
    (left_at xs i x c.loop-object-test.true c.object-item.is) c.loop-object.invariant)
    c.in_ok-check_object.ensures

pub returns : goal.returns
returns c =
    let xs = c.args.objects.now in
    let last = option_map (λ o. object_key (object_of o.now)) c.loop-object.last in
    (subst (λ os. Leads (object_checks last (objects_of os)) (object_checks None (objects_of xs)))
    (drop_all c.loop-object.object-index xs c.loop-object-test.false) c.loop-object.invariant).passes tt
