use Rattle.std.proofs.Common.{List, None, Err, length, ◌++◌, sym, ap, subst, ◌∙◌}
use Rattle.std.specs.Prelude.{All}
use Rattle.std.proofs.lemmas.Result.{err_from_is_err_and}
use Rattle.pool_file_format.specs.declared.raw.RawObject.{RawObject}
use Rattle.pool_file_format.specs.declared.raw.RawTenant.{RawTenant}
use Rattle.pool_file_format.specs.Shown.{objects_of, tenants_of}
use Rattle.pool_file_checks.specs.Checks.{Passes, Checked}
use Rattle.pool_file_checks.specs.Objects.{CanStore, object_checks}
use Rattle.pool_file_checks.specs.Own.{names_of}
use Rattle.pool_file_checks.specs.Held.{held_checks}
use Rattle.pool_file_checks.specs.Whole.{tenant_checks}
use Rattle.pool_file_checks.proofs.WholeLemmas.{front_stops, all_stored, tenants_stop, held_decides}
use Rattle.pool_file_checks.proofs.whole.check_in_order.Goals as goal

pub returns-in_err-check_objects : goal.returns-in_err-check_objects
returns-in_err-check_objects c =
    let p = err_from_is_err_and c.from_residual.result c.from_residual.ensures.1 in
    let v = c.args.file.now.version in let xs = c.args.file.now.objects.items in let ts = c.args.file.now.tenants.items in
    λ D same. rw (p.1, p.2) (front_stops (object_checks None (objects_of xs))
    (tenant_checks D v (objects_of xs) None (tenants_of ts) ++ held_checks (length (objects_of xs)) (tenants_of ts)) c.in_err-check_objects.field-0.0
    (subst (λ (l : List RawObject). Checked (object_checks None (objects_of l)) (Err c.in_err-check_objects.field-0.0)) c.deref.ensures.value c.in_err-check_objects.ensures))

pub returns-in_err-check_tenants : goal.returns-in_err-check_tenants
returns-in_err-check_tenants c =
    let p = err_from_is_err_and c.from_residual-in_err-check_tenants.result c.from_residual-in_err-check_tenants.ensures.1 in
    let v = c.args.file.now.version in let xs = c.args.file.now.objects.items in let ts = c.args.file.now.tenants.items in
    let e = c.in_err-check_tenants.field-0.0 in
    let good : Passes (object_checks None (objects_of xs)) = subst (λ (l : List RawObject). Passes (object_checks None (objects_of l))) c.deref.ensures.value c.in_ok-check_objects.ensures in
    let stored : All CanStore (objects_of c.deref-2.result.now) =
    subst (λ (l : List RawObject). All CanStore (objects_of l)) (sym c.deref-2.ensures.value) (all_stored None (objects_of xs) good) in
    λ D same. rw (p.1, p.2) (tenants_stop D v xs ts e good
    (subst (λ (l : List RawObject). Checked (tenant_checks D v (objects_of l) None (tenants_of ts)) (Err e)) c.deref-2.ensures.value
    (subst (λ (l : List RawTenant). Checked (tenant_checks D v (objects_of c.deref-2.result.now) None (tenants_of l)) (Err e)) c.deref-3.ensures.value
    (c.in_err-check_tenants.ensures D (same ∙ ap (λ (l : List RawObject). names_of D (objects_of l)) (sym c.deref-2.ensures.value)) stored))))

pub returns : goal.returns
returns c =
    let v = c.args.file.now.version in let xs = c.args.file.now.objects.items in let ts = c.args.file.now.tenants.items in
    let good : Passes (object_checks None (objects_of xs)) = subst (λ (l : List RawObject). Passes (object_checks None (objects_of l))) c.deref.ensures.value c.in_ok-check_objects.ensures in
    let stored : All CanStore (objects_of c.deref-2.result.now) =
    subst (λ (l : List RawObject). All CanStore (objects_of l)) (sym c.deref-2.ensures.value) (all_stored None (objects_of xs) good) in
    λ D same. held_decides D v xs ts c.check_held.result good
    (subst (λ (l : List RawObject). Passes (tenant_checks D v (objects_of l) None (tenants_of ts))) c.deref-2.ensures.value
    (subst (λ (l : List RawTenant). Passes (tenant_checks D v (objects_of c.deref-2.result.now) None (tenants_of l))) c.deref-3.ensures.value
    (c.in_ok-check_tenants.ensures D (same ∙ ap (λ (l : List RawObject). names_of D (objects_of l)) (sym c.deref-2.ensures.value)) stored)))
    (subst (λ (l : List RawObject). Checked (held_checks (length l) (tenants_of ts)) c.check_held.result) c.as_slice.ensures.value
    (subst (λ (l : List RawTenant). Checked (held_checks (length c.as_slice.result.now) (tenants_of l)) c.check_held.result) c.deref-4.ensures.value c.check_held.ensures))
