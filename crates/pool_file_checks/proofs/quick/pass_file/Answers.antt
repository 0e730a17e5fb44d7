use Rattle.std.proofs.Common.{List, None, Ok, length, map, sym, ap, subst, ◌∙◌}
use Rattle.std.specs.Prelude.{All}
use Rattle.std.proofs.lemmas.Bool.{OnTrue_at}
use Rattle.pool_file_format.specs.declared.raw.RawObject.{RawObject}
use Rattle.pool_file_format.specs.declared.raw.RawTenant.{RawTenant}
use Rattle.pool_file_format.specs.Shown.{objects_of, tenants_of}
use Rattle.pool_file_checks.specs.Checks.{Passes, Checked}
use Rattle.pool_file_checks.specs.FileRefs.{AreRising}
use Rattle.pool_file_checks.specs.Held.{numbers_of, held_checks}
use Rattle.pool_file_checks.specs.Objects.{IsContent, object_key}
use Rattle.pool_file_checks.specs.Own.{content_at, names_of}
use Rattle.pool_file_checks.specs.Quick.{HasKind, KnowsSums}
use Rattle.pool_file_checks.specs.Whole.{tenant_checks}
use Rattle.pool_file_checks.proofs.QuickLemmas.{passed_file}
use Rattle.pool_file_checks.proofs.quick.pass_file.Goals as goal

pub returns-clause-checks : goal.returns-clause-checks
returns-clause-checks c =
    let v = c.args.file.now.version in let xs = c.args.file.now.objects.items in let ts = c.args.file.now.tenants.items in
    let kinds = subst (λ (l : List RawObject). All HasKind (objects_of l)) c.deref.ensures.value (OnTrue_at c.if-not-are_in_order.false c.are_in_order.ensures.kinds) in
    let rising = subst (λ (l : List RawObject). AreRising None (map object_key (objects_of l))) c.deref.ensures.value (OnTrue_at c.if-not-are_in_order.false c.are_in_order.ensures.rising) in
    λ D same.
    let named = same ∙ ap (λ (l : List RawObject). names_of D (objects_of l)) (sym c.deref-2.ensures.value) in
    passed_file D v xs ts (Ok tt) kinds rising
    (subst (λ (l : List RawObject). Passes (tenant_checks D v (objects_of l) None (tenants_of ts))) c.deref-2.ensures.value
    (subst (λ (l : List RawTenant). Passes (tenant_checks D v (objects_of c.deref-2.result.now) None (tenants_of l))) c.deref-3.ensures.value
    (c.in_ok-known.ensures.checks D named)))
    (subst (λ (l : List RawObject). All (λ n. IsContent (content_at (objects_of l) n)) (numbers_of (tenants_of ts))) c.deref-2.ensures.value
    (subst (λ (l : List RawTenant). All (λ n. IsContent (content_at (objects_of c.deref-2.result.now) n)) (numbers_of (tenants_of l))) c.deref-3.ensures.value
    (c.in_ok-known.ensures.contents D named)))
    (subst (λ (l : List RawObject). Checked (held_checks (length l) (tenants_of ts)) (Ok tt)) c.as_slice.ensures.value
    (subst (λ (l : List RawTenant). Checked (held_checks (length c.as_slice.result.now) (tenants_of l)) (Ok tt)) c.deref-4.ensures.value c.in_ok-check_held.ensures))

pub returns-clause-known : goal.returns-clause-known
returns-clause-known c = λ D same.
    subst (λ (l : List RawObject). KnowsSums D (objects_of l) c.in_ok-known.known) c.deref-2.ensures.value
    (c.in_ok-known.ensures.known D (same ∙ ap (λ (l : List RawObject). names_of D (objects_of l)) (sym c.deref-2.ensures.value)))
