use Rattle.std.proofs.Common.{◌≡◌, List, length, refl, ap, ◌∙◌, sym, subst}
use Rattle.std.specs.Prelude.{All}
use Rattle.git_model.specs.RefName.{IsRefName}
use Rattle.tenant_refs.specs.FullName.{namespaces}
use Rattle.pool_file_format.specs.declared.raw.RawRef.{RawRef as Ref}
use Rattle.pool_file_format.specs.Shown.{refs_of, tenant_of}
use Rattle.pool_file.specs.Refs.{IsRefIn}
use Rattle.pool_file.proofs.LoadedRefs.{refs_in, not_head}
use Rattle.pool_file.proofs.refs.fill_refs.Goals as goal

pub set_refs-requires : goal.set_refs-requires
set_refs-requires c =
    let p = c.requires.checked in
    let front = c.deref-2.result.now in
    let count = length c.args.table.now.entries in
    let same : front ≡ namespaces c.args.tenant.now.name.items =
    c.deref-2.ensures.value ∙ c.in_ok-front.ensures ∙ ap namespaces c.deref.ensures.value in
    subst (λ (l : List Ref). All (IsRefIn front count) (refs_of l)) (sym c.deref-3.ensures.value)
    (refs_in p.0 (tenant_of c.args.tenant.now) front count p.1 same c.requires.counted)

pub set_head-requires : goal.set_head-requires
set_head-requires c =
    let head : c.in_ok-head.head ≡ c.args.tenant.now.head.items =
    c.in_ok-head.ensures ∙ c.deref-4.ensures.value in
    not_head c.in_ok-head.head
    (subst IsRefName (sym head) c.requires.checked.1.1.1.1.0.name)

pub returns : goal.returns
returns c =
    let same : c.deref-2.result.now ≡ namespaces c.args.tenant.now.name.items =
    c.deref-2.ensures.value ∙ c.in_ok-front.ensures ∙ ap namespaces c.deref.ensures.value in
    let head : c.in_ok-head.head ≡ c.args.tenant.now.head.items =
    c.in_ok-head.ensures ∙ c.deref-4.ensures.value in
    rw (c.set_head.ensures, c.in_ok-set_refs.ensures, c.deref-3.ensures.value, same, head) refl
