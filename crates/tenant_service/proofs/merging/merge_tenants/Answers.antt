use Rattle.std.proofs.Common.{ℕ, List, map, refl, sym, ap, subst, ◌∙◌}
use Rattle.std.specs.List.{IsDistinct}
use Rattle.std.specs.Str.{bytes_eq}
use Rattle.pool_file.specs.declared.tenant_view.TenantView.{TenantView}
use Rattle.pool_file.specs.Worth.{AllStand, named_in}
use Rattle.pool_file_checks.specs.Repositories.{Named}
use Rattle.tenant_service.specs.Entries.{parts_of}
use Rattle.tenant_service.specs.ComingIn.{held_with, names_lent}
use Rattle.tenant_service.specs.Merging.{first_refused, merge_refusal}
use Rattle.tenant_service.specs.Saved.{saved_of}
use Rattle.tenant_service.specs.Tenants.{holdings}
use Rattle.tenant_service.proofs.BackLemmas.{names-held}
use Rattle.tenant_service.proofs.LentLemmas.{all-stand}
use Rattle.tenant_service.proofs.MergeLemmas.{are-saved, distinct-holdings, distinct-saved, merge-made, merge-refused, names-saved, with-merged}
use Rattle.tenant_service.proofs.merging.merge_tenants.Goals as goal

pub returns-in-Some-clause-ok : goal.returns-in-Some-clause-ok
returns-in-Some-clause-ok g c =
    let from = c.args.from.now in
    let es = c.args.others.now.entries in
    let before = holdings c.args.pool.now c.args.tenants.now.entries in
    let saved = are-saved g.N.Naming.digest_of from es c.in_ok-all.all.items c.in_ok-lent.lent.items
    c.deref.result.now c.requires.others.stands c.in_ok-all.ensures c.deref.ensures.value
    (c.in_ok-lent.ensures.saved from) in
    let names = ap names_lent c.deref-2.ensures.value
    ∙ names-saved from c.in_ok-lent.lent.items (saved_of (holdings from es)) saved in
    merge-refused (merge_refusal (holdings from es) before) c.in-Some.refusal (holdings from es) before
    c.answer.result
    (ap (λ (ks : List (List ℕ)). first_refused ks before) (sym names)
    ∙ sym (c.first_refusal.ensures c.args.pool.now) ∙ c.in-Some.is) c.answer.ensures

pub take_all_in-requires-clause-stand : goal.take_all_in-requires-clause-stand
take_all_in-requires-clause-stand g c =
    let D = g.N.Naming.digest_of in
    let from = c.args.from.now in
    subst (λ (vs : List TenantView). AllStand D from vs) (sym c.deref-3.ensures.value)
    (c.in_ok-lent.ensures.stand D from
    (subst (λ (vs : List TenantView). AllStand D from vs) (sym c.deref.ensures.value)
    (all-stand parts_of (λ e. refl) D from c.args.others.now.entries c.in_ok-all.all.items
    c.requires.others.stands c.in_ok-all.ensures)))

pub take_all_in-requires-clause-distinct : goal.take_all_in-requires-clause-distinct
take_all_in-requires-clause-distinct g c =
    let from = c.args.from.now in
    let es = c.args.others.now.entries in
    let saved = are-saved g.N.Naming.digest_of from es c.in_ok-all.all.items c.in_ok-lent.lent.items
    c.deref.result.now c.requires.others.stands c.in_ok-all.ensures c.deref.ensures.value
    (c.in_ok-lent.ensures.saved from) in
    subst (λ (ks : List (List ℕ)). IsDistinct bytes_eq ks)
    (sym (ap names_lent c.deref-3.ensures.value
    ∙ names-saved from c.in_ok-lent.lent.items (saved_of (holdings from es)) saved))
    (distinct-saved (holdings from es))

pub returns-clause-ok : goal.returns-clause-ok
returns-clause-ok g c =
    let D = g.N.Naming.digest_of in
    let from = c.args.from.now in
    let es = c.args.others.now.entries in
    let there = holdings from es in
    let before = holdings c.args.pool.now c.args.tenants.now.entries in
    let saved = are-saved D from es c.in_ok-all.all.items c.in_ok-lent.lent.items
    c.deref.result.now c.requires.others.stands c.in_ok-all.ensures c.deref.ensures.value
    (c.in_ok-lent.ensures.saved from) in
    let names = ap names_lent c.deref-2.ensures.value
    ∙ names-saved from c.in_ok-lent.lent.items (saved_of there) saved in
    merge-made (merge_refusal there before) there before
    (holdings c.take_all_in.new.pool c.take_all_in.new.tenants.entries)
    (ap (λ (ks : List (List ℕ)). first_refused ks before) (sym names)
    ∙ sym (c.first_refusal.ensures c.args.pool.now) ∙ c.in_default.is)
    (λ t. c.in_ok-take_all_in.ensures.ok t
    ∙ ap (λ (ns : List Named). held_with t ns before)
    (ap (map (named_in from)) c.deref-3.ensures.value ∙ saved)
    ∙ with-merged D there (names-held from es c.requires.others.names)
    (distinct-holdings from es c.len-distinct.ensures.unique) c.requires.sound t before)
