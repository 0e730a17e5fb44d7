use Rattle.std.proofs.Common.{◌≡◌, ◌≤◌, ℕ, length, take, refl, sym, ap, subst, ◌∙◌, arith}
use Rattle.std.specs.Prelude.{All}
use Rattle.std.proofs.lemmas.List.{take_all}
use Rattle.git_model.specs.ObjectName.{IsObjectName}
use Rattle.tenant_tables.specs.View.{View, names}
use Rattle.tenant_tables.proofs.FoundLemmas.{begun_among, found_none, none_within, one_within}
use Rattle.tenant_tables.proofs.entry_list.EntryList.starting_with.Goals as goal

pub returns-in_default : goal.returns-in_default
returns-in_default c =
    let named = subst (λ (v : View). All IsObjectName (names v.entries)) c.self.view_is c.self.invariant.named in
    found_none _ c.args.count c.args.self.now.entries named c.in_default.ensures.none

pub returns-then-count-self : goal.returns-then-count-self
returns-then-count-self c =
    let named = subst (λ (v : View). All IsObjectName (names v.entries)) c.self.view_is c.self.invariant.named in
    let same : c.self.inside.committed ≡ c.args.self.now.committed = ap (λ (v : View). v.committed) c.self.view_is in
    let chosen = c.if-count-self.true in
    let size : c.args.self.now.committed ≡ c.args.count = omega (arith, same, chosen) in
    c.in_index.ensures
    ∙ begun_among _ _ _ c.args.count c.args.self.now.entries _ named c.in-Some.ensures.some
    (ap (λ (n : ℕ). take n c.args.self.now.entries) size)

pub returns-then-count-len : goal.returns-then-count-len
returns-then-count-len c =
    let named = subst (λ (v : View). All IsObjectName (names v.entries)) c.self.view_is c.self.invariant.named in
    let same : length c.self.inside.objects.entries ≡ length c.args.self.now.entries =
    ap (λ (v : View). length v.entries) c.self.view_is in
    let size : c.len.result ≡ length c.self.inside.objects.entries = c.len.ensures.len in
    let past = c.if-count-len.true in
    let all : length c.args.self.now.entries ≤ c.args.count = omega (arith, same, size, past) in
    c.in_index-found.ensures
    ∙ begun_among _ _ _ c.args.count c.args.self.now.entries _ named c.in-Some.ensures.some
    (sym (take_all c.args.count c.args.self.now.entries all))

pub returns-in-None : goal.returns-in-None
returns-in-None c =
    let named = subst (λ (v : View). All IsObjectName (names v.entries)) c.self.view_is c.self.invariant.named in
    none_within _ c.args.count c.args.self.now.entries (sym c.in-None.is ∙ c.in_index-found.ensures)
    ∙ begun_among _ _ _ c.args.count c.args.self.now.entries _ named c.in-Some.ensures.some refl

pub returns-in-One : goal.returns-in-One
returns-in-One c =
    let named = subst (λ (v : View). All IsObjectName (names v.entries)) c.self.view_is c.self.invariant.named in
    c.only_before.ensures
    ∙ one_within _ c.args.count c.args.self.now.entries _ (sym c.in-One.is ∙ c.in_index-found.ensures)
    ∙ begun_among _ _ _ c.args.count c.args.self.now.entries _ named c.in-Some.ensures.some refl

pub returns-in-Many : goal.returns-in-Many
returns-in-Many c =
    let named = subst (λ (v : View). All IsObjectName (names v.entries)) c.self.view_is c.self.invariant.named in
    c.among_first.ensures
    ∙ begun_among _ _ _ c.args.count c.args.self.now.entries _ named c.in-Some.ensures.some refl
