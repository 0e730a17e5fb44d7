use Rattle.std.proofs.Common.{◌≡◌, [], ◌∷◌, ◌++◌, refl, sym, ap, ◌∙◌}
use Rattle.indexmap.proofs.CallerLemmas.{insert_entry-new}
use Rattle.tenant_tables.specs.View.{View, Entries, entry_named}
use Rattle.tenant_tables.proofs.IndexLemmas.{IsIndexed-push, IsIndexed-reordered}
use Rattle.tenant_tables.proofs.entry_list.EntryList.push.Goals as goal

-- the entries afterwards
grown : (c : goal.After-unwrap) → c.insert-2.new.self.entries
    ≡ c.self.inside.objects.entries ++ (c.args.id, c.args.entry) ∷ []
unfolding entry_named
grown c =
    let same = c.in_ok-reserve.ensures.entries in
    let seen : c.self.inside.objects.entries ≡ c.args.self.now.entries =
    ap (λ (v : View). v.entries) c.self.view_is in
    let put = rw c.unwrap.ensures at c.insert-2.ensures.entries in
    let none = rw (sym (same ∙ seen)) at c.requires in
    put ∙ insert_entry-new _ c.reserve.new.self c.args.id c.args.entry none
    ∙ ap (λ (es : Entries). es ++ (c.args.id, c.args.entry) ∷ []) same

pub invariant_of-self-in_err-reserve-2 : goal.invariant_of-self-in_err-reserve-2
invariant_of-self-in_err-reserve-2 c =
    rw c.in_ok-reserve.ensures.entries
    (IsIndexed-reordered _ _ _ _ c.self.invariant c.reserve-2.ensures.same)

pub invariant_of-self-2 : goal.invariant_of-self-2
invariant_of-self-2 c =
    rw (grown c)
    (IsIndexed-push _ _ _ _ _ _ (IsIndexed-reordered _ _ _ _ c.self.invariant c.reserve-2.ensures.same)
    c.has_twenty_bytes.ensures c.insert.ensures.committed c.insert.ensures.added
    (rw (grown c) at c.insert-2.ensures.unique))

pub returns-clause-ok : goal.returns-clause-ok
returns-clause-ok c = rw (grown c, ← c.self.view_is) refl
