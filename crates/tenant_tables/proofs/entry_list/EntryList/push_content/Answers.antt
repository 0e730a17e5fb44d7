use Rattle.std.proofs.Common.{◌≡◌, [], ◌∷◌, ◌++◌, refl, sym, ap, ◌∙◌}
use Rattle.indexmap.proofs.CallerLemmas.{insert_entry-new}
use Rattle.tenant_tables.specs.View.{View, Entries, entry_named}
use Rattle.tenant_tables.specs.declared.entry.Entry.{Entry}
use Rattle.tenant_tables.proofs.IndexLemmas.{IsIndexed-push, IsIndexed-reordered}
use Rattle.tenant_tables.proofs.entry_list.EntryList.push_content.Given as given
use Rattle.tenant_tables.proofs.entry_list.EntryList.push_content.Goals as goal
use Rattle.tenant_tables.proofs.entry_list.EntryList.push_content.Goals.{After-unwrap}

-- the entries afterwards
grown : (g : given.Over) (c : After-unwrap g) → c.insert-2.new.self.entries
    ≡ c.self.inside.objects.entries ++ (c.args.id, record { slot = c.in_ok-slot.slot; summary = c.args.summary }) ∷ []
unfolding entry_named
grown g c =
    let added : Entry = record { slot = c.in_ok-slot.slot; summary = c.args.summary } in
    let same = c.in_ok-reserve.ensures.entries in
    let seen : c.self.inside.objects.entries ≡ c.args.self.now.entries =
    ap (λ (v : View). v.entries) c.self.view_is in
    let put = rw c.unwrap.ensures at c.insert-2.ensures.entries in
    let none = rw (sym (same ∙ seen)) at c.requires.new in
    put ∙ insert_entry-new _ c.reserve.new.self c.args.id added none
    ∙ ap (λ (es : Entries). es ++ (c.args.id, added) ∷ []) same

pub invariant_of-self-in_err-reserve-2 : goal.invariant_of-self-in_err-reserve-2
invariant_of-self-in_err-reserve-2 g c =
    rw c.in_ok-reserve.ensures.entries
    (IsIndexed-reordered _ _ _ _ c.self.invariant c.reserve-2.ensures.same)

pub invariant_of-self-in_err-slot : goal.invariant_of-self-in_err-slot
invariant_of-self-in_err-slot g c =
    rw c.in_ok-reserve.ensures.entries
    (IsIndexed-reordered _ _ _ _ c.self.invariant c.reserve-2.ensures.same)

pub invariant_of-self-2 : goal.invariant_of-self-2
invariant_of-self-2 g c =
    rw (grown g c)
    (IsIndexed-push _ _ _ _ _ _ (IsIndexed-reordered _ _ _ _ c.self.invariant c.reserve-2.ensures.same)
    c.has_twenty_bytes.ensures c.insert.ensures.committed c.insert.ensures.added
    (rw (grown g c) at c.insert-2.ensures.unique))

pub returns-clause-ok : goal.returns-clause-ok
returns-clause-ok g c = rw (grown g c, ← c.self.view_is) refl
