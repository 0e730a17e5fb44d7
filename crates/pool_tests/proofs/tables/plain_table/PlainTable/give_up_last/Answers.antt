use Rattle.std.proofs.Common.{◌≡◌, ◌<◌, length, sym, ap, subst, ◌∙◌}
use Rattle.std.proofs.lemmas.List.{append-nil}
use Rattle.pool_tests.specs.PlainTable.{IsList}
use Rattle.tenant_tables.specs.View.{View, Entries}
use Rattle.tenant_tables.proofs.TableLemmas.{last_live, last_given_up, last_objects}
use Rattle.pool_tests.proofs.TablesInLists.{IsList-pop}
use Rattle.pool_tests.proofs.tables.plain_table.PlainTable.give_up_last.Goals as goal

pub release-requires : goal.release-requires
release-requires g c = rw c.slot.ensures
    (last_live _ _ _ _ _ _ (sym (ap (λ (v : View). v.entries) c.self.view_is) ∙ c.in-Some.ensures.items) c.requires.stands)

pub invariant_of-self : goal.invariant_of-self
invariant_of-self g c =
    subst (λ (es : Entries). IsList es c.self.inside.committed)
    (c.in_default.ensures.items ∙ append-nil _) c.self.invariant

pub invariant_of-self-2 : goal.invariant_of-self-2
invariant_of-self-2 g c =
    let is = c.in-Some.ensures.items in
    let seen : c.self.inside.objects.items ≡ c.args.self.now.entries = ap (λ (v : View). v.entries) c.self.view_is in
    let prefix : c.self.inside.committed ≡ c.args.self.now.committed = ap (λ (v : View). v.committed) c.self.view_is in
    let beyond : c.self.inside.committed < length c.self.inside.objects.items = rw (prefix, seen) c.requires.open in
    IsList-pop _ _ _ (rw is at c.self.invariant) (rw is at beyond)

pub returns-clause-stands : goal.returns-clause-stands
returns-clause-stands g c =
    (last_given_up _ _ _ _ _ _ _ (sym (ap (λ (v : View). v.entries) c.self.view_is) ∙ c.in-Some.ensures.items) c.requires.stands (rw c.slot.ensures at c.release.ensures)).0

pub returns-clause-others : goal.returns-clause-others
returns-clause-others g c =
    (last_given_up _ _ _ _ _ _ _ (sym (ap (λ (v : View). v.entries) c.self.view_is) ∙ c.in-Some.ensures.items) c.requires.stands (rw c.slot.ensures at c.release.ensures)).1

pub returns-clause-objects : goal.returns-clause-objects
returns-clause-objects g c =
    last_objects _ _ _ _ _ _ _
    (sym (ap (λ (v : View). v.entries) c.self.view_is) ∙ c.in-Some.ensures.items) c.requires.stands
    (rw c.slot.ensures at c.release.ensures)
