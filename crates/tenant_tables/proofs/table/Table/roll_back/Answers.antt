use Rattle.std.proofs.Common.{◌≡◌, ℕ, ◌+◌, ◌++◌, length, take, sym, ap, ◌∙◌}
use Rattle.tenant_tables.specs.Objects.{objects}
use Rattle.tenant_tables.specs.View.{View}
use Rattle.tenant_tables.proofs.Joined.{IsTable-roll_back, committed_are}
use Rattle.tenant_tables.proofs.table.Table.roll_back.Given as given
use Rattle.tenant_tables.proofs.table.Table.roll_back.Goals as goal

-- the entries afterwards
left : (g : given.Over) (c : goal.After-roll_back g)
    → c.self.inside.front ++ c.roll_back.new.self.entries
    ≡ take c.committed_len.result c.args.self.now.entries
left g c =
    ap (λ (v : View). c.self.inside.front ++ v.entries) c.roll_back.ensures
    ∙ committed_are c.self.inside.front c.self.inside.own.entries c.self.inside.own.committed
    ∙ ap (λ (v : View). take v.committed v.entries) c.self.view_is
    ∙ ap (λ (n : ℕ). take n c.args.self.now.entries) (sym c.committed_len.ensures.value)

pub invariant_of-self : goal.invariant_of-self
invariant_of-self g c = rw c.roll_back.ensures (IsTable-roll_back _ _ _ c.self.invariant)

pub returns-clause-stands : goal.returns-clause-stands
returns-clause-stands g c = rw (left g c) c.release_from.ensures.stands

pub returns-clause-others : goal.returns-clause-others
returns-clause-others g c = rw (left g c) c.release_from.ensures.others

pub returns-clause-entries : goal.returns-clause-entries
returns-clause-entries g c =
    rw (c.roll_back.ensures, ← c.self.view_is)
    (λ i. record {
      entries = committed_are c.self.inside.front c.self.inside.own.entries c.self.inside.own.committed i;
      committed = length c.self.inside.front + c.self.inside.own.committed;
    })

pub returns-clause-objects : goal.returns-clause-objects
returns-clause-objects g c =
    rw (left g c)
    (c.release_from.ensures.objects
    ∙ ap (λ (n : ℕ). take n (objects c.args.pool.now c.args.self.now.entries)) c.committed_len.ensures.value)
