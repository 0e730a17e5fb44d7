use Rattle.std.proofs.Common.{◌≡◌, ◌++◌, ◌∷◌, [], None, ap, refl}
use Rattle.tenant_tables.specs.View.{View}
use Rattle.pool_tests.proofs.TablesInLists.{IsList-push}
use Rattle.pool_tests.proofs.tables.plain_table.PlainTable.push_new.Given as given
use Rattle.pool_tests.proofs.tables.plain_table.PlainTable.push_new.Goals as goal

-- the entries afterwards
grown : (g : given.Over) (c : goal.After-unwrap g)
    → c.push.new.self.items ≡ c.self.inside.objects.items ++ (c.args.id, record { slot = c.in_ok-slot.slot; summary = None }) ∷ []
grown g c =
    let pushed = rw (c.unwrap.ensures, c.new.ensures) at c.push.ensures.items in
    rw c.in_ok-reserve.ensures.items at pushed

pub invariant_of-self-2 : goal.invariant_of-self-2
invariant_of-self-2 g c =
    let seen : c.self.inside.objects.items ≡ c.args.self.now.entries = ap (λ (v : View). v.entries) c.self.view_is in
    rw (grown g c) (IsList-push _ _ _ _ c.self.invariant (rw seen c.requires.spare) c.has_twenty_bytes.ensures (rw seen c.requires.new))

pub returns-clause-ok : goal.returns-clause-ok
returns-clause-ok g c = (
  c.in_ok-slot.slot,
  record { puts = c.in_ok-slot.ensures.puts; entries = rw (grown g c, ← c.self.view_is) refl },
)
