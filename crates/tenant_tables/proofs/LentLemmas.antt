-- What calls keep, one after another.
use Rattle.std.proofs.Common.{ℕ, List}
use Rattle.content_pool.specs.Pool.{Cells}
use Rattle.tenant_tables.specs.View.{View}
use Rattle.tenant_tables.specs.IsBackedBy.{IsBackedBy}
use Rattle.tenant_tables.specs.Lent.{Keeps}
use Rattle.tenant_tables.proofs.TableLemmas.{PreservesOthers-refl, PreservesOthers-then}

-- a call that does nothing
pub Keeps-refl : (digest : List ℕ → List ℕ) (p : Cells) (t : View) → IsBackedBy digest p t.entries
    → Keeps digest p t p t
Keeps-refl digest p t stands = record { stands = stands; others = PreservesOthers-refl p t.entries }

-- a call after another
pub Keeps-then : (digest : List ℕ → List ℕ) (p : Cells) (t : View) (q : Cells) (u : View)
    (r : Cells) (v : View)
    → Keeps digest p t q u → Keeps digest q u r v → Keeps digest p t r v
Keeps-then digest p t q u r v first second = record {
  stands = second.stands;
  others = PreservesOthers-then p q r t.entries u.entries v.entries first.others second.others;
}
