-- What a refused call leaves of the last checkpoint.
use Rattle.std.proofs.Common.{◌≡◌, ℕ, refl, List, Result, Ok, Err}
use Rattle.std.specs.Prelude.{OnErr}
use Rattle.git_model.specs.RefStore.{RefStore}
use Rattle.content_pool.specs.Pool.{Cells}
use Rattle.tenant_tables.specs.View.{View}
use Rattle.stream_parts.specs.declared.fault.Fault.{Fault}
use Rattle.stream_commands.specs.Lent.{IsUnchanged, Keeps}
use Rattle.stream_commands.specs.State.{KeepsCommitted}
use Rattle.import_session.specs.Session.{last_in}

-- what did nothing keeps the committed objects
pub unchanged_committed : (p : Cells) (old : View) (q : Cells) (new : View)
    → IsUnchanged p old q new → KeepsCommitted p old q new
unchanged_committed p old q new same = rw (same.pool, same.table) refl

-- what holds in any case holds where a call was refused
pub in_any_case : {P : Type 0} (r : Result Unit Fault) → P → OnErr r P
in_any_case (Ok u) holds = tt
in_any_case (Err e) holds = holds

-- one call after another: the committed objects stay in both, and the refs in the second
pub last_kept : (r : Result Unit Fault) (p : Cells) (t : View) (q : Cells) (u : View) (s : Cells)
    (v : View) (old new : RefStore)
    → KeepsCommitted p t q u → OnErr r (KeepsCommitted q u s v) → OnErr r (new ≡ old)
    → OnErr r (last_in s v new ≡ last_in p t old)
last_kept (Ok done) p t q u s v old new first second same = tt
last_kept (Err e) p t q u s v old new first second same = rw (same, second, first) refl

-- a checkpoint takes and gives up no hold
pub same_entries : (digest : List ℕ → List ℕ) (p : Cells) (t : View) (q : Cells) (u v : View)
    → v.entries ≡ u.entries → Keeps digest p t q u → Keeps digest p t q v
same_entries digest p t q u v same keeps = record {
  stands = rw same keeps.stands;
  others = rw same keeps.others;
}
