-- The objects in sight are those of a table that the pool backs, and have its summaries.
use Rattle.std.proofs.Common.{◌≡◌, ℕ, ◌<◌, ◌≤◌, Bool, true, false, cond, nat_lt, List, length, position, Option, Some, None, sym, ap, ◌∙◌, arith}
use Rattle.std.specs.Map.{lookup}
use Rattle.std.specs.Option.{option_and_then}
use Rattle.std.specs.Str.{bytes_eq}
use Rattle.std.proofs.lemmas.Bool.Decides.{nat_tests}
use Rattle.git_model.specs.Repository.{Object}
use Rattle.content_pool.specs.Pool.{Cells}
use Rattle.tenant_tables.specs.declared.entry.Entry.{Entry}
use Rattle.tenant_tables.specs.declared.sight.Sight.{Sight}
use Rattle.tenant_tables.specs.declared.sight.Sight.TheVariants as sight
use Rattle.tenant_tables.specs.IsBackedBy.{IsBackedBy, AreBacked}
use Rattle.tenant_tables.specs.Objects.{objects}
use Rattle.tenant_tables.specs.SumIn.{sum_in}
use Rattle.tenant_tables.specs.View.{View, Entries, names, entry_named, summary_of, in_sight}
use Rattle.tenant_tables.proofs.EntryLemmas.{lookup-take-found, lookup-take-none}
use Rattle.tenant_tables.proofs.InSight.{number_seen}
use Rattle.tenant_tables.proofs.Positions.{prefix}
use Rattle.tenant_tables.proofs.Shared.{IsBackedBy-take}
use Rattle.tenant_tables.proofs.SumsIn.{table-sums}

pub backed_seen : (digest : List ℕ → List ℕ) (p : Cells) (s : Sight) (t : View)
    → IsBackedBy digest p t.entries → IsBackedBy digest p (in_sight s t)
backed_seen digest p sight.All t stands = stands
backed_seen digest p sight.Committed t stands = IsBackedBy-take digest p t.committed t.entries stands

module _ (digest : List ℕ → List ℕ) (p : Cells) (s : Sight) (t : View) (os : List Object)
    (stands : IsBackedBy digest p t.entries) (seen : objects p (in_sight s t) ≡ os) where
  abbrev pub are_backed : AreBacked digest os
  are_backed = record {
    pool = p;
    entries = in_sight s t;
    stands = backed_seen digest p s t stands;
    same = seen;
  }

  -- the entry of a name among those in sight, by where it stands among all
  seen_entry : (id : List ℕ) (i : ℕ) (b : Bool) → Some i ≡ position (bytes_eq id) (names t.entries)
      → nat_lt i (length (in_sight s t)) ≡ b
      → entry_named id (in_sight s t) ≡ cond b (entry_named id t.entries) None
  unfolding entry_named
  seen_entry id i b at is =
      ap (lookup (bytes_eq id)) (sym (prefix s t))
      ∙ lookup-take-found (bytes_eq id) (length (in_sight s t)) i t.entries (sym at)
      ∙ ap (λ (c : Bool). cond c (lookup (bytes_eq id) t.entries) None) is

  summary_from : (id : List ℕ) (o : Option Entry) → entry_named id (in_sight s t) ≡ o
      → option_and_then (λ (e : Entry). e.summary) o ≡ sum_in os id
  summary_from id o is =
      ap (option_and_then (λ (e : Entry). e.summary)) (sym is)
      ∙ table-sums digest p (in_sight s t) (backed_seen digest p s t stands) id
      ∙ ap (λ (xs : List Object). sum_in xs id) seen

  pub summary_seen : (id : List ℕ) (i : ℕ) (e : Entry)
      → Some i ≡ position (bytes_eq id) (names t.entries) → Some e ≡ entry_named id t.entries
      → i < length os → e.summary ≡ sum_in os id
  summary_seen id i e at there lt =
      let size = number_seen p (in_sight s t) os seen in
      let here : nat_lt i (length (in_sight s t)) ≡ true = grind (arith, nat_tests) in
      summary_from id (Some e) (seen_entry id i true at here ∙ sym there)

  pub summary_unseen : (id : List ℕ) (i : ℕ) → Some i ≡ position (bytes_eq id) (names t.entries)
      → length os ≤ i → None ≡ sum_in os id
  summary_unseen id i at le =
      let size = number_seen p (in_sight s t) os seen in
      let past : nat_lt i (length (in_sight s t)) ≡ false = grind (arith, nat_tests) in
      summary_from id None (seen_entry id i false at past)

  pub no_summary : (id : List ℕ) → None ≡ entry_named id t.entries → None ≡ sum_in os id
  unfolding entry_named
  no_summary id none =
      summary_from id None
      (ap (lookup (bytes_eq id)) (sym (prefix s t))
      ∙ lookup-take-none (bytes_eq id) (length (in_sight s t)) t.entries (sym none))
