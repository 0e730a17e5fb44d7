-- What contracts see of a table, without the pool.
use Rattle.std.specs.Prelude.{ℕ, ◌==◌, List, Option, take, count_by}
use Rattle.std.specs.Map.{keys_of, lookup}
use Rattle.std.specs.Option.{option_map, option_and_then}
use Rattle.std.specs.Str.{bytes_eq}
use Rattle.tenant_tables.specs.declared.entry.Entry.{Entry}
use Rattle.tenant_tables.specs.declared.sight.Sight.{Sight}
use Rattle.tenant_tables.specs.declared.sight.Sight.TheVariants as sight
use Rattle.tenant_tables.specs.declared.summary.Summary.{Summary}

-- Object names with their entries, in the order in which they were added.
abbrev pub Entries : Type 0
Entries = List (List ℕ × Entry)

-- A table is its entries, and how many of them, from the first, are committed.
pub record View : Type 0 where
  pub entries : Entries
  pub committed : ℕ

-- The object names of entries.
abbrev pub names : Entries → List (List ℕ)
names entries = keys_of entries

-- The entries in sight: all, or the committed prefix.
abbrev pub in_sight : Sight → View → Entries
in_sight sight.All table = table.entries
in_sight sight.Committed table = take table.committed table.entries

-- The entry of a name, if it has one.
unfoldable pub entry_named : List ℕ → Entries → Option Entry
entry_named id entries = lookup (bytes_eq id) entries

-- The slot of a name, if it has one.
abbrev pub slot_of : List ℕ → Entries → Option ℕ
slot_of id entries = option_map (λ e. e.slot) (entry_named id entries)

-- The summary of a name, if it is the name of a tree.
abbrev pub summary_of : List ℕ → Entries → Option Summary
summary_of id entries = option_and_then (λ e. e.summary) (entry_named id entries)

-- How often entries hold a slot.
unfoldable pub held : Entries → ℕ → ℕ
held entries s = count_by (λ e. e.1.slot == s) entries
