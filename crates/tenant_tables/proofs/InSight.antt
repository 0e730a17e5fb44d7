-- What a table has in sight stands in the pool as all its objects do.
use Rattle.std.proofs.Common.{◌≡◌, ℕ, Bool, true, false, cond, nat_lt, List, [], ◌∷◌, map, take, length, Option, Some, None, refl, sym, ◌∙◌, ap}
use Rattle.std.specs.Str.{bytes_eq}
use Rattle.std.specs.Map.{keys_of, lookup}
use Rattle.std.specs.Option.{option_map}
use Rattle.std.specs.List.{position_or_len}
use Rattle.content_pool.specs.Pool.{Cells, IsLive}
use Rattle.git_model.specs.Repository.{Object}
use Rattle.tenant_tables.specs.declared.entry.Entry.{Entry}
use Rattle.tenant_tables.specs.declared.sight.Sight.{Sight}
use Rattle.tenant_tables.specs.declared.sight.Sight.TheVariants as sight
use Rattle.tenant_tables.specs.View.{View, Entries, names, entry_named, slot_of, in_sight}
use Rattle.tenant_tables.specs.Objects.{objects}
use Rattle.tenant_tables.specs.IsBackedBy.{IsBackedBy}
use Rattle.tenant_tables.proofs.AddLemmas.{found_live}
use Rattle.tenant_tables.proofs.EntryLemmas.{lookup-take}
use Rattle.tenant_tables.proofs.TableLemmas.{length-objects}

-- what is found among the first entries is found among all
among_all : (n : ℕ) (id : List ℕ) (es : Entries) (s : ℕ) → Some s ≡ slot_of id (take n es)
    → Some s ≡ slot_of id es
unfolding entry_named
among_all n id es s h =
    by (nat_lt (position_or_len (bytes_eq id) (keys_of es)) n) (lookup (bytes_eq id) es)
    (h ∙ ap (option_map (λ (e : Entry). e.slot)) (lookup-take (bytes_eq id) n es))
  where
    by : (b : Bool) (o : Option Entry) → Some s ≡ option_map (λ (e : Entry). e.slot) (cond b o None)
        → Some s ≡ option_map (λ (e : Entry). e.slot) o
    by true o e = e
    by false o e = cc e

-- the slot of an object in sight is live
pub slot_live : (digest : List ℕ → List ℕ) (p : Cells) (look : Sight) (table : View) (id : List ℕ)
    (s : ℕ)
    → IsBackedBy digest p table.entries → Some s ≡ slot_of id (in_sight look table) → IsLive p s
slot_live digest p sight.All table id s stands h = found_live digest p id table.entries s stands h
slot_live digest p sight.Committed table id s stands h =
    found_live digest p id table.entries s stands (among_all table.committed id table.entries s h)

-- ---- their number and their names

pub number_seen : (p : Cells) (es : Entries) (os : List Object) → objects p es ≡ os
    → length es ≡ length os
number_seen p es os are = sym (length-objects p es) ∙ ap (λ (xs : List Object). length xs) are

names_of : (p : Cells) (es : Entries) → map (λ (o : Object). o.id) (objects p es) ≡ names es
unfolding objects
names_of p [] = refl
names_of p (e ∷ es) = ap (λ (ids : List (List ℕ)). e.0 ∷ ids) (names_of p es)

pub names_seen : (p : Cells) (es : Entries) (os : List Object) → objects p es ≡ os
    → names es ≡ map (λ o. o.id) os
names_seen p es os are = sym (names_of p es) ∙ ap (map (λ (o : Object). o.id)) are
