-- The objects in sight are the first of a table: where they stand, and what their slots hold.
use Rattle.std.proofs.Common.{◌≡◌, ℕ, zero, suc, ◌+◌, ◌<◌, ◌≤◌, not, cond, min, List, [], ◌∷◌, length, take, slice_get, position, refl, sym, ap, subst, ◌∙◌, Option, Some, None, arith}
use Rattle.std.specs.List.{position_or_len}
use Rattle.std.specs.Option.{option_map}
use Rattle.std.specs.Str.{bytes_eq}
use Rattle.std.proofs.lemmas.List.{length-take, take_min, take-map, length-map}
use Rattle.std.proofs.Math.Seq.{take-length}
use Rattle.git_model.specs.Content.{Content}
use Rattle.git_model.specs.Repository.{Object}
use Rattle.git_model.specs.References.{place_of}
use Rattle.content_pool.specs.Pool.{Cells, content, IsLive}
use Rattle.tenant_tables.specs.declared.entry.Entry.{Entry}
use Rattle.tenant_tables.specs.declared.sight.Sight.{Sight}
use Rattle.tenant_tables.specs.declared.sight.Sight.TheVariants as sight
use Rattle.tenant_tables.specs.View.{View, Entries, names, in_sight}
use Rattle.tenant_tables.specs.Objects.{objects}
use Rattle.tenant_tables.specs.IsBackedBy.{IsBackedBy}
use Rattle.tenant_tables.proofs.EntryLemmas.{missing, position-found, position-take}
use Rattle.tenant_tables.proofs.HoldLemmas.{held-at}
use Rattle.tenant_tables.proofs.TableLemmas.{length-objects}

-- ---- places

place_named : (p : Cells) (id : List ℕ) (es : Entries)
    → place_of id (objects p es) ≡ position_or_len (bytes_eq id) (names es)
unfolding place_of objects
place_named p id [] = refl
place_named p id (e ∷ es) =
    ap (λ (n : ℕ). cond (not (bytes_eq id e.0)) (1 + n) 0) (place_named p id es)

-- what is in sight is a prefix of the entries
pub prefix : (s : Sight) (t : View) → take (length (in_sight s t)) t.entries ≡ in_sight s t
prefix sight.All t = take-length t.entries
prefix sight.Committed t =
    ap (λ (n : ℕ). take n t.entries) (length-take t.committed t.entries)
    ∙ take_min t.committed t.entries

-- where a name stands among the objects in sight, by where it stands among all
module _ (p : Cells) (s : Sight) (t : View) (id : List ℕ) (os : List Object)
    (seen : objects p (in_sight s t) ≡ os) where
  size : length os ≡ length (in_sight s t)
  size = ap length (sym seen) ∙ length-objects p (in_sight s t)

  place_seen : place_of id os
      ≡ min (length os) (position_or_len (bytes_eq id) (names t.entries))
  place_seen =
      let n = length (in_sight s t) in
      ap (place_of id) (sym seen) ∙ place_named p id (in_sight s t)
      ∙ ap (λ (es : Entries). position_or_len (bytes_eq id) (names es)) (sym (prefix s t))
      ∙ ap (position_or_len (bytes_eq id)) (sym (take-map (λ (e : List ℕ × Entry). e.0) n t.entries))
      ∙ position-take (bytes_eq id) n (names t.entries)
      ∙ ap (λ (k : ℕ). min k (position_or_len (bytes_eq id) (names t.entries))) (sym size)

  size_all : length os ≤ length (names t.entries)
  size_all =
      let e = ap length (prefix s t) in
      let n = length-take (length (in_sight s t)) t.entries in
      let m = length-map t.entries (λ (x : List ℕ × Entry). x.0) in
      let l = size in omega arith

  pub place_found : (i : ℕ) → Some i ≡ position (bytes_eq id) (names t.entries) → i < length os
      → place_of id os ≡ i
  place_found i h lt =
      let is = position-found (bytes_eq id) (names t.entries) i (sym h) in
      let e = place_seen in omega arith

  pub place_unseen : (i : ℕ) → Some i ≡ position (bytes_eq id) (names t.entries) → length os ≤ i
      → place_of id os ≡ length os
  place_unseen i h le =
      let is = position-found (bytes_eq id) (names t.entries) i (sym h) in
      let e = place_seen in omega arith

  pub place_missing : None ≡ position (bytes_eq id) (names t.entries)
      → place_of id os ≡ length os
  place_missing h =
      let none = missing (bytes_eq id) (names t.entries) (sym h) in
      let l = size_all in
      let e = place_seen in omega arith

-- ---- objects by their places

slice_get-take : {X : Type 0} (n i : ℕ) (xs : List X) → i < n → slice_get (take n xs) i ≡ slice_get xs i
slice_get-take zero i xs lt = absurd (omega arith)
slice_get-take (suc n) i [] lt = refl
slice_get-take (suc n) zero (x ∷ xs) lt = refl
slice_get-take (suc n) (suc i) (x ∷ xs) lt = slice_get-take n i xs (omega arith)

abbrev object_of : Cells → List ℕ × Entry → Object
object_of p e = record { id = e.0; content = content p e.1.slot }

slice_get-objects : (p : Cells) (es : Entries) (i : ℕ)
    → slice_get (objects p es) i ≡ option_map (object_of p) (slice_get es i)
unfolding objects
slice_get-objects p [] i = refl
slice_get-objects p (e ∷ es) zero = refl
slice_get-objects p (e ∷ es) (suc i) = slice_get-objects p es i

-- what a table answers of a place
abbrev told : List ℕ × Entry → List ℕ × ℕ
told e = (e.0, e.1.slot)

told_same : (id : List ℕ) (slot : ℕ) (r : List ℕ × ℕ) → Some (id, slot) ≡ Some r → (id, slot) ≡ r
told_same id slot r h = cc h

entry_told : (o : Option (List ℕ × Entry)) (id : List ℕ) (slot : ℕ)
    → Some (id, slot) ≡ option_map told o → (e : Entry) × (o ≡ Some (id, e)) × (e.slot ≡ slot)
entry_told None id slot h = cc h
entry_told (Some x) id slot h =
    let e = told_same id slot (told x) h in
    let name : x.0 ≡ id = sym (ap (λ (r : List ℕ × ℕ). r.0) e) in
    (x.1, λ i. Some (name i, x.1), sym (ap (λ (r : List ℕ × ℕ). r.1) e))

pub told_live : (digest : List ℕ → List ℕ) (p : Cells) (es : Entries) (i : ℕ) (id : List ℕ) (slot : ℕ)
    → IsBackedBy digest p es → Some (id, slot) ≡ option_map told (slice_get es i) → IsLive p slot
told_live digest p es i id slot stands h =
    let at = entry_told (slice_get es i) id slot h in
    let n = stands.counted at.0.slot in
    let m = held-at es i id at.0 at.1 in
    subst (IsLive p) at.2 (omega arith)

module _ (p : Cells) (s : Sight) (t : View) (i : ℕ) (os : List Object)
    (seen : objects p (in_sight s t) ≡ os) (lt : i < length os) where
  object_seen : slice_get os i ≡ option_map (object_of p) (slice_get t.entries i)
  object_seen =
      let within : i < length (in_sight s t) = let n = size p s t [] os seen in omega arith in
      ap (λ (xs : List Object). slice_get xs i) (sym seen) ∙ slice_get-objects p (in_sight s t) i
      ∙ ap (option_map (object_of p))
      (ap (λ (es : Entries). slice_get es i) (sym (prefix s t))
      ∙ slice_get-take (length (in_sight s t)) i t.entries within)

  pub object_told : (id : List ℕ) (slot : ℕ) (c : Content)
      → Some (id, slot) ≡ option_map told (slice_get t.entries i) → c ≡ content p slot
      → Some (record { id = id; content = c }) ≡ slice_get os i
  object_told id slot c h is =
      let at = entry_told (slice_get t.entries i) id slot h in
      sym (object_seen ∙ ap (option_map (object_of p)) at.1
      ∙ ap (λ (k : ℕ). Some (record { id = id; content = content p k })) at.2
      ∙ ap (λ (x : Content). Some (record { id = id; content = x })) (sym is))

  pub nothing_told : None ≡ option_map told (slice_get t.entries i) → None ≡ slice_get os i
  nothing_told h = by (slice_get t.entries i) h object_seen
    where
      by : (o : Option (List ℕ × Entry)) → None ≡ option_map told o
          → slice_get os i ≡ option_map (object_of p) o → None ≡ slice_get os i
      by None h e = sym e
      by (Some x) h e = cc h
