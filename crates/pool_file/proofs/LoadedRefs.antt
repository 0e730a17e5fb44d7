-- Refs that rise, set one after another.
use Rattle.std.proofs.Common.{◌≡◌, ◌≢◌, ℕ, ◌<◌, ◌≤◌, ◌+◌, ◌-◌, List, [], ◌∷◌, ◌++◌, map, length, get_or, take, drop, take_all, length-drop, codes, Option, None, Some, T, refl, sym, ap, subst, ◌∙◌, append_assoc, append-nil, arith}
use Rattle.std.specs.Prelude.{All, slice_get, unwrap_or}
use Rattle.std.specs.Option.{option_map, option_map_or}
use Rattle.std.specs.FinMap as finite
use Rattle.std.specs.FinMap.{is_sorted, entries-from_sorted, entries-insert, same_entries_map}
use Rattle.std.specs.FinMap.Entries.{put}
use Rattle.std.proofs.lemmas.Cmp.{nat_list_cmp_total}
use Rattle.std.proofs.lemmas.List.{drop_all}
use Rattle.std.proofs.Math.Seq.{drop-append_seam}
use Rattle.std.proofs.lemmas.Option.{slice_get-map}
use Rattle.content_pool.specs.Pool.{Cells, content}
use Rattle.git_model.specs.RefName.{IsRefName}
use Rattle.git_model.specs.RefStore.{RefMap, RefStore, no_refs, with_ref, with_head}
use Rattle.git_model.specs.Repository.{Object}
use Rattle.tenant_refs.specs.FullName.{namespaces}
use Rattle.tenant_refs.proofs.Entries.{put-gap, before-sorted}
use Rattle.tenant_refs.proofs.Stores.{made-nil}
use Rattle.tenant_tables.specs.declared.entry.Entry.{Entry}
use Rattle.tenant_tables.specs.View.{Entries, names}
use Rattle.tenant_tables.specs.Objects.{objects}
use Rattle.pool_file_format.specs.Format.{RawObject, RawRef, RawTenant}
use Rattle.pool_file_checks.specs.Checks.{Passes}
use Rattle.pool_file_checks.specs.FileRefs.{ref_checks}
use Rattle.pool_file_checks.proofs.TenantLemmas.{left_at}
use Rattle.pool_file_checks.specs.Saved.{ref_at, refs_at}
use Rattle.pool_file_checks.proofs.Keys.{key_cmp}
use Rattle.pool_file_checks.proofs.FileRefLemmas.{sorted_refs}
use Rattle.pool_file.specs.Refs.{IsRefIn, entry_in, with_refs}

-- ---- the object name at a place

target_of_entry : (e : Option (List ℕ × Entry)) (id : List ℕ) (slot : ℕ)
    → ◌≡◌ {A = Option (List ℕ × ℕ)} (Some (id, slot)) (option_map (λ e. (e.0, e.1.slot)) e)
    → unwrap_or (option_map (λ e. e.0) e) [] ≡ id
target_of_entry None id slot e = absurd cc
target_of_entry (Some x) id slot e =
    sym (ap (λ (o : Option (List ℕ × ℕ)). (unwrap_or o ([], 0)).0) e)

pub target_is : (entries : Entries) (place : ℕ) (id : List ℕ) (slot : ℕ)
    → ◌≡◌ {A = Option (List ℕ × ℕ)} (Some (id, slot))
    (option_map (λ e. (e.0, e.1.slot)) (slice_get entries place))
    → unwrap_or (slice_get (names entries) place) [] ≡ id
target_is entries place id slot e =
    ap (λ (o : Option (List ℕ)). unwrap_or o []) (slice_get-map (λ e. e.0) entries place)
    ∙ target_of_entry (slice_get entries place) id slot e

named_so : (pool : Cells) (e : Option (List ℕ × Entry))
    → unwrap_or (option_map (λ e. e.0) e) []
    ≡ option_map_or (λ (o : Object). o.id)
    (option_map (λ e. record { id = e.0; content = content pool e.1.slot }) e) []
named_so pool None = refl
named_so pool (Some e) = refl

id_is : (pool : Cells) (entries : Entries) (place : ℕ)
    → unwrap_or (slice_get (names entries) place) []
    ≡ option_map_or (λ o. o.id) (slice_get (objects pool entries) place) []
unfolding objects
id_is pool entries place =
    ap (λ (o : Option (List ℕ)). unwrap_or o []) (slice_get-map (λ e. e.0) entries place)
    ∙ named_so pool (slice_get entries place)
    ∙ sym (ap (λ (o : Option Object). option_map_or (λ x. x.id) o [])
    (slice_get-map (λ e. record { id = e.0; content = content pool e.1.slot }) entries place))

entries_so : (tenant : List ℕ) (pool : Cells) (entries : Entries) (rs : List RawRef)
    → map (entry_in (namespaces tenant) (names entries)) rs
    ≡ map (ref_at tenant (objects pool entries)) rs
entries_so tenant pool entries [] = refl
entries_so tenant pool entries (r ∷ rs) =
    let one = id_is pool entries r.place in
    λ i. ((ref_at tenant (objects pool entries) r).0, one i) ∷ entries_so tenant pool entries rs i

-- ---- the name after the namespaces

pub ref_after : (front full ref : List ℕ) → full ≡ front ++ ref
    → take (length full - length front) (drop (length front) full) ≡ ref
ref_after front full ref same =
    take_all (length full - length front) (drop (length front) full)
    (omega (arith, length-drop (length front) full))
    ∙ (ap (drop (length front)) same ∙ drop-append_seam front ref)

-- ---- refs that passed the checks

pub refs_in : (os : List RawObject) (t : RawTenant) (front : List ℕ) (count : ℕ)
    → Passes (ref_checks os t) → front ≡ namespaces t.name → count ≡ length t.numbers
    → All (IsRefIn front count) t.refs
refs_in os t front count p same size = λ k d less.
    let good = p.0 k d less in
    let within = p.1.1.0 k d less in
    record {
      ref = good.ref;
      full = good.full ∙ ap (λ (l : List ℕ). l ++ good.ref) (sym same);
      name = good.name;
      within = omega (arith, within, size);
    }

other_first : (a b : ℕ) (x y : List ℕ) → a ∷ x ≡ b ∷ y → a ≡ b
other_first a b x y e = cc

-- a ref name begins with `refs/`, and so is not `HEAD`
pub not_head : (text : List ℕ) → IsRefName text → text ≢ codes "HEAD"
not_head text is e =
    let same : ◌≡◌ {A = ℕ} 72 114 =
    other_first _ _ _ _ (sym e ∙ is.begins_with_refs.1) in absurd (omega arith)

-- ---- one after another

store_so : RefMap → List ℕ → RefStore
store_so refs head = record { refs = refs; head = head }

abbrev made : List (List ℕ × List ℕ) → RefMap
made es = finite.from_sorted es

made_again : (refs : RefMap) → refs ≡ made (finite.entries refs ++ [])
made_again refs =
    let nil = append-nil (finite.entries refs) in
    sym (ap made nil ∙ same_entries_map (made (finite.entries refs)) refs
    (entries-from_sorted key_cmp (finite.entries refs) (finite.entries_sorted refs)))

-- an entry above all others is put after them
put_last : (refs : RefMap) (k v : List ℕ) (es : List (List ℕ × List ℕ))
    → T (is_sorted key_cmp (finite.entries refs ++ (k, v) ∷ es))
    → finite.entries (finite.insert refs k v) ≡ finite.entries refs ++ (k, v) ∷ []
put_last refs k v es s =
    let before = finite.entries refs in
    let low = before-sorted key_cmp nat_list_cmp_total k v before es s in
    entries-insert nat_list_cmp_total refs k v
    ∙ ap (put key_cmp k v) (sym (append-nil before))
    ∙ put-gap key_cmp k v before [] low tt

with_refs_is : (store : RefStore) (es : List (List ℕ × List ℕ))
    → T (is_sorted key_cmp (finite.entries store.refs ++ es))
    → with_refs store es
    ≡ record { refs = made (finite.entries store.refs ++ es); head = store.head }
unfolding with_refs
with_refs_is store [] s = λ i. record { refs = made_again store.refs i; head = store.head }
with_refs_is store (e ∷ es) s =
    let before = finite.entries store.refs in
    let more : finite.entries (finite.insert store.refs e.0 e.1) ++ es ≡ before ++ e ∷ es =
    ap (λ (l : List (List ℕ × List ℕ)). l ++ es) (put_last store.refs e.0 e.1 es s)
    ∙ append_assoc before (e ∷ []) es in
    with_refs_is (with_ref store e.0 e.1) es
    (subst (λ (l : List (List ℕ × List ℕ)). T (is_sorted key_cmp l)) (sym more) s)
    ∙ λ i. record { refs = made (more i); head = store.head }

none_yet : finite.entries (no_refs).refs ≡ []
none_yet = ap finite.entries (sym made-nil) ∙ entries-from_sorted key_cmp [] tt

pub all_set : (os : List RawObject) (t : RawTenant) (pool : Cells) (entries : Entries)
    → Passes (ref_checks os t)
    → with_head (with_refs no_refs (map (entry_in (namespaces t.name) (names entries)) t.refs)) t.head
    ≡ refs_at t.name (objects pool entries) t.refs t.head
all_set os t pool entries p =
    let es = map (ref_at t.name (objects pool entries)) t.refs in
    let sorted : T (is_sorted key_cmp es) =
    sorted_refs os t.numbers t.name (objects pool entries) t.refs p.0 p.1.0 in
    let same_entries : finite.entries (no_refs).refs ++ es ≡ es =
    ap (λ (l : List (List ℕ × List ℕ)). l ++ es) none_yet in
    ap (λ (l : List (List ℕ × List ℕ)). with_head (with_refs no_refs l) t.head)
    (entries_so t.name pool entries t.refs)
    ∙ ap (λ (s : RefStore). with_head s t.head)
    (with_refs_is no_refs es
    (subst (λ (l : List (List ℕ × List ℕ)). T (is_sorted key_cmp l)) (sym same_entries) sorted))
    ∙ λ i. record { refs = made (same_entries i); head = t.head }

-- ---- the loop

module _ {X : Type 0} (shown : X → RawRef) (front : List ℕ) (ids : List (List ℕ)) where
  abbrev entries_of : List X → List (List ℕ × List ℕ)
  entries_of xs = map (entry_in front ids) (map shown xs)

  pub refs_on : (xs : List X) (i : ℕ) (x : X) (store last all : RefStore) → i < length xs
      → x ≡ get_or xs i x → last ≡ with_ref store (entry_in front ids (shown x)).0 (entry_in front ids (shown x)).1
      → with_refs store (entries_of (drop i xs)) ≡ all
      → with_refs last (entries_of (drop (i + 1) xs)) ≡ all
  unfolding with_refs
  refs_on xs i x store last all l e set before =
      ap (λ (s : RefStore). with_refs s (entries_of (drop (i + 1) xs))) set
      ∙ sym (ap (λ (ys : List X). with_refs store (entries_of ys)) (left_at xs i x l e)) ∙ before

  pub refs_done : (xs : List X) (i : ℕ) (store all : RefStore) → length xs ≤ i
      → with_refs store (entries_of (drop i xs)) ≡ all → store ≡ all
  unfolding with_refs
  refs_done xs i store all l before =
      ap (λ (ys : List X). with_refs store (entries_of ys)) (sym (drop_all i xs l)) ∙ before
