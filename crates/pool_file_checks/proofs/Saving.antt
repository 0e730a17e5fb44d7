-- What is known of repositories that can be saved.
use Rattle.std.proofs.Common.{◌≡◌, ℕ, ◌<◌, ◌≤◌, List, [], ◌∷◌, ◌++◌, map, length, Option, None, Some, refl, sym, ap, subst, ◌∙◌, inl, inr, arith}
use Rattle.std.specs.Prelude.{All, IfSome}
use Rattle.std.specs.List.{IsDistinct}
use Rattle.std.specs.Option.{option_map_or}
use Rattle.std.specs.Str.{bytes_eq}
use Rattle.std.specs.FinMap.{entries, entries_sorted, len-entries, get-entries, from_sorted, entries-from_sorted, same_entries_map}
use Rattle.std.proofs.lemmas.List.{length-map}
use Rattle.git_model.specs.Content.{Content}
use Rattle.git_model.specs.Repository.{Object}
use Rattle.git_model.specs.RefStore.{RefMap, RefStore, listed_refs, target_of}
use Rattle.git_model.specs.GoodRepository.{IsObject, objects_limit, refs_limit}
use Rattle.git_model.proofs.Places.{StandsAt}
use Rattle.tenant_refs.specs.FullName.{namespaces}
use Rattle.pool_file_format.specs.Format.{RawObject, RawRef, RawTenant}
use Rattle.pool_file_checks.specs.Own.{names_of, rows_of, own_objects, AreDistinct}
use Rattle.pool_file_checks.specs.Connecting.{AreConnected}
use Rattle.pool_file_checks.specs.Sums.{TreesFit}
use Rattle.pool_file_checks.specs.Tenants.{IsWorthSaving}
use Rattle.pool_file_checks.specs.FileRefs.{IsGoodRef, MayTarget, AreRising}
use Rattle.pool_file_checks.specs.Repositories.{Named, number_in, raw_ref, raw_tenant}
use Rattle.pool_file_checks.specs.Saved.{ref_at, refs_at, named_at}
use Rattle.pool_file_checks.specs.Saving.{CanSaveOne}
use Rattle.pool_file_checks.proofs.Members.{Has, from_map, all_has, all_from_has}
use Rattle.pool_file_checks.proofs.Keys.{key_cmp, AreSorted}
use Rattle.pool_file_checks.proofs.Rising.{rising_sorted, rising_with_front}
use Rattle.pool_file_checks.proofs.Numbers.{numbered}
use Rattle.pool_file_checks.proofs.Passing.{Holds}
use Rattle.pool_file_checks.proofs.OwnObjects.{ids, ids_of_rows}
use Rattle.pool_file_checks.proofs.FileRefLemmas.{short_name, full_is}
use Rattle.pool_file_checks.proofs.Found.{find_has}
use Rattle.pool_file_checks.proofs.GoodObjects.{distinct_ids, slice_of_place, has_standing, MayBeTarget, may_be_target}
use Rattle.pool_file_checks.proofs.RawTenants.{raws, raws_length, own_again, target_is}

is_empty : {A B : Type 0} (f : A → B) (xs : List A) → map f xs ≡ [] → xs ≡ []
is_empty f [] e = refl
is_empty f (x ∷ xs) e = cc

module _ (version : ℕ) (digest : List ℕ → List ℕ) (cs : List Content) (sorted : AreSorted cs)
    (n : Named) (can : CanSaveOne version digest n)
    (there : (o : Object) → Has n.repository.objects o → Has cs o.content) where
  abbrev os : List Object
  os = n.repository.objects

  abbrev raw : RawTenant
  raw = raw_tenant cs n

  abbrev refs : List (List ℕ × List ℕ)
  refs = listed_refs n.repository.refs

  is_object : (o : Object) → Has os o → IsObject digest os o
  is_object o h = all_has (IsObject digest os) os o can.good.objects.each h

  pub objects_again : own_objects digest (raws cs) raw.numbers ≡ os
  objects_again = own_again digest cs sorted os there (λ o h. (is_object o h).named)

  -- ---- numbers

  within : (k : ℕ) → Has raw.numbers k → k < length (raws cs)
  within k h =
      let f = from_map (λ (o : Object). number_in cs o.content) os k h in
      let w = (numbered cs f.from.content sorted (there f.from f.there)).within in
      let is = f.is in
      omega (arith, w, is, raws_length cs)

  distinct : AreDistinct (rows_of (names_of digest (raws cs)) raw.numbers)
  distinct =
      subst (IsDistinct bytes_eq)
      (sym (ap (λ (xs : List Object). ids xs) objects_again)
      ∙ ids_of_rows (raws cs) (rows_of (names_of digest (raws cs)) raw.numbers))
      (distinct_ids os can.good.objects.distinct)

  -- ---- refs

  held : (e : List ℕ × List ℕ) → Has refs e → target_of n.repository.refs e.0 ≡ Some e.1
  held e h =
      get-entries n.repository.refs.refs e.0
      ∙ find_has refs e (entries_sorted n.repository.refs.refs) h

  target : (e : List ℕ × List ℕ) → Has refs e → MayBeTarget os e.0 e.1
  target e h =
      may_be_target digest os e.0 e.1 can.good.objects.each
      (can.good.refs.targets e.0 e.1 (held e h))

  has_content : (id : List ℕ) (c : Content) → StandsAt os id c → Has cs c
  has_content id c s = there (record { id = id; content = c }) (has_standing os id c s)

  good_ref : (e : List ℕ × List ℕ) → Has refs e
      → IsGoodRef (namespaces n.tenant) (raws cs) raw.numbers (raw_ref n e)
  good_ref e h =
      let t = target e h in
      record {
        ref = e.0;
        full = full_is n.tenant e.0;
        name = can.good.refs.names e.0 e.1 (held e h);
        target = subst (λ (o : Option RawObject). IfSome o (MayTarget e.0))
            (sym (target_is cs os e.1 t.content sorted (has_content e.1 t.content t.stands) t.stands))
            t.may;
      }

  all_good : All (IsGoodRef (namespaces n.tenant) (raws cs) raw.numbers) raw.refs
  all_good = all_from_has (IsGoodRef (namespaces n.tenant) (raws cs) raw.numbers) raw.refs (λ r h.
      let f = from_map (raw_ref n) refs r h in
      subst (IsGoodRef (namespaces n.tenant) (raws cs) raw.numbers) f.is (good_ref f.from f.there))

  all_placed : All (λ r. r.place < length raw.numbers) raw.refs
  all_placed = all_from_has (λ r. r.place < length raw.numbers) raw.refs (λ r h.
      let f = from_map (raw_ref n) refs r h in
      let w = (target f.from f.there).stands.within in
      let size = length-map os (λ o. number_in cs o.content) in
      subst (λ (x : RawRef). x.place < length raw.numbers) f.is (omega (arith, w, size)))

  names_are : (es : List (List ℕ × List ℕ)) → map (λ r. r.name) (map (raw_ref n) es)
      ≡ map (λ a. namespaces n.tenant ++ a) (map (λ e. e.0) es)
  names_are [] = refl
  names_are (e ∷ es) = λ i. full_is n.tenant e.0 i ∷ names_are es i

  rising : AreRising None (map (λ r. r.name) raw.refs)
  rising =
      subst (AreRising None) (sym (names_are refs))
      (rising_with_front (namespaces n.tenant) None (map (λ e. e.0) refs)
      (rising_sorted refs (entries_sorted n.repository.refs.refs)))

  -- ---- all checks of the tenant

  worth : IsWorthSaving raw
  worth = elim can.worth [
    | inl some ↦ inl (λ none. some (is_empty (λ o. number_in cs o.content) os none))
    | inr head ↦ inr head
  ]

  few : length raw.numbers ≤ objects_limit
  few =
      let size = length-map os (λ o. number_in cs o.content) in
      let few = can.good.objects.few in
      omega (arith, size, few)

  few_refs : length raw.refs ≤ refs_limit
  few_refs =
      let size = length-map refs (raw_ref n) in
      let entries_size = len-entries n.repository.refs.refs in
      let few = can.good.refs.few in
      omega (arith, size, entries_size, few)

  pub holds_saved : Holds digest version (raws cs) raw
  holds_saved = record {
    name = can.name;
    worth = worth;
    numbers = all_from_has (λ k. k < length (raws cs)) raw.numbers within;
    few = few;
    few_refs = few_refs;
    distinct = distinct;
    connected = subst AreConnected (sym objects_again) can.good.objects.connected;
    trees = subst (TreesFit []) (sym objects_again) can.good.trees;
    refs = all_good;
    rising = rising;
    places = all_placed;
    head = can.good.refs.head;
  }

  -- ---- and back

  ref_again : (e : List ℕ × List ℕ) → Has refs e → ref_at n.tenant os (raw_ref n e) ≡ e
  ref_again e h =
      let t = target e h in
      let name = short_name n.tenant e.0 in
      let id = ap (λ (o : Option Object). option_map_or (λ x. x.id) o [])
      (slice_of_place os e.1 t.content t.stands) in
      λ i. (name i, id i)

  refs_again : (es : List (List ℕ × List ℕ))
      → ((e : List ℕ × List ℕ) → Has es e → ref_at n.tenant os (raw_ref n e) ≡ e)
      → map (ref_at n.tenant os) (map (raw_ref n) es) ≡ es
  refs_again [] each = refl
  refs_again (e ∷ es) each =
      let one = each e (inl refl) in
      let rest = refs_again es (λ f h. each f (inr h)) in
      λ i. one i ∷ rest i

  map_again : (m : RefMap) → from_sorted {R = key_cmp} (entries m) ≡ m
  map_again m =
      same_entries_map (from_sorted {R = key_cmp} (entries m)) m
      (entries-from_sorted key_cmp (entries m) (entries_sorted m))

  store_again : refs_at n.tenant os raw.refs raw.head ≡ n.repository.refs
  store_again =
      let store = ap (λ (es : List (List ℕ × List ℕ)). from_sorted {R = key_cmp} es)
      (refs_again refs ref_again) ∙ map_again n.repository.refs.refs in
      λ i. record { refs = store i; head = n.repository.refs.head }

  pub named_again : named_at digest (raws cs) raw ≡ n
  named_again =
      ap (λ (xs : List Object). record {
        tenant = n.tenant;
        repository = record { objects = xs; refs = refs_at n.tenant xs raw.refs raw.head };
      }) objects_again
      ∙ ap (λ (s : RefStore). record {
        tenant = n.tenant;
        repository = record { objects = os; refs = s };
      }) store_again
