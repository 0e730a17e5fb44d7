-- What is found in a list of entries in the order of their keys.
use Rattle.std.proofs.Common.{◌≡◌, ℕ, Bool, true, false, cond, List, [], ◌∷◌, map, Some, T, refl, sym, ap, subst, ◌∙◌, inl, inr}
use Rattle.std.specs.Ordering.{eq_by_cmp, is_lt}
use Rattle.std.specs.declared.cmp.Ordering.TheVariants.{Less}
use Rattle.std.specs.FinMap.{FinMap, find, is_sorted, entries, entries_sorted, values, from_entries, get-entries, get-from_entries}
use Rattle.std.specs.FinMap.Entries.{below_all}
use Rattle.std.proofs.lemmas.Cmp.{nat_list_cmp_total, tied_itself}
use Rattle.git_model.specs.Content.{Content}
use Rattle.pool_file_checks.specs.Repositories.{Named, content_key, contents_of, listed_contents}
use Rattle.pool_file_checks.proofs.Members.{Has, has_map, from_map}
use Rattle.pool_file_checks.proofs.Keys.{key_cmp, keyed, AreSorted, tied, ties, found_has, has_found}
use Rattle.tenant_refs.proofs.Entries.{less, first, second}

not_tied : (x q : List ℕ) (b : Bool) → key_cmp x q ≡ Less → eq_by_cmp key_cmp q x ≡ b
    → b ≡ false
not_tied x q true l e =
    let is : q ≡ x = tied q x e in
    let up : key_cmp x x ≡ Less = subst (λ (y : List ℕ). key_cmp x y ≡ Less) is l in
    let w = sym (tied_itself nat_list_cmp_total x) ∙ up in cc
not_tied x q false l e = refl

module _ {X : Type 0} where
  below_has : (x : List ℕ) (es : List (List ℕ × X)) (e : List ℕ × X) → T (below_all key_cmp x es) → Has es e
      → key_cmp x e.0 ≡ Less
  below_has x [] e b h = absurd h
  below_has x (f ∷ fs) e b (inl is) =
      subst (λ (g : List ℕ × X). key_cmp x g.0 ≡ Less) is
      (less (key_cmp x f.0) (first (is_lt (key_cmp x f.0)) (below_all key_cmp x fs) b))
  below_has x (f ∷ fs) e b (inr h) =
      below_has x fs e (second (is_lt (key_cmp x f.0)) (below_all key_cmp x fs) b) h

  -- an entry is found by its key, and nothing else is
  pub find_has : (es : List (List ℕ × X)) (e : List ℕ × X) → T (is_sorted key_cmp es) → Has es e
      → find key_cmp e.0 es ≡ Some e.1
  find_has [] e s h = absurd h
  find_has (f ∷ fs) e s (inl is) =
      subst (λ (g : List ℕ × X). find key_cmp g.0 (f ∷ fs) ≡ Some g.1) is
      (ap (λ (b : Bool). cond b (Some f.1) (find key_cmp f.0 fs)) (ties f.0 f.0 refl))
  find_has (f ∷ fs) e s (inr h) =
      let below = first (below_all key_cmp f.0 fs) (is_sorted key_cmp fs) s in
      let rest = second (below_all key_cmp f.0 fs) (is_sorted key_cmp fs) s in
      ap (λ (b : Bool). cond b (Some f.1) (find key_cmp e.0 fs))
      (not_tied f.0 e.0 (eq_by_cmp key_cmp e.0 f.0) (below_has f.0 fs e below h) refl)
      ∙ find_has fs e rest h

  pub has_entry : (es : List (List ℕ × X)) (q : List ℕ) (x : X) → find key_cmp q es ≡ Some x → Has es (q, x)
  has_entry [] q x e = cc
  has_entry (f ∷ fs) q x e = by (eq_by_cmp key_cmp q f.0) refl e (λ k. has_entry fs q x k)
    where
      by : (b : Bool) → eq_by_cmp key_cmp q f.0 ≡ b
          → cond b (Some f.1) (find key_cmp q fs) ≡ Some x
          → (find key_cmp q fs ≡ Some x → Has fs (q, x)) → Has (f ∷ fs) (q, x)
      by true t k later =
          let key = sym (tied q f.0 t) in let value : f.1 ≡ x = cc in
          inl (λ i. (key i, value i))
      by false t k later = inr (later k)

-- ---- the contents of a list, each once and in order

pub record Lists (xs cs : List Content) : Type 0 where
  pub sorted : AreSorted cs
  pub into : (c : Content) → Has xs c → Has cs c
  pub back : (c : Content) → Has cs c → Has xs c

keyed_values : (es : List (List ℕ × Content))
    → ((e : List ℕ × Content) → Has es e → content_key e.1 ≡ e.0)
    → keyed (map (λ e. e.1) es) ≡ es
keyed_values [] each = refl
keyed_values (e ∷ es) each =
    let key = each e (inl refl) in
    let rest = keyed_values es (λ f h. each f (inr h)) in
    λ i. (key i, e.1) ∷ rest i

module _ (xs : List Content) where
  abbrev listing : FinMap key_cmp Content
  listing = from_entries {R = key_cmp} (keyed xs)

  same_find : (q : List ℕ) → find key_cmp q (entries listing) ≡ find key_cmp q (keyed xs)
  same_find q = sym (get-entries listing q) ∙ get-from_entries nat_list_cmp_total (keyed xs) q

  of_entry : (e : List ℕ × Content) → Has (entries listing) e → Has xs e.1 × (content_key e.1 ≡ e.0)
  of_entry e h =
      found_has e.0 xs e.1
      (sym (same_find e.0) ∙ find_has (entries listing) e (entries_sorted listing) h)

  pub lists_values : Lists xs (values listing)
  lists_values = record {
    sorted = subst (λ (es : List (List ℕ × Content)). T (is_sorted key_cmp es))
        (sym (keyed_values (entries listing) (λ e h. (of_entry e h).1))) (entries_sorted listing);
    into = λ c h.
        has_map (λ e. e.1) (entries listing) (content_key c, c)
        (has_entry (entries listing) (content_key c) c
        (same_find (content_key c) ∙ has_found (content_key c) xs c h refl));
    back = λ c h.
        let f = from_map (λ (e : List ℕ × Content). e.1) (entries listing) c h in
        subst (λ (d : Content). Has xs d) f.is (of_entry f.from f.there).0;
  }

pub lists_contents : (all : List Named) → Lists (contents_of all) (listed_contents all)
unfolding listed_contents
lists_contents all = lists_values (contents_of all)
