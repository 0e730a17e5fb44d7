-- Entries in Git's order: neighbours in order and no directory with a twin say that all names are
-- distinct.
use Rattle.std.proofs.Common.{◌≡◌, ◌≢◌, ℕ, ◌+◌, ◌-◌, ◌<◌, ◌⊎◌, inl, inr, Bool, true, false, List, [], ◌∷◌, ◌++◌, length, get_or, refl, sym, ap, subst, ◌∙◌, All, Less, Equal, Greater, arith, codes, Ok, Err, Result, is_ok, zero, suc, map}
use Rattle.std.specs.declared.cmp.Ordering.{Ordering}
use Rattle.std.specs.Ordering.{nat_cmp, is_lt, ordering_reverse}
use Rattle.std.specs.Cmp.{IsTotalOrder}
use Rattle.std.specs.Cmp.Lexicographic.{slice_cmp, on_texts}
use Rattle.std.specs.List.{IsAllAdjacentAnswer}
use Rattle.std.specs.List.Sorted.{IsBinarySearchResult, IsSearchInRange, IsSortedBy}
use Rattle.std.proofs.lemmas.Bool.{cases_order, cases_lt}
use Rattle.std.proofs.lemmas.Cmp.{tied_itself, nat_list_cmp_total}
use Rattle.std.proofs.lemmas.Map.Lookups.{exact_bytes}
use Rattle.std.proofs.lemmas.List.{append-nil, append_cancel_right, get_or_push, get_or_default, get_or-map, length_push, length-map}
use Rattle.std.proofs.lemmas.List.Sorted.{searchable_from_sorted}
use Rattle.git_model.specs.declared.file_mode.FileMode.{FileMode}
use Rattle.git_model.specs.declared.file_mode.FileMode.TheVariants as mode
use Rattle.git_model.specs.Tree.{TreeEntry, IsEntryName, CanWriteEntry, CanWriteTree, slash_of, order_key, tree_cmp}
use Rattle.git_objects.specs.TreeParts.{AreInOrder, HasTwin}

pub tree_total : IsTotalOrder tree_cmp
tree_total = on_texts order_key

-- a mode is that of a directory, and a slash goes after the name, or it is another, and nothing
-- does
pub slash_cases : (m : FileMode)
    → ((m ≡ mode.Directory) × (slash_of m ≡ codes "/")) ⊎ ((m ≢ mode.Directory) × (slash_of m ≡ []))
slash_cases mode.Regular = inr ((λ e. cc), refl)
slash_cases mode.Executable = inr ((λ e. cc), refl)
slash_cases mode.Symlink = inr ((λ e. cc), refl)
slash_cases mode.Gitlink = inr ((λ e. cc), refl)
slash_cases mode.Directory = inl (refl, refl)

no_slash_after : (name front : List ℕ) → All (λ byte. byte ≢ 47) name → name ≡ front ++ 47 ∷ [] → ⊥
no_slash_after name front none e =
    let within : length front < length name = omega (arith, ap length e, length_push front 47) in
    none (length front) 0 within
    (ap (λ l. get_or l (length front) 0) e ∙ get_or_push front 47 0 (length front) refl)

-- entries that compare alike have one name
same_names : (a b : TreeEntry) → IsEntryName a.name → IsEntryName b.name → order_key a ≡ order_key b
    → a.name ≡ b.name
same_names a b p q e = elim (slash_cases a.mode) [
  | inl s ↦ elim (slash_cases b.mode) [
    | inl t ↦
        append_cancel_right a.name b.name (codes "/")
        (ap (λ l. a.name ++ l) (sym s.1) ∙ e ∙ ap (λ l. b.name ++ l) t.1)
    | inr t ↦
        absurd
        (no_slash_after b.name a.name q.no_slash (sym (ap (λ l. a.name ++ l) (sym s.1) ∙ e ∙ ap (λ l. b.name ++ l) t.1 ∙ append-nil b.name)))
  ]
  | inr s ↦ elim (slash_cases b.mode) [
    | inl t ↦
        absurd
        (no_slash_after a.name b.name p.no_slash (sym (append-nil a.name) ∙ ap (λ l. a.name ++ l) (sym s.1) ∙ e ∙ ap (λ l. b.name ++ l) t.1))
    | inr t ↦
        sym (append-nil a.name) ∙ ap (λ l. a.name ++ l) (sym s.1) ∙ e ∙ ap (λ l. b.name ++ l) t.1
        ∙ append-nil b.name
  ]
]

pub compare_alike : (a b : TreeEntry) → order_key a ≡ order_key b → tree_cmp a b ≡ Equal
compare_alike a b e =
    ap (λ k. slice_cmp nat_cmp k (order_key b)) e ∙ tied_itself nat_list_cmp_total (order_key b)

not_less : (o : Ordering) → o ≡ Less → is_lt (ordering_reverse o) ≡ false
not_less o e = rw e refl

pub less_from : (o : Ordering) → true ≡ is_lt o → o ≡ Less
less_from Less e = refl
less_from Equal e = cc
less_from Greater e = cc

-- in a list whose neighbours are in order, each entry comes before each later one
pub each_later : (es : List TreeEntry) → AreInOrder es → (n i j : ℕ) (d : TreeEntry) → j ≡ i + 1 + n
    → j < length es → tree_cmp (get_or es i d) (get_or es j d) ≡ Less
each_later es h zero i j d e within =
    let same : j ≡ i + 1 = omega arith in subst (λ k. tree_cmp (get_or es i d) (get_or es k d) ≡ Less) (sym same) (h i d (omega arith))
each_later es h (suc n) i j d e within =
    let k : ℕ = i + 1 + n in
    let same : j ≡ k + 1 = omega arith in
    let near : k < length es = omega arith in
    let last : tree_cmp (get_or es k d) (get_or es j d) ≡ Less =
    subst (λ l. tree_cmp (get_or es k d) (get_or es l d) ≡ Less) (sym same)
    (h k d (omega arith)) in
    tree_total.trans (get_or es i d) (get_or es k d) (get_or es j d)
    (each_later es h n i k d refl near) last

pub before : (es : List TreeEntry) → AreInOrder es → (i j : ℕ) (d : TreeEntry) → i < j → j < length es
    → tree_cmp (get_or es i d) (get_or es j d) ≡ Less
before es h i j d lt within = each_later es h (j - 1 - i) i j d (omega arith) within

-- what stands at a place is an entry of the list that compares so
twin_at : (es : List TreeEntry) (e : TreeEntry) (j : ℕ) (d : TreeEntry) → e.mode ≡ mode.Directory
    → j < length es → order_key (get_or es j d) ≡ e.name → HasTwin es e
twin_at es e j d dir within same =
    (dir, (j, get_or es j d, within, get_or_default es j (get_or es j d) d within, same))

pub tree_from : (es : List TreeEntry) → All CanWriteEntry es → AreInOrder es
    → ((k : ℕ) (d : TreeEntry) → k < length es → HasTwin es (get_or es k d) → ⊥) → CanWriteTree es
tree_from es entries h alone = record {
  entries = entries;
  names_are_distinct = λ i j d lt within e.
      let less = before es h i j d lt within in
      let a = get_or es i d in
      let b = get_or es j d in
      let alike : order_key a ≡ order_key b → ⊥ = λ k. let tied = compare_alike a b k in cc in
      elim (slash_cases a.mode) [
        | inl s ↦ elim (slash_cases b.mode) [
          | inl t ↦ alike (rw (e, s.1, t.1) refl)
          | inr t ↦
              alone i d (omega arith)
              (twin_at es a j d s.0 within (ap (λ l. b.name ++ l) t.1 ∙ append-nil b.name ∙ sym e))
        ]
        | inr s ↦ elim (slash_cases b.mode) [
          | inl t ↦
              alone j d within
              (twin_at es b i d t.0 (omega arith) (ap (λ l. a.name ++ l) s.1 ∙ append-nil a.name ∙ e))
          | inr t ↦ alike (rw (e, s.1, t.1) refl)
        ]
      ];
  in_order = λ k d low within. ap is_lt (tree_total.antisymm (get_or es (k + 1) d) (get_or es k d)) ∙ not_less (tree_cmp (get_or es k d) (get_or es (k + 1) d)) (h k d within);
}

component_at : (es : List TreeEntry) → All CanWriteEntry es → (k : ℕ) (d : TreeEntry)
    → k < length es → IsEntryName (get_or es k d).name
component_at es entries k d within = (entries k d within).name

less_unless : (o : Ordering) → (o ≡ Equal → ⊥) → is_lt (ordering_reverse o) ≡ false → o ≡ Less
less_unless Less ne h = refl
less_unless Equal ne h = absurd (ne refl)
less_unless Greater ne h = cc

pub in_order_from : (es : List TreeEntry) → CanWriteTree es → AreInOrder es
in_order_from es t k d within =
    let a = get_or es k d in
    let b = get_or es (k + 1) d in
    let apart : tree_cmp a b ≡ Equal → ⊥ = λ e. t.names_are_distinct k (k + 1) d (omega arith) within (same_names a b (component_at es t.entries k d (omega arith)) (component_at es t.entries (k + 1) d within) (exact_bytes (order_key a) (order_key b) e)) in
    less_unless (tree_cmp a b) apart
    (ap is_lt (sym (tree_total.antisymm b a)) ∙ t.in_order k d (omega arith) within)

-- the entry at j compares at the bare name of the directory at k
no_twin_at : (es : List TreeEntry) → CanWriteTree es → (k j : ℕ) (d : TreeEntry) → k < length es
    → j < length es → (get_or es k d).mode ≡ mode.Directory
    → order_key (get_or es j d) ≡ (get_or es k d).name → ⊥
no_twin_at es t k j d within other dir same =
    let a = get_or es k d in
    let b = get_or es j d in
    elim (slash_cases b.mode) [
      | inl s ↦
          no_slash_after a.name b.name (component_at es t.entries k d within).no_slash
          (sym same ∙ ap (λ l. b.name ++ l) s.1)
      | inr s ↦
          let named : b.name ≡ a.name =
          sym (append-nil b.name) ∙ ap (λ l. b.name ++ l) (sym s.1) ∙ same in
          elim (cases_order k j) [
            | inl e ↦ s.0 (ap (λ i. (get_or es i d).mode) (sym e) ∙ dir)
            | inr far ↦ elim far [
              | inl lt ↦ t.names_are_distinct k j d lt other (sym named)
              | inr lt ↦ t.names_are_distinct j k d lt within named
            ]
          ]
    ]

pub no_twin : (es : List TreeEntry) → CanWriteTree es → (k : ℕ) (d : TreeEntry) → k < length es
    → HasTwin es (get_or es k d) → ⊥
no_twin es t k d within (dir, (j, other, lt, is, same)) =
    no_twin_at es t k j d within lt dir (ap order_key (get_or_default es j d other lt ∙ is) ∙ same)

-- a file of the same name
abbrev pub file_of : TreeEntry → TreeEntry
file_of e = record { mode = mode.Regular; name = e.name; id = e.id }

-- what the code answers of its own entries, which f shows

element : {X : Type 0} (xs : List X) (k : ℕ) → k < length xs → X
element [] k h = absurd (omega (arith, h))
element (x ∷ xs) k h = x

module _ {X : Type 0} (f : X → TreeEntry) where
  pub shown_at : (xs : List X) (k : ℕ) (d : X) (e : TreeEntry) → k < length xs
      → get_or (map f xs) k e ≡ f (get_or xs k d)
  shown_at xs k d e within = get_or-map f xs k d e within

  pub item_shown : (xs : List X) (k : ℕ) (x : X) (e : TreeEntry) → k < length xs → x ≡ get_or xs k x
      → get_or (map f xs) k e ≡ f x
  item_shown xs k x e within is = shown_at xs k x e within ∙ ap f (sym is)

  less_at : (xs : List X) → AreInOrder (map f xs) → (k : ℕ) (d : X) → k + 1 < length xs
      → tree_cmp (f (get_or xs k d)) (f (get_or xs (k + 1) d)) ≡ Less
  less_at xs o k d long =
      let e = f d in
      ap (λ a. tree_cmp a (f (get_or xs (k + 1) d))) (sym (shown_at xs k d e (omega arith)))
      ∙ ap (λ b. tree_cmp (get_or (map f xs) k e) b) (sym (shown_at xs (k + 1) d e long))
      ∙ o k e (omega (arith, length-map xs f))

  pub order_answer : (xs : List X) (r : Bool)
      → IsAllAdjacentAnswer (λ x y b. b ≡ is_lt (tree_cmp (f x) (f y))) xs r
      → (r ≡ true → AreInOrder (map f xs)) × (AreInOrder (map f xs) → r ≡ true)
  order_answer xs true h = (
    λ yea k e within.
        let long : k + 1 < length xs = omega (arith, within, length-map xs f) in
        let d = element xs (k + 1) long in
        rw (shown_at xs k d e (omega arith), shown_at xs (k + 1) d e long) (less_from (tree_cmp (f (get_or xs k d)) (f (get_or xs (k + 1) d))) (h k d long)),
    λ o. refl,
  )
  order_answer xs false (k, long, h) = (
    λ yea. cc,
    λ o.
        let d = element xs (k + 1) long in
        let no_less : false ≡ is_lt (tree_cmp (f (get_or xs k d)) (f (get_or xs (k + 1) d))) =
        h d in
        let less : is_lt (tree_cmp (f (get_or xs k d)) (f (get_or xs (k + 1) d))) ≡ true =
        ap is_lt (less_at xs o k d long) in
        cc,
  )

  sorted : (xs : List X) → AreInOrder (map f xs)
      → IsSortedBy (λ a b. is_lt (tree_cmp (f a) (f b))) xs
  sorted xs o k d low within =
      ap is_lt (tree_total.antisymm (f (get_or xs (k + 1) d)) (f (get_or xs k d)))
      ∙ not_less (tree_cmp (f (get_or xs k d)) (f (get_or xs (k + 1) d))) (less_at xs o k d within)

  pub twin_answer : (xs : List X) (e : TreeEntry) (r : Result ℕ ℕ) → e.mode ≡ mode.Directory
      → IsSearchInRange r (length xs) → IsBinarySearchResult (λ y. tree_cmp (f y) (file_of e)) xs r
      → AreInOrder (map f xs)
      → (is_ok r ≡ true → HasTwin (map f xs) e) × (HasTwin (map f xs) e → is_ok r ≡ true)
  twin_answer xs e (Ok i) dir bound h o = (
    λ yea. let d = element xs i bound in (dir, (i, f (get_or xs i d), omega (arith, bound, length-map xs f), shown_at xs i d (f (get_or xs i d)) bound, exact_bytes (order_key (f (get_or xs i d))) (order_key (file_of e)) (h d) ∙ append-nil e.name)),
    λ t. refl,
  )
  twin_answer xs e (Err i) dir bound h o = (
    λ yea. cc,
    λ (dir', (j, other, lt, is, same)).
        let within : j < length xs = omega (arith, lt, length-map xs f) in
        let d = element xs j within in
        let parted =
        h
        (searchable_from_sorted nat_list_cmp_total (λ y. order_key (f y)) xs (order_key (file_of e)) (sorted xs o)) in
        let here : f (get_or xs j d) ≡ other = sym (shown_at xs j d other within) ∙ is in
        let tied : tree_cmp (f (get_or xs j d)) (file_of e) ≡ Equal =
        compare_alike (f (get_or xs j d)) (file_of e)
        (ap order_key here ∙ same ∙ sym (append-nil e.name)) in
        elim (cases_lt j i) [
          | inl lt' ↦
              (let less : tree_cmp (f (get_or xs j d)) (file_of e) ≡ Less = parted.0 j d (omega arith) lt' in cc)
          | inr ge ↦
              (let more : tree_cmp (f (get_or xs j d)) (file_of e) ≡ Greater = parted.1 j d ge within in cc)
        ],
  )
