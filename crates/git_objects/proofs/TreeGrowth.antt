-- Entries that are put after others, one by one, and still make a tree.
use Rattle.std.proofs.Common.{◌≡◌, ℕ, ◌+◌, ◌<◌, inl, inr, List, [], ◌∷◌, ◌++◌, length, get_or, refl, sym, ap, subst, ◌∙◌, Less, Equal, Greater, arith, Bool, true, length-append, ◌-◌, map, Some, slice_get}
use Rattle.std.specs.Ordering.{nat_cmp, is_lt}
use Rattle.std.specs.Cmp.Lexicographic.{slice_cmp}
use Rattle.std.proofs.lemmas.Bool.{cases_order, cases_lt}
use Rattle.std.proofs.lemmas.Option.{slice_get_within, get_or_from_slice_get}
use Rattle.std.proofs.lemmas.Cmp.{tied_itself, nat_cmp_total}
use Rattle.std.proofs.lemmas.List.{append-nil, get_or_push, get_or_append_left, get_or_default, length_push, length-map}
use Rattle.std.proofs.lemmas.List.Elements.{All-push}
use Rattle.git_model.specs.declared.file_mode.FileMode.TheVariants as mode
use Rattle.git_model.specs.Tree.{TreeEntry, CanWriteEntry, CanWriteTree, slash_of, order_key, tree_cmp, entry_text}
use Rattle.git_objects.specs.Fronts.{IsFront}
use Rattle.git_objects.specs.TreeParts.{AreInOrder, HasTwin, CanFollow}
use Rattle.git_objects.proofs.TreeOrder.{compare_alike, before, file_of, tree_from, in_order_from, no_twin, shown_at, less_from}
use Rattle.git_objects.proofs.TreeReads.{Remains, remains_next}

-- a text comes before the same text with more after it
longer_is_greater : (xs : List ℕ) (y : ℕ) → slice_cmp nat_cmp (xs ++ y ∷ []) xs ≡ Greater
longer_is_greater [] y = refl
longer_is_greater (x ∷ xs) y = rw (tied_itself nat_cmp_total x) (longer_is_greater xs y)

-- the twin of a directory comes before it
twin_before : (es : List TreeEntry) → AreInOrder es → (k j : ℕ) (d : TreeEntry) → k < length es
    → j < length es → (get_or es k d).mode ≡ mode.Directory
    → order_key (get_or es j d) ≡ (get_or es k d).name → j < k
twin_before es o k j d within other dir same =
    let a = get_or es k d in
    let b = get_or es j d in
    let key : order_key a ≡ a.name ++ 47 ∷ [] = ap (λ m. a.name ++ slash_of m) dir in
    elim (cases_order j k) [
      | inl e ↦ absurd (omega (arith, ap length (sym key ∙ ap (λ i. order_key (get_or es i d)) (sym e) ∙ same), length_push a.name 47))
      | inr far ↦ elim far [
        | inl lt ↦ lt
        | inr gt ↦
            let less : tree_cmp a b ≡ Less = before es o k j d gt other in
            let greater : tree_cmp a b ≡ Greater =
            ap (λ l. slice_cmp nat_cmp l (order_key b)) key
            ∙ ap (slice_cmp nat_cmp (a.name ++ 47 ∷ [])) same ∙ longer_is_greater a.name 47 in
            cc
      ]
    ]

pub in_order_front : (xs ys : List TreeEntry) → AreInOrder (xs ++ ys) → AreInOrder xs
in_order_front xs ys o k d within =
    rw (← get_or_append_left xs ys d k (omega (arith, within)), ← get_or_append_left xs ys d (k + 1) within) (o k d (omega (arith, within, length-append xs ys)))

-- a twin of a front's entry is a twin in the whole
twin_in_front : (xs ys : List TreeEntry) (e : TreeEntry) → HasTwin xs e → HasTwin (xs ++ ys) e
twin_in_front xs ys e (dir, (j, other, lt, is, same)) =
    (dir, (j, other, omega (arith, lt, length-append xs ys), get_or_append_left xs ys other j lt ∙ is, same))

pub tree_grows : (es : List TreeEntry) (e : TreeEntry) → CanWriteTree es → CanWriteEntry e
    → CanFollow es e → CanWriteTree (es ++ e ∷ [])
tree_grows es e t is (o, alone) = tree_from (es ++ e ∷ []) (All-push CanWriteEntry es e t.entries is) o none
  where
    none : (k : ℕ) (d : TreeEntry) → k < length (es ++ e ∷ []) → HasTwin (es ++ e ∷ []) (get_or (es ++ e ∷ []) k d) → ⊥
    none k d within (dir, (j, other, lt, is', same)) =
        let earlier : j < k =
        twin_before (es ++ e ∷ []) o k j d within lt dir
        (ap order_key (get_or_default (es ++ e ∷ []) j d other lt ∙ is') ∙ same) in
        let old : j < length es = omega (arith, length_push es e) in
        let twin : HasTwin es (get_or (es ++ e ∷ []) k d) =
        (dir, (j, other, old, sym (get_or_append_left es (e ∷ []) other j old) ∙ is', same)) in
        elim (cases_lt k (length es)) [
          | inl lt' ↦
              no_twin es t k d lt'
              (subst (HasTwin es) (get_or_append_left es (e ∷ []) d k lt') twin)
          | inr ge ↦
              alone
              (subst (HasTwin es) (get_or_push es e d k (omega (arith, length_push es e))) twin)
        ]

-- what a tree begins with is in order, and its entries have no twins
pub tree_begins : (taken : List TreeEntry) (e : TreeEntry) (more es : List TreeEntry)
    → es ≡ (taken ++ e ∷ []) ++ more → CanWriteTree es
    → CanFollow taken e
tree_begins taken e more es is t =
    (in_order_front (taken ++ e ∷ []) more (subst AreInOrder is (in_order_from es t)), alone)
  where
    at : get_or ((taken ++ e ∷ []) ++ more) (length taken) e ≡ e
    at =
        get_or_append_left (taken ++ e ∷ []) more e (length taken) (omega (arith, length_push taken e))
        ∙ get_or_push taken e e (length taken) refl

    alone : HasTwin taken e → ⊥
    alone twin =
        no_twin ((taken ++ e ∷ []) ++ more) (subst CanWriteTree is t) (length taken) e
        (omega (arith, length-append (taken ++ e ∷ []) more, length_push taken e))
        (subst (HasTwin ((taken ++ e ∷ []) ++ more)) (sym at) (twin_in_front (taken ++ e ∷ []) more e (twin_in_front taken (e ∷ []) e twin)))

-- an entry comes after all if it comes after the last
pub after_last : (es : List TreeEntry) (e : TreeEntry) (n : ℕ) (d : TreeEntry)
    → length es ≡ n + 1 → AreInOrder es → tree_cmp (get_or es n d) e ≡ Less
    → AreInOrder (es ++ e ∷ [])
after_last es e n d long o less k c within = elim (cases_lt (k + 1) (length es)) [
  | inl lt ↦
      rw (get_or_append_left es (e ∷ []) c k (omega (arith, lt)), get_or_append_left es (e ∷ []) c (k + 1) lt)
      (o k c lt)
  | inr ge ↦
      let here : k ≡ n = omega (arith, length_push es e) in
      let last : get_or (es ++ e ∷ []) k c ≡ get_or es n d =
      get_or_append_left es (e ∷ []) c k (omega (arith, here)) ∙ ap (λ i. get_or es i c) here
      ∙ get_or_default es n c d (omega (arith, long)) in
      rw (last, get_or_push es e c (k + 1) (omega (arith, here, long))) less
]

pub last_before : (es : List TreeEntry) (e : TreeEntry) (n : ℕ) (d : TreeEntry)
    → length es ≡ n + 1 → AreInOrder (es ++ e ∷ []) → tree_cmp (get_or es n d) e ≡ Less
last_before es e n d long o =
    let less = o n d (omega (arith, length_push es e)) in
    rw (get_or_append_left es (e ∷ []) d n (omega (arith, long)), get_or_push es e d (n + 1) (omega (arith, long))) at less

-- where a file of the directory's name comes after all, none of them is its twin
pub no_twin_below : (es : List TreeEntry) (e : TreeEntry) → AreInOrder (es ++ file_of e ∷ [])
    → HasTwin es e → ⊥
no_twin_below es e o (dir, (j, other, lt, is, same)) =
    let file = file_of e in
    let less = before (es ++ file ∷ []) o j (length es) other lt (omega (arith, length_push es file)) in
    let less' : tree_cmp other file ≡ Less =
    ap (λ x. tree_cmp x file) (sym (get_or_append_left es (file ∷ []) other j lt ∙ is))
    ∙ ap (tree_cmp (get_or (es ++ file ∷ []) j other)) (sym (get_or_push es file other (length es) refl))
    ∙ less in
    let tied : tree_cmp other file ≡ Equal =
    compare_alike other file (same ∙ sym (append-nil e.name)) in
    cc

-- what is read next of a tree's contents can follow what was taken
pub follows_in_tree : (es taken : List TreeEntry) (rest : List ℕ) (e : TreeEntry) (after : List ℕ)
    → CanWriteTree es → Remains es taken rest → IsFront CanWriteEntry entry_text rest (Some (e, after))
    → CanFollow taken e
follows_in_tree es taken rest e after t remains front =
    let (more, is, all, text) = remains_next es taken rest e after remains front in
    tree_begins taken e more es is t

-- what the code answers of its own entries, which f shows
pub last_answer : {X : Type 0} (f : X → TreeEntry) (xs : List X) (x : X) (e : TreeEntry) (r : Bool)
    → Some x ≡ slice_get xs (length xs - 1) → r ≡ is_lt (tree_cmp (f x) e) → AreInOrder (map f xs)
    → (r ≡ true → AreInOrder (map f xs ++ e ∷ [])) × (AreInOrder (map f xs ++ e ∷ []) → r ≡ true)
last_answer f xs x e r is answer o = (
  λ yea. after_last (map f xs) e (length xs - 1) e long o (ap (λ a. tree_cmp a e) at ∙ less_from (tree_cmp (f x) e) (sym yea ∙ answer)),
  λ o'. answer ∙ ap is_lt (ap (λ a. tree_cmp a e) (sym at) ∙ last_before (map f xs) e (length xs - 1) e long o'),
)
  where
    within : (length xs - 1) < length xs
    within = slice_get_within xs (length xs - 1) x (sym is)

    long : length (map f xs) ≡ (length xs - 1) + 1
    long = omega (arith, within, length-map xs f)

    at : get_or (map f xs) (length xs - 1) e ≡ f x
    at = shown_at f xs (length xs - 1) x e within ∙ ap f (get_or_from_slice_get xs (length xs - 1) x x (sym is))
