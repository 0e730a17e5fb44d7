-- What the refs of a store hold, one by one, and what changes of one ref do.
use Rattle.std.proofs.Common.{◌≡◌, ℕ, zero, suc, Bool, true, false, cond, List, [], ◌∷◌, map, None, Some, refl, sym, ap, ◌∙◌, subst, is_some, inl, inr, Contains, arith}
use Rattle.std.specs.declared.cmp.Ordering.{Ordering}
use Rattle.std.specs.declared.cmp.Ordering.TheVariants.{Less, Equal, Greater}
use Rattle.std.specs.Cmp.Lexicographic.{slice_cmp}
use Rattle.std.specs.FinMap as finmap
use Rattle.std.specs.FinMap.{IsAntisymmetric, contains_key-keys, entries_sorted, get-entries, get-from_entries, get-insert, get-remove, nat_cmp-IsAntisymmetric, same_map, slice_cmp-IsAntisymmetric}
use Rattle.std.specs.FinMap.Entries.{below_all, find, is_some-find, is_sorted}
use Rattle.std.specs.List.{AllByRecursion, filter, list_any}
use Rattle.std.specs.Ordering.{eq_by_cmp, is_eq, is_lt, nat_cmp, ordering_reverse}
use Rattle.std.specs.Str.{bytes_eq}
use Rattle.std.proofs.lemmas.Bool.{cases_Bool, false≢true, or_cases, or_left, or_right}
use Rattle.std.proofs.lemmas.Cmp.{nat_list_cmp_total, tied_itself}
use Rattle.std.proofs.lemmas.Slice.Eq.{bytes_eq-Decides}
use Rattle.git_model.specs.RefStore.{RefStore, listed_refs, target_of, with_ref, without_ref}
use Rattle.file_maps.proofs.Apart.{all-weaker, both_true}
use Rattle.file_maps.proofs.Puts.{T-true}
use Rattle.export_text.specs.Reached.{each_once}

abbrev bytes_cmp : List ℕ → List ℕ → Ordering
bytes_cmp = slice_cmp nat_cmp

bytes-exact : IsAntisymmetric bytes_cmp
bytes-exact = slice_cmp-IsAntisymmetric nat_cmp-IsAntisymmetric

-- ---- the order of bytes and their equality

tied : (o : Ordering) → is_eq o ≡ true → o ≡ Equal
tied Less h = cc
tied Equal h = refl
tied Greater h = cc

lesser : (o : Ordering) → is_lt o ≡ true → o ≡ Less
lesser Less h = refl
lesser Equal h = cc
lesser Greater h = cc

ties-are : (x y : List ℕ) → eq_by_cmp bytes_cmp x y ≡ true → x ≡ y
ties-are x y h = bytes-exact x y (tied (bytes_cmp x y) h)

tied-here : (x : List ℕ) → eq_by_cmp bytes_cmp x x ≡ true
tied-here x = ap is_eq (tied_itself nat_list_cmp_total x)

pub same-bytes : (x : List ℕ) → bytes_eq x x ≡ true
same-bytes x = (bytes_eq-Decides x x).1 refl

pub bytes-are : (x y : List ℕ) → bytes_eq x y ≡ true → x ≡ y
bytes-are x y = (bytes_eq-Decides x y).0

-- the order and the equality tell the same apart
one-test : (x y : List ℕ) → eq_by_cmp bytes_cmp x y ≡ bytes_eq x y
one-test x y = elim (cases_Bool (bytes_eq x y)) [
  | inl yea ↦
      ap (eq_by_cmp bytes_cmp x) (sym (bytes-are x y yea)) ∙ tied-here x ∙ sym yea
  | inr nay ↦ elim (cases_Bool (eq_by_cmp bytes_cmp x y)) [
    | inl tie ↦
        absurd (false≢true (sym nay ∙ (bytes_eq-Decides x y).1 (ties-are x y tie)))
    | inr apart ↦ apart ∙ sym nay
  ]
]

-- ---- a ref that is set, and one that is taken away

pub target-set : (store : RefStore) (ref id q : List ℕ)
    → target_of (with_ref store ref id) q ≡ cond (bytes_eq q ref) (Some id) (target_of store q)
target-set store ref id q =
    get-insert nat_list_cmp_total store.refs ref id q
    ∙ ap (λ (b : Bool). cond b (Some id) (target_of store q)) (one-test q ref)

pub target-removed : (store : RefStore) (ref q : List ℕ)
    → target_of (without_ref store ref) q ≡ cond (bytes_eq q ref) None (target_of store q)
target-removed store ref q =
    get-remove nat_list_cmp_total store.refs ref q
    ∙ ap (λ (b : Bool). cond b None (target_of store q)) (one-test q ref)

-- stores whose refs hold the same, with one HEAD, are one
pub one-store : (a b : RefStore) → ((q : List ℕ) → target_of a q ≡ target_of b q)
    → a.head ≡ b.head → a ≡ b
one-store a b same head =
    let refs : a.refs ≡ b.refs = same_map nat_list_cmp_total bytes-exact a.refs b.refs same in
    λ i. record { refs = refs i; head = head i }

-- ---- each listed ref

-- what two facts of each element say together
pub zipped : {A : Type 0} {P Q R : A → Type 0} (xs : List A) → ((x : A) → P x → Q x → R x)
    → AllByRecursion P xs → AllByRecursion Q xs → AllByRecursion R xs
zipped [] f h k = tt
zipped (x ∷ xs) f h k = (f x h.0 k.0, zipped xs f h.1 k.1)

abbrev Held : Type 0
Held = List ℕ × List ℕ

above : (e : Held) (es : List Held) → below_all bytes_cmp e.0 es ≡ true
    → AllByRecursion (λ (f : Held). eq_by_cmp bytes_cmp f.0 e.0 ≡ false) es
above e [] h = tt
above e (f ∷ es) h =
    let parts = both_true (is_lt (bytes_cmp e.0 f.0)) (below_all bytes_cmp e.0 es) h in (
      ap is_eq (nat_list_cmp_total.antisymm f.0 e.0
          ∙ ap ordering_reverse (lesser (bytes_cmp e.0 f.0) parts.0)),
      above e es parts.1,
    )

own-found : (es : List Held) → is_sorted bytes_cmp es ≡ true
    → AllByRecursion (λ (f : Held). find bytes_cmp f.0 es ≡ Some f.1) es
own-found [] h = tt
own-found (e ∷ es) h =
    let parts = both_true (below_all bytes_cmp e.0 es) (is_sorted bytes_cmp es) h in (
      rw (tied-here e.0) refl,
      zipped es (λ f apart found. rw apart found) (above e es parts.0) (own-found es parts.1),
    )

-- each of them holds what it is listed with
pub listed-held : (store : RefStore)
    → AllByRecursion (λ (e : Held). target_of store e.0 ≡ Some e.1) (listed_refs store)
listed-held store =
    all-weaker (λ (e : Held). find bytes_cmp e.0 (listed_refs store) ≡ Some e.1)
    (λ (e : Held). target_of store e.0 ≡ Some e.1)
    (λ e found. get-entries store.refs e.0 ∙ found) (listed_refs store)
    (own-found (listed_refs store) (T-true (is_sorted bytes_cmp (listed_refs store)) (entries_sorted store.refs)))

-- what some element passes, where each passes its own test
pub each-any : {A : Type 0} (p : A → A → Bool) → ((x : A) → p x x ≡ true) → (xs : List A)
    → AllByRecursion (λ x. list_any (λ y. p y x) xs ≡ true) xs
each-any p own [] = tt
each-any p own (x ∷ xs) = (
  or_left (p x x) (list_any (λ y. p y x) xs) (own x),
  all-weaker (λ z. list_any (λ y. p y z) xs ≡ true) (λ z. list_any (λ y. p y z) (x ∷ xs) ≡ true)
      (λ z h. or_right (p x z) (list_any (λ y. p y z) xs) h) xs (each-any p own xs),
)

-- a ref that holds something is listed
found-listed : (q id : List ℕ) (es : List Held) → find bytes_cmp q es ≡ Some id
    → list_any (λ (e : Held). bytes_eq q e.0) es ≡ true
found-listed q id [] h = cc
found-listed q id (e ∷ es) h = elim (cases_Bool (bytes_eq q e.0)) [
  | inl yea ↦ or_left (bytes_eq q e.0) (list_any (λ (e : Held). bytes_eq q e.0) es) yea
  | inr nay ↦
      let other : eq_by_cmp bytes_cmp q e.0 ≡ false = one-test q e.0 ∙ nay in
      let later : find bytes_cmp q es ≡ Some id = rw other at h in
      or_right (bytes_eq q e.0) (list_any (λ (e : Held). bytes_eq q e.0) es)
      (found-listed q id es later)
]

pub held-listed : (store : RefStore) (q id : List ℕ) → target_of store q ≡ Some id
    → list_any (λ (e : Held). bytes_eq q e.0) (listed_refs store) ≡ true
held-listed store q id h =
    found-listed q id (listed_refs store) (sym (get-entries store.refs q) ∙ h)

-- ---- names that are each listed once

abbrev Paired : Type 0
Paired = List ℕ × Unit {0}

abbrev paired : List (List ℕ) → List Paired
paired names = map (λ (name : List ℕ). (name, tt {0})) names

abbrev keys : List Paired → List (List ℕ)
keys es = map (λ (e : Paired). e.0) es

holds-of-any : (P : List ℕ → Type 0) (names : List (List ℕ)) → AllByRecursion P names → (q : List ℕ)
    → list_any (eq_by_cmp bytes_cmp q) (keys (paired names)) ≡ true → P q
holds-of-any P [] h q any = absurd (false≢true any)
holds-of-any P (name ∷ names) h q any =
    elim (or_cases (eq_by_cmp bytes_cmp q name) (list_any (eq_by_cmp bytes_cmp q) (keys (paired names))) any) [
      | inl here ↦ subst P (sym (ties-are q name here)) h.0
      | inr later ↦ holds-of-any P names h.1 q later
    ]

-- what holds of all names holds of each
pub once-all : (P : List ℕ → Type 0) (names : List (List ℕ)) → AllByRecursion P names
    → AllByRecursion P (each_once names)
once-all P names h =
    all-weaker (λ (q : List ℕ). list_any (λ (k : List ℕ). eq_by_cmp bytes_cmp q k) (each_once names) ≡ true) P
    (λ q any. holds-of-any P names h q (sym (is_some-find bytes_cmp q (paired names))
    ∙ ap is_some (sym (get-from_entries nat_list_cmp_total (paired names) q))
    ∙ contains_key-keys (finmap.from_entries {R = bytes_cmp} (paired names)) q ∙ any))
    (each_once names)
    (each-any (λ (k q : List ℕ). eq_by_cmp bytes_cmp q k) tied-here (each_once names))

-- a name that is listed, as a test finds it
pub any-of : (q : List ℕ) (xs : List (List ℕ)) → Contains xs q
    → list_any (bytes_eq q) xs ≡ true
any-of q [] (k, within, at) = absurd (omega (arith, within))
any-of q (x ∷ xs) (zero, within, at) =
    or_left (bytes_eq q x) (list_any (bytes_eq q) xs)
    (ap (bytes_eq q) at ∙ same-bytes q)
any-of q (x ∷ xs) (suc k, within, at) =
    or_right (bytes_eq q x) (list_any (bytes_eq q) xs)
    (any-of q xs (k, omega (arith, within), at))

-- what passes a test stays listed
pub any-filtered : (p : List ℕ → Bool) (q : List ℕ) → p q ≡ true → (xs : List (List ℕ))
    → list_any (bytes_eq q) xs ≡ true → list_any (bytes_eq q) (filter p xs) ≡ true
any-filtered p q may [] any = any
any-filtered p q may (x ∷ xs) any = elim (cases_Bool (bytes_eq q x)) [
  | inl here ↦
      let passes : p x ≡ true = ap p (sym (bytes-are q x here)) ∙ may in
      rw passes (or_left (bytes_eq q x) (list_any (bytes_eq q) (filter p xs)) here)
  | inr other ↦
      let later : list_any (bytes_eq q) xs ≡ true = rw other at any in
      let rest = any-filtered p q may xs later in
      elim (cases_Bool (p x)) [
        | inl kept ↦ rw kept (or_right (bytes_eq q x) (list_any (bytes_eq q) (filter p xs)) rest)
        | inr dropped ↦ rw dropped rest
      ]
]
