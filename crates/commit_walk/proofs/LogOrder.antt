-- The order of a log, the keys that are read, and that a log is one list.
use Rattle.std.proofs.Common.{◌≡◌, ℕ, zero, suc, All, ◌+◌, ◌<◌, Bool, true, false, cond, List, [], ◌∷◌, ◌++◌, length, map, take, get_or, slice_get, Option, Some, refl, sym, ap, subst, ◌∙◌, ◌↔◌, arith}
use Rattle.std.specs.Prelude.{IsTrue, unwrap_or}
use Rattle.std.specs.declared.cmp.Ordering.{Ordering}
use Rattle.std.specs.declared.cmp.Ordering.TheVariants.{Less, Equal, Greater}
use Rattle.std.specs.Ordering.{nat_cmp, ordering_then, eq_by_cmp, is_eq}
use Rattle.std.specs.Prelude.{nat_eq, ◌&&◌}
use Rattle.std.specs.Cmp.Lexicographic.{pointwise, texts_ties}
use Rattle.std.specs.Cmp.Lexicographic.{slice_cmp}
use Rattle.std.specs.Cmp.{IsTotalOrder, unsigned_ties}
use Rattle.std.specs.FinMap.{IsAntisymmetric, nat_cmp-IsAntisymmetric, slice_cmp-IsAntisymmetric}
use Rattle.std.specs.List.{filter, Contains, AllPairs, AllByRecursion}
use Rattle.std.specs.List.Sorted.{IsStrictlySortedBy}
use Rattle.std.proofs.lemmas.Bool.Decides.{nat_tests}
use Rattle.std.proofs.lemmas.List.{get_or-map, length-map, map-append, take_more, append-nil}
use Rattle.std.proofs.lemmas.List.Elements.{filter-append, All-nil, All-cons}
use Rattle.std.proofs.lemmas.List.Kept.{AllPairs-cons}
use Rattle.std.proofs.lemmas.Cmp.{then_total, on_total, back_total, nat_cmp_total, nat_list_cmp_total}
use Rattle.git_model.specs.declared.kind.Kind.{Kind}
use Rattle.git_model.specs.declared.kind.Kind.TheVariants as kind
use Rattle.git_model.specs.CommitReading.{time_of}
use Rattle.git_model.specs.Content.{Content, content_from, no_content}
use Rattle.git_model.specs.Repository.{Object}
use Rattle.git_model.specs.References.{object_at, no_object, content_named}
use Rattle.git_model.specs.HeldObjects.{AreHeld}
use Rattle.git_model.specs.Peeling.{is_of}
use Rattle.commit_walk.specs.Logs.{LogKey, log_key, log_cmp, log_of, in_log_order, IsLogOf}
use Rattle.commit_walk.proofs.Orders.{in_order_sorted, in_order_members, only_in_order}
use Rattle.commit_walk.proofs.Named.{there}
use Rattle.commit_walk.proofs.CommitsAt.{object_told}

pub log_cmp_total : IsTotalOrder log_cmp
log_cmp_total =
    then_total (on_total (λ (k : LogKey). k.time) (back_total nat_cmp_total))
    (on_total (λ (k : LogKey). k.id) nat_list_cmp_total)

pub log_cmp_same : IsAntisymmetric log_cmp
log_cmp_same a b e = by (nat_cmp b.time a.time) refl e
  where
    by : (r : Ordering) → nat_cmp b.time a.time ≡ r
        → ordering_then r (slice_cmp nat_cmp a.id b.id) ≡ Equal → a ≡ b
    by Less f g = cc g
    by Greater f g = cc g
    by Equal f g =
        let time = sym (nat_cmp-IsAntisymmetric b.time a.time f) in
        let id = slice_cmp-IsAntisymmetric nat_cmp-IsAntisymmetric a.id b.id g in
        λ i. record { time = time i; id = id i }

-- ---- the key that is read of a commit

pub key_told : (digest : List ℕ → List ℕ) (os : List Object) → AreHeld digest os → (i : ℕ)
    → i < length os → (name : List ℕ) (k : Kind) (bytes : List ℕ)
    → Some (record { id = name; content = content_from k bytes }) ≡ slice_get os i
    → log_key os (object_at i os).id ≡ record { time = time_of bytes; id = name }
key_told digest os held i lt name k bytes h =
    let at = held.distinct i lt in
    let o = object_told os i (record { id = name; content = content_from k bytes }) h in
    let named = (there (object_at i os).id os (omega (arith, at))).named in
    let read : time_of (content_named (object_at i os).id os).bytes ≡ time_of bytes =
    ap (λ (x : Option Content). time_of (unwrap_or x no_content).bytes) named
    ∙ ap (λ (n : ℕ). time_of (object_at n os).content.bytes) at
    ∙ ap (λ (x : Object). time_of x.content.bytes) o in
    let id : (object_at i os).id ≡ name = ap (λ (x : Object). x.id) o in
    λ j. record { time = read j; id = id j }

both_tied : (r s : Ordering) → (is_eq r && is_eq s) ≡ is_eq (ordering_then r s)
both_tied Less s = refl
both_tied Equal s = refl
both_tied Greater s = refl

same_turned : (a b : ℕ) → nat_eq a b ≡ nat_eq b a
same_turned a b = grind (arith, nat_tests)

-- equal keys are those that the order does not tell apart
pub key_ties : (a b : LogKey)
    → (nat_eq a.time b.time && pointwise nat_eq a.id b.id) ≡ eq_by_cmp log_cmp a b
key_ties a b =
    ap (λ (x : Bool). x && pointwise nat_eq a.id b.id)
    (same_turned a.time b.time ∙ unsigned_ties b.time a.time)
    ∙ ap (λ (x : Bool). is_eq (nat_cmp b.time a.time) && x) (texts_ties a.id b.id)
    ∙ both_tied (nat_cmp b.time a.time) (slice_cmp nat_cmp a.id b.id)

-- ---- the keys of a set, up to a position

-- the keys of the members among the first objects
abbrev pub AreKeysTo : (List ℕ → List ℕ) → List Object → List Bool → ℕ → List LogKey → Type 0
AreKeysTo digest os flags i keys = (set : List ℕ → Bool) → AreHeld digest os
    → flags ≡ map (λ (o : Object). set o.id) os
    → ((id : List ℕ) → IsTrue (set id) → IsTrue (is_of os kind.Commit id))
    → keys ≡ map (λ (o : Object). log_key os o.id) (filter (λ (o : Object). set o.id) (take i os))

module _ (os : List Object) (set : List ℕ → Bool) (flags : List Bool)
    (is : flags ≡ map (λ (o : Object). set o.id) os) (i : ℕ) (lt : i < length flags) where
  pub there_too : i < length os
  there_too =
      let n = ap length is in let m = length-map os (λ (o : Object). set o.id) in omega arith

  pub flag_tells : get_or flags i false ≡ set (object_at i os).id
  unfolding object_at
  flag_tells =
      ap (λ (fs : List Bool). get_or fs i false) is
      ∙ get_or-map (λ (o : Object). set o.id) os i no_object false there_too

  longer : map (λ (o : Object). log_key os o.id) (filter (λ (o : Object). set o.id) (take (i + 1) os))
      ≡ map (λ (o : Object). log_key os o.id) (filter (λ (o : Object). set o.id) (take i os))
      ++ map (λ (o : Object). log_key os o.id)
      (filter (λ (o : Object). set o.id) (object_at i os ∷ []))
  unfolding object_at
  longer =
      ap (λ (xs : List Object). map (λ (o : Object). log_key os o.id) (filter (λ (o : Object). set o.id) xs))
      (take_more os i no_object there_too)
      ∙ ap (map (λ (o : Object). log_key os o.id))
      (filter-append (λ (o : Object). set o.id) (take i os) (get_or os i no_object ∷ []))
      ∙ map-append (λ (o : Object). log_key os o.id) (filter (λ (o : Object). set o.id) (take i os))
      (filter (λ (o : Object). set o.id) (get_or os i no_object ∷ []))

  pub one_key : (old new : List LogKey) → get_or flags i false ≡ true
      → old ≡ map (λ (o : Object). log_key os o.id) (filter (λ (o : Object). set o.id) (take i os))
      → new ≡ old ++ log_key os (object_at i os).id ∷ []
      → new ≡ map (λ (o : Object). log_key os o.id) (filter (λ (o : Object). set o.id) (take (i + 1) os))
  one_key old new flag had has =
      let yea : set (object_at i os).id ≡ true = sym flag_tells ∙ flag in
      let one : filter (λ (o : Object). set o.id) (object_at i os ∷ []) ≡ object_at i os ∷ [] = rw yea refl in
      has ∙ ap (λ (ks : List LogKey). ks ++ log_key os (object_at i os).id ∷ []) had
      ∙ sym (longer ∙ ap (λ (xs : List Object). map (λ (o : Object). log_key os o.id) (filter (λ (o : Object). set o.id) (take i os))
      ++ map (λ (o : Object). log_key os o.id) xs) one)

  pub no_key : (old : List LogKey) → get_or flags i false ≡ false
      → old ≡ map (λ (o : Object). log_key os o.id) (filter (λ (o : Object). set o.id) (take i os))
      → old ≡ map (λ (o : Object). log_key os o.id) (filter (λ (o : Object). set o.id) (take (i + 1) os))
  no_key old flag had =
      let nay : set (object_at i os).id ≡ false = sym flag_tells ∙ flag in
      let none : filter (λ (o : Object). set o.id) (object_at i os ∷ []) ≡ [] = rw nay refl in
      had
      ∙ sym (longer ∙ ap (λ (xs : List Object). map (λ (o : Object). log_key os o.id) (filter (λ (o : Object). set o.id) (take i os))
      ++ map (λ (o : Object). log_key os o.id) xs) none
      ∙ append-nil _)

-- ---- members of lists

contains_later : {X : Type 0} (x q : X) (xs : List X) → Contains xs q → Contains (x ∷ xs) q
contains_later x q xs h = (suc h.0, omega arith, h.2)

pub contains_mapped : {X Y : Type 0} (f : X → Y) (xs : List X) (x : X) → Contains xs x
    → Contains (map f xs) (f x)
contains_mapped f xs x h =
    let n = length-map xs f in
    (h.0, omega arith, get_or-map f xs h.0 x (f x) h.1 ∙ ap f h.2)

-- where an element of a mapped list comes from
pub contains_source : {X Y : Type 0} (f : X → Y) (xs : List X) (y : Y) → Contains (map f xs) y
    → (x : X) × Contains xs x × (f x ≡ y)
contains_source f [] y h = absurd (omega arith)
contains_source f (x ∷ xs) y (zero, within, is) = (x, (0, omega arith, refl), is)
contains_source f (x ∷ xs) y (suc k, within, is) =
    let rest = contains_source f xs y (k, omega arith, is) in
    (rest.0, contains_later x rest.0 xs rest.1, rest.2)

pub filtered : {X : Type 0} (p : X → Bool) (xs : List X) (x : X) → Contains (filter p xs) x
    → Contains xs x × (p x ≡ true)
filtered p [] x h = absurd (omega arith)
filtered p (y ∷ ys) x h = by (p y) refl (λ c. filtered p ys x c) h
  where
    by : (b : Bool) → p y ≡ b → (Contains (filter p ys) x → Contains ys x × (p x ≡ true))
        → Contains (cond b (y ∷ filter p ys) (filter p ys)) x → Contains (y ∷ ys) x × (p x ≡ true)
    by false e rest c = let r = rest c in (contains_later y x ys r.0, r.1)
    by true e rest (zero, within, is) = ((0, omega arith, is), ap p (sym is) ∙ e)
    by true e rest (suc k, within, is) =
        let r = rest (k, omega arith, is) in (contains_later y x ys r.0, r.1)

pub kept_by : {X : Type 0} (p : X → Bool) (xs : List X) (x : X) → Contains xs x → p x ≡ true
    → Contains (filter p xs) x
kept_by p [] x h yea = absurd (omega arith)
kept_by p (y ∷ ys) x (zero, within, is) yea =
    let here : p y ≡ true = ap p is ∙ yea in rw here (0, omega arith, is)
kept_by p (y ∷ ys) x (suc k, within, is) yea = by (p y) (kept_by p ys x (k, omega arith, is) yea)
  where
    by : (b : Bool) → Contains (filter p ys) x → Contains (cond b (y ∷ filter p ys) (filter p ys)) x
    by true c = contains_later y x (filter p ys) c
    by false c = c

-- ---- a log is one list

module _ (os : List Object) (set : List ℕ → Bool) where
  abbrev members : List LogKey
  members = map (λ (o : Object). log_key os o.id) (filter (λ (o : Object). set o.id) os)

  -- a name and its key
  keyed : (ids : List (List ℕ)) → map (λ (k : LogKey). k.id) (map (log_key os) ids) ≡ ids
  keyed [] = refl
  keyed (id ∷ ids) = ap (λ (xs : List (List ℕ)). id ∷ xs) (keyed ids)

  -- ---- in order by pairs, and by recursion

  below_pairs : (x : List ℕ) (ids : List (List ℕ))
      → ((j : ℕ) (d : List ℕ) → j < length ids → log_cmp (log_key os x) (log_key os (get_or ids j d)) ≡ Less)
      → AllByRecursion (λ y. log_cmp (log_key os x) y ≡ Less) (map (log_key os) ids)
  below_pairs x [] h = tt
  below_pairs x (id ∷ ids) h = (h 0 id (omega arith), below_pairs x ids (λ j d lt. h (suc j) d (omega arith)))

  sorted_from : (ids : List (List ℕ))
      → AllPairs (λ a b. log_cmp (log_key os a) (log_key os b) ≡ Less) ids
      → IsStrictlySortedBy log_cmp (map (log_key os) ids)
  unfolding IsStrictlySortedBy
  sorted_from [] pairs = tt
  sorted_from (id ∷ ids) pairs = (
    below_pairs id ids (λ j d lt. pairs 0 (suc j) d (omega arith) (omega arith)),
    sorted_from ids (λ i j d lt within. pairs (suc i) (suc j) d (omega arith) (omega arith)),
  )

  above_all : (k : LogKey) (ks : List LogKey) → k ≡ log_key os k.id
      → ((q : LogKey) → Contains ks q → q ≡ log_key os q.id)
      → AllByRecursion (λ y. log_cmp k y ≡ Less) ks
      → All (λ b. log_cmp (log_key os k.id) (log_key os b) ≡ Less) (map (λ (x : LogKey). x.id) ks)
  above_all k [] own all h = All-nil (λ b. log_cmp (log_key os k.id) (log_key os b) ≡ Less)
  above_all k (x ∷ ks) own all h =
      All-cons (λ b. log_cmp (log_key os k.id) (log_key os b) ≡ Less) x.id (map (λ (y : LogKey). y.id) ks)
      (subst (λ (y : LogKey). log_cmp (log_key os k.id) y ≡ Less) (all x (0, omega arith, refl))
      (subst (λ (y : LogKey). log_cmp y x ≡ Less) own h.0))
      (above_all k ks own (λ q c. all q (contains_later x q ks c)) h.1)

  pairs_from : (ks : List LogKey) → ((q : LogKey) → Contains ks q → q ≡ log_key os q.id)
      → IsStrictlySortedBy log_cmp ks
      → AllPairs (λ a b. log_cmp (log_key os a) (log_key os b) ≡ Less) (map (λ (k : LogKey). k.id) ks)
  unfolding IsStrictlySortedBy
  pairs_from [] all h = λ i j d lt within. absurd (omega arith)
  pairs_from (k ∷ ks) all h =
      AllPairs-cons (λ a b. log_cmp (log_key os a) (log_key os b) ≡ Less) k.id (map (λ (x : LogKey). x.id) ks)
      (above_all k ks (all k (0, omega arith, refl)) (λ q c. all q (contains_later k q ks c)) h.0)
      (pairs_from ks (λ q c. all q (contains_later k q ks c)) h.1)

  -- ---- both ways

  is_member : (id : List ℕ) → Contains (map (λ (o : Object). o.id) os) id → IsTrue (set id)
      → Contains members (log_key os id)
  is_member id there yea =
      let o = contains_source (λ (o : Object). o.id) os id there in
      subst (λ (x : List ℕ). Contains members (log_key os x)) o.2
      (contains_mapped (λ (o : Object). log_key os o.id) (filter (λ (o : Object). set o.id) os) o.0
      (kept_by (λ (o : Object). set o.id) os o.0 o.1 (ap set o.2 ∙ yea)))

  -- what is known of a member's key
  from_member : (k : LogKey) → Contains members k
      → (k ≡ log_key os k.id) × Contains (map (λ (o : Object). o.id) os) k.id × IsTrue (set k.id)
  from_member k h =
      let o = contains_source (λ (o : Object). log_key os o.id) (filter (λ (o : Object). set o.id) os) k h in
      let f = filtered (λ (o : Object). set o.id) os o.0 o.1 in
      subst (λ (k : LogKey). (k ≡ log_key os k.id) × Contains (map (λ (o : Object). o.id) os) k.id × IsTrue (set k.id))
      o.2 (refl, contains_mapped (λ (o : Object). o.id) os o.0 f.0, f.1)

  is_log : IsLogOf os set (map (λ (k : LogKey). k.id) (in_log_order members))
  is_log = record {
    members = λ id. (
      λ c.
          let k = contains_source (λ (k : LogKey). k.id) (in_log_order members) id c in
          let known = from_member k.0 ((in_order_members log_cmp log_cmp_total log_cmp_same members k.0).0 k.1) in
          subst (λ (x : List ℕ). Contains (map (λ (o : Object). o.id) os) x × IsTrue (set x)) k.2
          (known.1, known.2),
      λ both. contains_mapped (λ (k : LogKey). k.id) (in_log_order members) (log_key os id)
          ((in_order_members log_cmp log_cmp_total log_cmp_same members (log_key os id)).1
          (is_member id both.0 both.1)),
    );
    in_order =
        pairs_from (in_log_order members)
        (λ q c. (from_member q ((in_order_members log_cmp log_cmp_total log_cmp_same members q).0 c)).0)
        (in_order_sorted log_cmp log_cmp_total log_cmp_same members);
  }

  same_keys : (log : List (List ℕ)) → IsLogOf os set log → (q : LogKey)
      → Contains (map (log_key os) log) q ↔ Contains members q
  same_keys log w q = (
    λ c.
        let id = contains_source (log_key os) log q c in
        let known = (w.members id.0).0 id.1 in
        subst (Contains members) id.2 (is_member id.0 known.0 known.1),
    λ c.
        let known = from_member q c in
        subst (Contains (map (log_key os) log)) (sym known.0)
        (contains_mapped (log_key os) log q.id ((w.members q.id).1 (known.1, known.2))),
  )

  pub one_log : (log : List (List ℕ)) → IsLogOf os set log ↔ (log ≡ log_of os set)
  unfolding log_of
  one_log log = (
    λ w. sym (keyed log)
        ∙ ap (map (λ (k : LogKey). k.id))
        (only_in_order log_cmp log_cmp_total log_cmp_same members (map (log_key os) log)
        (sorted_from log w.in_order) (same_keys log w)),
    λ e. subst (IsLogOf os set) (sym e) is_log,
  )
