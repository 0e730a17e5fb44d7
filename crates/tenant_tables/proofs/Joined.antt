-- Look-ups in the shared entries of a table and then in its own.
use Rattle.std.proofs.Common.{◌≡◌, ℕ, zero, suc, ◌+◌, ◌-◌, ◌<◌, ◌≤◌, Bool, true, false, not, cond, nat_lt, List, [], ◌∷◌, ◌++◌, length, take, slice_get, Option, None, Some, is_some, position, refl, sym, ap, subst, ◌∙◌, arith}
use Rattle.std.specs.List.{AllByRecursion, IsDistinct, list_any, position_or_len}
use Rattle.std.specs.Map.{lookup}
use Rattle.std.specs.Option.{option_map}
use Rattle.std.specs.Str.{bytes_eq}
use Rattle.std.proofs.lemmas.Bool.Decides.{nat_tests}
use Rattle.std.proofs.lemmas.Cmp.{nat_list_eq_equiv}
use Rattle.std.proofs.lemmas.List.{append_assoc, length-append, length-map, length-take-le, map-append, take-map, take_all}
use Rattle.std.proofs.lemmas.Map.Entries.{lookup_from_place}
use Rattle.std.proofs.lemmas.Map.Keys.{IsDistinct-head, IsDistinct-push, IsDistinct-tail}
use Rattle.tenant_tables.specs.declared.entry.Entry.{Entry}
use Rattle.tenant_tables.specs.declared.table.TheConstants.{OBJECTS_LIMIT}
use Rattle.tenant_tables.specs.Index.{IsTable}
use Rattle.tenant_tables.specs.View.{View, Entries, names, entry_named}
use Rattle.tenant_tables.proofs.EntryLemmas.{lookup-take-found, lookup-take-none, position-kept, position-nowhere, position-past}
use Rattle.tenant_tables.proofs.FoundLemmas.{any-names, distinct-take, same_name}
use Rattle.tenant_tables.proofs.IndexLemmas.{later, names-push}

pub names-append : (xs ys : Entries) → names (xs ++ ys) ≡ names xs ++ names ys
names-append xs ys = map-append (λ (e : List ℕ × Entry). e.0) xs ys

pub length-names : (es : Entries) → length (names es) ≡ length es
length-names es = length-map es (λ (e : List ℕ × Entry). e.0)

-- ---- an entry by its name

pub entry_named-append : (id : List ℕ) (xs ys : Entries)
    → entry_named id (xs ++ ys) ≡ later (entry_named id xs) (entry_named id ys)
unfolding entry_named
entry_named-append id [] ys = refl
entry_named-append id (x ∷ xs) ys = by (bytes_eq id x.0) (entry_named-append id xs ys)
  where
    by : (b : Bool)
        → lookup (bytes_eq id) (xs ++ ys)
        ≡ later (lookup (bytes_eq id) xs) (lookup (bytes_eq id) ys)
        → cond b (Some x.1) (lookup (bytes_eq id) (xs ++ ys))
        ≡ later (cond b (Some x.1) (lookup (bytes_eq id) xs)) (lookup (bytes_eq id) ys)
    by true h = refl
    by false h = h

pub later-none : {X : Type 0} (a b : Option X) → later a b ≡ None → b ≡ None
later-none (Some x) b h = cc h
later-none None b h = h

-- ---- a position by its name

lt-suc : (m n : ℕ) → nat_lt (1 + m) (suc n) ≡ nat_lt m n
lt-suc m n = grind (arith, nat_tests)

position-cons : {K : Type 0} (test : K → Bool) (k : K) (ks : List K)
    → position test (k ∷ ks) ≡ cond (test k) (Some 0) (option_map (λ i. 1 + i) (position test ks))
position-cons test k ks = by (test k)
  where
    two : (b : Bool) (m : ℕ)
        → cond b (Some (1 + m)) None ≡ option_map (λ i. 1 + i) (cond b (Some m) None)
    two true m = refl
    two false m = refl

    by : (b : Bool)
        → cond (nat_lt (cond (not b) (1 + position_or_len test ks) 0) (suc (length ks)))
        (Some (cond (not b) (1 + position_or_len test ks) 0)) None
        ≡ cond b (Some 0) (option_map (λ i. 1 + i) (position test ks))
    by true =
        let here : nat_lt 0 (suc (length ks)) ≡ true = grind (arith, nat_tests) in
        ap (λ (c : Bool). cond c (Some 0) None) here
    by false =
        let m = position_or_len test ks in
        ap (λ c. cond c (Some (1 + m)) None) (lt-suc m (length ks)) ∙ two (nat_lt m (length ks)) m

pub position-append : {K : Type 0} (test : K → Bool) (xs ys : List K)
    → position test (xs ++ ys)
    ≡ later (position test xs) (option_map (λ i. length xs + i) (position test ys))
position-append test [] ys = by (position test ys)
  where
    by : (o : Option ℕ) → o ≡ option_map (λ i. 0 + i) o
    by None = refl
    by (Some i) = let same : i ≡ 0 + i = omega arith in ap (λ (j : ℕ). Some j) same
position-append test (x ∷ xs) ys =
    position-cons test x (xs ++ ys) ∙ by (test x) (position-append test xs ys)
    ∙ ap (λ o. later o (option_map (λ i. length (x ∷ xs) + i) (position test ys)))
    (sym (position-cons test x xs))
  where
    shift : (a c : Option ℕ)
        → option_map (λ i. 1 + i) (later a (option_map (λ i. length xs + i) c))
        ≡ later (option_map (λ i. 1 + i) a) (option_map (λ i. suc (length xs) + i) c)
    shift (Some i) c = refl
    shift None None = refl
    shift None (Some i) =
        let same : 1 + (length xs + i) ≡ suc (length xs) + i = omega arith in
        ap (λ (j : ℕ). Some j) same

    by : (b : Bool)
        → position test (xs ++ ys)
        ≡ later (position test xs) (option_map (λ i. length xs + i) (position test ys))
        → cond b (Some 0) (option_map (λ i. 1 + i) (position test (xs ++ ys)))
        ≡ later (cond b (Some 0) (option_map (λ i. 1 + i) (position test xs)))
        (option_map (λ i. suc (length xs) + i) (position test ys))
    by true h = refl
    by false h = ap (option_map (λ i. 1 + i)) h ∙ shift (position test xs) (position test ys)

-- what two lists find, one after the other
pub record Found (id : List ℕ) (es : Entries) (found : Option (ℕ × Entry)) : Type 0 where
  pub place : option_map (λ r. r.0) found ≡ position (bytes_eq id) (names es)
  pub entry : option_map (λ r. r.1) found ≡ entry_named id es

pub in_front : (id : List ℕ) (xs ys : Entries) (r : ℕ × Entry)
    → Some r.0 ≡ position (bytes_eq id) (names xs) → Some r.1 ≡ entry_named id xs
    → Found id (xs ++ ys) (Some r)
in_front id xs ys r place entry = record {
  place =
      sym (ap (position (bytes_eq id)) (names-append xs ys)
      ∙ position-append (bytes_eq id) (names xs) (names ys)
      ∙ ap (λ o. later o (option_map (λ i. length (names xs) + i) (position (bytes_eq id) (names ys)))) (sym place));
  entry = sym (entry_named-append id xs ys ∙ ap (λ o. later o (entry_named id ys)) (sym entry));
}

-- the same, of a look-up that found nothing in the first list
after_the_first : (id : List ℕ) (xs ys : Entries) → None ≡ position (bytes_eq id) (names xs)
    → position (bytes_eq id) (names (xs ++ ys))
    ≡ option_map (λ i. length xs + i) (position (bytes_eq id) (names ys))
after_the_first id xs ys none =
    ap (position (bytes_eq id)) (names-append xs ys)
    ∙ position-append (bytes_eq id) (names xs) (names ys)
    ∙ ap (λ o. later o (option_map (λ i. length (names xs) + i) (position (bytes_eq id) (names ys)))) (sym none)
    ∙ ap (λ (n : ℕ). option_map (λ i. n + i) (position (bytes_eq id) (names ys))) (length-names xs)

pub in_own : (id : List ℕ) (xs ys : Entries) (r : ℕ × Entry) (n : ℕ) → n ≡ length xs
    → None ≡ position (bytes_eq id) (names xs) → None ≡ entry_named id xs
    → Some r.0 ≡ position (bytes_eq id) (names ys) → Some r.1 ≡ entry_named id ys
    → Found id (xs ++ ys) (Some (n + r.0, r.1))
in_own id xs ys r n size no_place no_entry place entry = record {
  place =
      sym (after_the_first id xs ys no_place ∙ ap (option_map (λ i. length xs + i)) (sym place)
      ∙ ap (λ (m : ℕ). Some (m + r.0)) (sym size));
  entry = sym (entry_named-append id xs ys ∙ ap (λ o. later o (entry_named id ys)) (sym no_entry) ∙ sym entry);
}

pub in_none : (id : List ℕ) (xs ys : Entries)
    → None ≡ position (bytes_eq id) (names xs) → None ≡ entry_named id xs
    → None ≡ position (bytes_eq id) (names ys) → None ≡ entry_named id ys
    → Found id (xs ++ ys) None
in_none id xs ys no_place no_entry place entry = record {
  place = sym (after_the_first id xs ys no_place ∙ ap (option_map (λ i. length xs + i)) (sym place));
  entry = sym (entry_named-append id xs ys ∙ ap (λ o. later o (entry_named id ys)) (sym no_entry) ∙ sym entry);
}

-- what the first entries of a list find
first_names : (n : ℕ) (es : Entries) → names (take n es) ≡ take n (names es)
first_names n es = sym (take-map (λ (e : List ℕ × Entry). e.0) n es)

pub first_found : (id : List ℕ) (n : ℕ) (es : Entries) (r : ℕ × Entry)
    → Some r.0 ≡ position (bytes_eq id) (names es) → Some r.1 ≡ entry_named id es
    → r.0 < length es → r.0 < n → Found id (take n es) (Some r)
unfolding entry_named
first_found id n es r place entry within lt =
    let size = length-names es in
    let yes : nat_lt r.0 n ≡ true = grind (arith, nat_tests, lt) in record {
      place =
          sym (ap (position (bytes_eq id)) (first_names n es)
          ∙ position-kept (bytes_eq id) n r.0 (names es) (sym place) (omega (arith, size)) lt);
      entry =
          sym (lookup-take-found (bytes_eq id) n r.0 es (sym place)
          ∙ ap (λ (b : Bool). cond b (lookup (bytes_eq id) es) None) yes ∙ sym entry);
    }

pub first_past : (id : List ℕ) (n : ℕ) (es : Entries) (r : ℕ × Entry)
    → Some r.0 ≡ position (bytes_eq id) (names es) → n ≤ r.0 → Found id (take n es) None
unfolding entry_named
first_past id n es r place le =
    let no : nat_lt r.0 n ≡ false = grind (arith, nat_tests, le) in record {
      place =
          sym (ap (position (bytes_eq id)) (first_names n es)
          ∙ position-past (bytes_eq id) n r.0 (names es) (sym place) le);
      entry =
          sym (lookup-take-found (bytes_eq id) n r.0 es (sym place)
          ∙ ap (λ (b : Bool). cond b (lookup (bytes_eq id) es) None) no);
    }

pub first_nowhere : (id : List ℕ) (n : ℕ) (es : Entries)
    → None ≡ position (bytes_eq id) (names es) → None ≡ entry_named id es
    → Found id (take n es) None
unfolding entry_named
first_nowhere id n es place entry = record {
  place =
      sym (ap (position (bytes_eq id)) (first_names n es)
      ∙ position-nowhere (bytes_eq id) n (names es) (sym place));
  entry = sym (lookup-take-none (bytes_eq id) n es (sym entry));
}

-- ---- an entry by its position

pub get-front : {X : Type 0} (i : ℕ) (xs ys : List X) → i < length xs
    → slice_get (xs ++ ys) i ≡ slice_get xs i
get-front i [] ys lt = absurd (omega arith)
get-front zero (x ∷ xs) ys lt = refl
get-front (suc i) (x ∷ xs) ys lt = get-front i xs ys (omega arith)

pub get-own : {X : Type 0} (i : ℕ) (xs ys : List X) → length xs ≤ i
    → slice_get (xs ++ ys) i ≡ slice_get ys (i - length xs)
get-own i [] ys le =
    let same : i ≡ i - 0 = omega arith in ap (λ (j : ℕ). slice_get ys j) same
get-own zero (x ∷ xs) ys le = absurd (omega arith)
get-own (suc i) (x ∷ xs) ys le =
    let same : i - length xs ≡ suc i - suc (length xs) = omega arith in
    get-own i xs ys (omega arith) ∙ ap (λ (j : ℕ). slice_get ys j) same

pub get-take : {X : Type 0} (n i : ℕ) (xs : List X) → i < n
    → slice_get (take n xs) i ≡ slice_get xs i
get-take zero i xs lt = absurd (omega arith)
get-take (suc n) i [] lt = refl
get-take (suc n) zero (x ∷ xs) lt = refl
get-take (suc n) (suc i) (x ∷ xs) lt = get-take n i xs (omega arith)

pub get-past : {X : Type 0} (n i : ℕ) (xs : List X) → n ≤ i → slice_get (take n xs) i ≡ None
get-past zero i xs le = refl
get-past (suc n) i [] le = refl
get-past (suc n) zero (x ∷ xs) le = absurd (omega arith)
get-past (suc n) (suc i) (x ∷ xs) le = get-past n i xs (omega arith)

take-suc : {X : Type 0} (i : ℕ) (xs : List X) (x : X) → slice_get xs i ≡ Some x
    → take (suc i) xs ≡ take i xs ++ x ∷ []
take-suc i [] x h = cc h
take-suc zero (y ∷ ys) x h = let same : y ≡ x = cc h in λ k. same k ∷ []
take-suc (suc i) (y ∷ ys) x h = ap (λ zs. y ∷ zs) (take-suc i ys x h)

pub take-one : {X : Type 0} (i : ℕ) (xs : List X) (x : X) → slice_get xs i ≡ Some x
    → take (i + 1) xs ≡ take i xs ++ x ∷ []
take-one i xs x h =
    let same : i + 1 ≡ suc i = omega arith in
    ap (λ (k : ℕ). take k xs) same ∙ take-suc i xs x h

-- the names of so many entries, and of the next
pub next_name : (i : ℕ) (es : Entries) (id : List ℕ) (e : Entry) → slice_get es i ≡ Some (id, e)
    → names (take (i + 1) es) ≡ names (take i es) ++ id ∷ []
next_name i es id e at = ap names (take-one i es (id, e) at) ∙ names-push (take i es) id e

pub take-none : {X : Type 0} (i : ℕ) (xs : List X) → None ≡ slice_get xs i → length xs ≤ i
take-none i [] h = omega arith
take-none zero (y ∷ ys) h = cc h
take-none (suc i) (y ∷ ys) h = let rest = take-none i ys h in omega arith

pub first-none : {X : Type 0} (n : ℕ) → ◌≡◌ {A = List X} (take n []) []
first-none zero = refl
first-none (suc n) = refl

pub take-joined : {X : Type 0} (n : ℕ) (xs ys : List X)
    → take n (xs ++ ys) ≡ take n xs ++ take (n - length xs) ys
take-joined n [] ys =
    let same : n ≡ n - 0 = omega arith in
    ap (λ (k : ℕ). take k ys) same ∙ ap (λ zs. zs ++ take (n - 0) ys) (sym (first-none n))
take-joined zero (x ∷ xs) ys =
    let same : 0 ≡ 0 - suc (length xs) = omega arith in ap (λ (k : ℕ). take k ys) same
take-joined (suc n) (x ∷ xs) ys =
    let same : n - length xs ≡ suc n - suc (length xs) = omega arith in
    ap (λ zs. x ∷ zs) (take-joined n xs ys ∙ ap (λ (k : ℕ). take n xs ++ take k ys) same)

-- ---- one entry more or less

-- a list of the first entries, with the next one
pub grown_front : (es list new : Entries) (x : List ℕ × Entry) → list ≡ take (length list) es
    → slice_get es (length list) ≡ Some x → new ≡ list ++ x ∷ []
    → new ≡ take (length new) es
grown_front es list new x are at is =
    let size : length new ≡ length (list ++ x ∷ []) = ap (λ (zs : Entries). length zs) is in
    let more = length-append list (x ∷ []) in
    let one : length list + 1 ≡ length new = omega (arith, size, more) in
    is ∙ ap (λ (zs : Entries). zs ++ x ∷ []) are ∙ sym (take-one (length list) es x at)
    ∙ ap (λ (k : ℕ). take k es) one

-- a name that no entry has is not that of an own one
pub new_own : (id : List ℕ) (front own : Entries) (committed : ℕ) (t : View)
    → ◌≡◌ {A = View} (record { entries = front ++ own; committed = committed }) t
    → entry_named id t.entries ≡ None → entry_named id own ≡ None
new_own id front own committed t is none =
    later-none (entry_named id front) (entry_named id own)
    (sym (entry_named-append id front own) ∙ ap (λ (v : View). entry_named id v.entries) is ∙ none)

-- ---- distinct names

-- no entry before a place has the name at the place
among : (P : List ℕ → Type 0) (es : Entries) (i : ℕ) (id : List ℕ) (e : Entry)
    → slice_get es i ≡ Some (id, e) → AllByRecursion P (names es) → P id
among P [] i id e at all = cc at
among P (x ∷ es) zero id e at all =
    let same : x ≡ (id, e) = cc at in subst (λ (y : List ℕ × Entry). P y.0) same all.0
among P (x ∷ es) (suc i) id e at all = among P es i id e at all.1

pub new_at : (es : Entries) (i : ℕ) (id : List ℕ) (e : Entry) → IsDistinct bytes_eq (names es)
    → slice_get es i ≡ Some (id, e) → entry_named id (take i es) ≡ None
unfolding entry_named
new_at [] i id e d at = cc at
new_at (x ∷ es) zero id e d at = refl
new_at (x ∷ es) (suc i) id e d at =
    let head = IsDistinct-head bytes_eq x.0 (names es) d in
    let here : bytes_eq id x.0 ≡ false =
    nat_list_eq_equiv.symm id x.0 ∙ among (λ y. bytes_eq x.0 y ≡ false) es i id e at head in
    ap (λ (b : Bool). cond b (Some x.1) (lookup (bytes_eq id) (take i es))) here
    ∙ new_at es i id e (IsDistinct-tail bytes_eq x.0 (names es) d) at

-- the entry at a place is the one that a look-up of its name finds
pub entry_named-at : (q : List ℕ) (es : Entries) (i : ℕ) (id : List ℕ) (e : Entry)
    → IsDistinct bytes_eq (names es) → slice_get es i ≡ Some (id, e) → bytes_eq id q ≡ true
    → entry_named q es ≡ Some e
unfolding entry_named
entry_named-at q es i id e d at same =
    subst (λ (n : List ℕ). lookup (bytes_eq n) es ≡ Some e) (same_name id q same)
    (lookup_from_place nat_list_eq_equiv es i id e d at)

none_any : (id : List ℕ) (es : Entries) → entry_named id es ≡ None
    → list_any (bytes_eq id) (names es) ≡ false
none_any id es none = any-names id es ∙ ap is_some none

pub distinct-push : (es : Entries) (id : List ℕ) (e : Entry) → IsDistinct bytes_eq (names es)
    → entry_named id es ≡ None → IsDistinct bytes_eq (names (es ++ (id, e) ∷ []))
distinct-push es id e h none =
    subst (IsDistinct bytes_eq) (sym (names-push es id e))
    (IsDistinct-push nat_list_eq_equiv (names es) id h (none_any id es none))

-- ---- the table

pub IsTable-nil : IsTable [] [] 0
unfolding IsDistinct
IsTable-nil = record {
  shared = omega arith;
  within = omega arith;
  limited = omega arith;
  distinct = tt;
}

pub IsTable-push : (front own : Entries) (committed : ℕ) (id : List ℕ) (e : Entry) (t : View)
    → ◌≡◌ {A = View} (record { entries = front ++ own; committed = committed }) t
    → IsTable front own committed → length t.entries < OBJECTS_LIMIT
    → entry_named id t.entries ≡ None → IsTable front (own ++ (id, e) ∷ []) committed
IsTable-push front own committed id e t is h spare none =
    let joined = append_assoc front own ((id, e) ∷ []) in
    let size = ap (λ (v : View). length v.entries) is in
    let len = length-append (front ++ own) ((id, e) ∷ []) in record {
      shared = h.shared;
      within =
          subst (λ (es : Entries). committed ≤ length es) joined (let w = h.within in omega (arith, len));
      limited =
          subst (λ (es : Entries). length es ≤ OBJECTS_LIMIT) joined (omega (arith, len, size));
      distinct =
          subst (λ (es : Entries). IsDistinct bytes_eq (names es)) joined
          (distinct-push (front ++ own) id e h.distinct
          (ap (λ (v : View). entry_named id v.entries) is ∙ none));
    }

pub IsTable-commit : (front own : Entries) (committed : ℕ) → IsTable front own committed
    → IsTable front own (length front + length own)
IsTable-commit front own committed h =
    let len = length-append front own in record {
      shared = omega arith;
      within = omega (arith, len);
      limited = h.limited;
      distinct = h.distinct;
    }

-- all shared entries, and so many of the others
pub committed_are : (front own : Entries) (k : ℕ)
    → front ++ take k own ≡ take (length front + k) (front ++ own)
committed_are front own k =
    let n = length front + k in
    let rest : k ≡ n - length front = omega arith in
    ap (λ (m : ℕ). front ++ take m own) rest
    ∙ ap (λ (es : Entries). es ++ take (n - length front) own) (sym (take_all n front (omega arith)))
    ∙ sym (take-joined n front own)

pub IsTable-roll_back : (front own : Entries) (k : ℕ) → IsTable front own (length front + k)
    → IsTable front (take k own) (length front + k)
IsTable-roll_back front own k h =
    let n = length front + k in
    let are = committed_are front own k in
    let size : length (front ++ take k own) ≡ n =
    ap (λ (es : Entries). length es) are ∙ length-take-le n (front ++ own) h.within in
    let within = h.within in
    let limited = h.limited in record {
      shared = h.shared;
      within = omega (arith, size);
      limited = omega (arith, size, within, limited);
      distinct =
          subst (λ (es : Entries). IsDistinct bytes_eq (names es)) (sym are)
          (distinct-take n (front ++ own) h.distinct);
    }
