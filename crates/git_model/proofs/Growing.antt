-- Good objects stay good where one more is added, and so do those of a prefix; held objects likewise.
use Rattle.std.proofs.Common.{◌≡◌, ◌≢◌, ℕ, suc, ◌<◌, ◌≤◌, true, false, List, [], ◌∷◌, ◌++◌, length, take, drop, All, Option, None, Some, refl, sym, ap, ◌∙◌, subst, inl, inr, arith}
use Rattle.std.specs.Prelude.{unwrap_or}
use Rattle.std.specs.Option.{option_map}
use Rattle.std.specs.Str.{bytes_eq}
use Rattle.std.proofs.Math.ListN.{get_or-append}
use Rattle.std.proofs.lemmas.Bool.{cases_Bool, cases_lt}
use Rattle.std.proofs.lemmas.Slice.Eq.{bytes_eq-Decides}
use Rattle.std.proofs.lemmas.List.{length-append, take-append-drop}
use Rattle.std.proofs.lemmas.List.Elements.{All-nil, All-cons, All-append, All-weaker, All-from_get_or, All-from_recursion}
use Rattle.git_model.specs.declared.file_mode.FileMode.TheVariants as mode
use Rattle.git_model.specs.declared.kind.Kind.{Kind}
use Rattle.git_model.specs.declared.kind.Kind.TheVariants as kind
use Rattle.git_model.specs.Content.{Content, no_content}
use Rattle.git_model.specs.Tree.{TreeEntry}
use Rattle.git_model.specs.TreeReading.{tree_read}
use Rattle.git_model.specs.Repository.{Object, object_named}
use Rattle.git_model.specs.References.{Reference, reference, tree_references, references_of, references_in, no_object, content_named, place_of, object_at}
use Rattle.git_model.specs.GoodRepository.{IsTree, IsValid, IsObject, StandsBefore, AreObjects, MayAdd}
use Rattle.git_model.specs.HeldObjects.{IsHeldObject, AreHeld, MayPut}
use Rattle.git_model.proofs.TreeReadings.{tree_back}
use Rattle.git_model.proofs.Places.{stands_at, at_place, of_entries, first_place, later_place, first_named, later_named, first_object, later_object}

-- ---- names and places in a prefix

no_place : (id : List ℕ) → place_of id [] ≡ 0
unfolding place_of
no_place id = refl

-- What a name has in two lists is the same.
pub record AreAlike (id : List ℕ) (xs ys : List Object) : Type 0 where
  pub place : place_of id xs ≡ place_of id ys
  pub object : object_named id xs ≡ object_named id ys

alike_first : (id : List ℕ) (o : Object) (xs ys : List Object) → bytes_eq id o.id ≡ true
    → AreAlike id (o ∷ xs) (o ∷ ys)
alike_first id o xs ys yea = record {
  place = first_place id o xs yea ∙ sym (first_place id o ys yea);
  object = first_named id o xs yea ∙ sym (first_named id o ys yea);
}

alike_later : (id : List ℕ) (o : Object) (xs ys : List Object) → bytes_eq id o.id ≡ false
    → AreAlike id xs ys → AreAlike id (o ∷ xs) (o ∷ ys)
alike_later id o xs ys nay h = record {
  place = later_place id o xs nay ∙ ap (λ (n : ℕ). suc n) h.place ∙ sym (later_place id o ys nay);
  object = later_named id o xs nay ∙ h.object ∙ sym (later_named id o ys nay);
}

-- a name that is there keeps its place and its object
pub longer : (id : List ℕ) (xs ys : List Object) → place_of id xs < length xs
    → AreAlike id (xs ++ ys) xs
longer id [] ys lt = absurd (omega arith)
longer id (o ∷ xs) ys lt = elim (cases_Bool (bytes_eq id o.id)) [
  | inl yea ↦ alike_first id o (xs ++ ys) xs yea
  | inr nay ↦
      (let place = later_place id o xs nay in alike_later id o (xs ++ ys) xs nay
      (longer id xs ys (omega arith)))
]

-- and a name that stands in a prefix has them there
shorter : (id : List ℕ) (xs ys : List Object) → place_of id (xs ++ ys) < length xs
    → AreAlike id xs (xs ++ ys)
shorter id [] ys lt = absurd (omega arith)
shorter id (o ∷ xs) ys lt = elim (cases_Bool (bytes_eq id o.id)) [
  | inl yea ↦ alike_first id o xs (xs ++ ys) yea
  | inr nay ↦
      (let place = later_place id o (xs ++ ys) nay in alike_later id o xs (xs ++ ys) nay
      (shorter id xs ys (omega arith)))
]

-- what is not in a prefix is what comes after it
pub after_prefix : (id : List ℕ) (xs ys : List Object) → object_named id xs ≡ None
    → object_named id (xs ++ ys) ≡ object_named id ys
after_prefix id [] ys e = refl
after_prefix id (x ∷ xs) ys e = elim (cases_Bool (bytes_eq id x.id)) [
  | inl yea ↦ (let some = first_named id x xs yea in cc)
  | inr nay ↦ later_named id x (xs ++ ys) nay
      ∙ after_prefix id xs ys (sym (later_named id x xs nay) ∙ e)
]

-- a new name stands at the end
new_place : (o : Object) (xs : List Object) → object_named o.id xs ≡ None
    → place_of o.id (xs ++ o ∷ []) ≡ length xs
new_place o [] e = first_place o.id o [] ((bytes_eq-Decides o.id o.id).1 refl)
new_place o (x ∷ xs) e = elim (cases_Bool (bytes_eq o.id x.id)) [
  | inl yea ↦ (let some = first_named o.id x xs yea in cc)
  | inr nay ↦ later_place o.id x (xs ++ o ∷ []) nay
      ∙ ap (λ (n : ℕ). suc n) (new_place o xs (sym (later_named o.id x xs nay) ∙ e))
]

same_object : (xs ys : List Object) (i : ℕ) → i < length xs
    → object_at i (xs ++ ys) ≡ object_at i xs
unfolding object_at
same_object xs ys i lt = get_or-append xs ys _ i lt

last_object : (xs : List Object) (o : Object) → object_at (length xs) (xs ++ o ∷ []) ≡ o
last_object [] o = first_object o []
last_object (x ∷ xs) o = later_object (length xs) x (xs ++ o ∷ []) ∙ last_object xs o

-- ---- what is known of a name in one list is known in another

still_before : (xs ys : List Object) (place : ℕ) (r : Reference) → AreAlike r.id ys xs
    → StandsBefore xs place r → StandsBefore ys place r
still_before xs ys place r alike h = record {
  before = let p = alike.place in let b = h.before in omega arith;
  kind = ap (λ (o : Option Content). option_map (λ (c : Content). c.kind) o) alike.object ∙ h.kind;
}

same_content : (id : List ℕ) (xs ys : List Object) → AreAlike id ys xs
    → content_named id ys ≡ content_named id xs
same_content id xs ys alike = ap (λ (o : Option Content). unwrap_or o no_content) alike.object

still_tree : (xs ys : List Object) (bytes : List ℕ) (es : List TreeEntry)
    → All (λ e. e.mode ≡ mode.Directory → (content_named e.id xs).bytes ≢ []
    → AreAlike e.id ys xs) es → IsTree xs bytes es → IsTree ys bytes es
still_tree xs ys bytes es alike t = record {
  writable = t.writable;
  contents = t.contents;
  none_empty = λ k d lt is.
      let some = t.none_empty k d lt is in
      subst (λ (c : Content). c.bytes ≢ [])
      (sym (same_content _ xs ys (alike k d lt is some))) some;
}

-- ---- one more object

-- what has bytes is there
is_there : (xs : List Object) (o : Option Content) (id : List ℕ) → object_named id xs ≡ o
    → (unwrap_or o no_content).bytes ≢ [] → place_of id xs < length xs
is_there xs None id e some = absurd (some refl)
is_there xs (Some c) id e some = (stands_at id xs c e).within

valid_longer : (xs ys : List Object) (k : Kind) (bytes : List ℕ) → IsValid xs k bytes
    → IsValid (xs ++ ys) k bytes
valid_longer xs ys kind.Blob bytes v = tt
valid_longer xs ys kind.Tree bytes v = (
  v.0,
  still_tree xs (xs ++ ys) bytes v.0
      (λ k d lt is some. longer _ xs ys (is_there xs (object_named _ xs) _ refl some)) v.1,
)
valid_longer xs ys kind.Commit bytes v = v
valid_longer xs ys kind.Tag bytes v = v

object_longer : (digest : List ℕ → List ℕ) (xs ys : List Object) (o : Object)
    → IsObject digest xs o → IsObject digest (xs ++ ys) o
object_longer digest xs ys o h =
    record {
      name = h.name;
      named = h.named;
      valid = valid_longer xs ys o.content.kind o.content.bytes h.valid;
      short = h.short;
    }

before_longer : (xs ys : List Object) (i : ℕ) → i ≤ length xs → (r : Reference)
    → StandsBefore xs i r → StandsBefore (xs ++ ys) i r
before_longer xs ys i le r h =
    still_before xs (xs ++ ys) i r (longer r.id xs ys (let b = h.before in omega arith)) h

-- Each name is that of one object only, and what an object refers to comes before it.
abbrev AreDistinct : List Object → Type 0
AreDistinct os = (i : ℕ) → i < length os → place_of (object_at i os).id os ≡ i

abbrev AreConnected : List Object → Type 0
AreConnected os = (i : ℕ) → i < length os → All (StandsBefore os i) (references_in (object_at i os).content)

distinct_longer : (os : List Object) (o : Object) → AreDistinct os → object_named o.id os ≡ None
    → AreDistinct (os ++ o ∷ [])
distinct_longer os o distinct new i lt = elim (cases_lt i (length os)) [
  | inl old ↦
      let at = distinct i old in
      ap (λ (x : Object). place_of x.id (os ++ o ∷ [])) (same_object os (o ∷ []) i old)
      ∙ (longer (object_at i os).id os (o ∷ []) (omega (arith, at))).place ∙ at
  | inr end ↦
      let is : i ≡ length os = omega (arith, length-append os (o ∷ [])) in
      ap (λ (n : ℕ). place_of (object_at n (os ++ o ∷ [])).id (os ++ o ∷ [])) is
      ∙ ap (λ (x : Object). place_of x.id (os ++ o ∷ [])) (last_object os o)
      ∙ new_place o os new ∙ sym is
]

connected_longer : (os : List Object) (o : Object) → AreConnected os
    → All (StandsBefore os (length os)) (references_in o.content) → AreConnected (os ++ o ∷ [])
connected_longer os o connected new i lt = elim (cases_lt i (length os)) [
  | inl old ↦
      subst (λ (x : Object). All (StandsBefore more i) (references_in x.content))
      (sym (same_object os (o ∷ []) i old))
      (All-weaker (StandsBefore os i) (StandsBefore more i)
      (before_longer os (o ∷ []) i (omega arith)) (references_in (object_at i os).content)
      (connected i old))
  | inr end ↦
      let is : length os ≡ i = omega (arith, length-append os (o ∷ [])) in
      subst (λ (n : ℕ). All (StandsBefore more n) (references_in (object_at n more).content)) is
      (subst (λ (x : Object). All (StandsBefore more (length os)) (references_in x.content))
      (sym (last_object os o))
      (All-weaker (StandsBefore os (length os)) (StandsBefore more (length os))
      (before_longer os (o ∷ []) (length os) (omega arith))
      (references_in o.content) new))
]
  where
    more : List Object
    more = os ++ o ∷ []

pub one_more : (digest : List ℕ → List ℕ) (os : List Object) (o : Object) → AreObjects digest os
    → MayAdd digest os o → AreObjects digest (os ++ o ∷ [])
one_more digest os o good add = record {
  each = All-append (IsObject digest more) os (o ∷ [])
      (All-weaker (IsObject digest os) (IsObject digest more)
      (object_longer digest os (o ∷ [])) os good.each)
      (All-cons (IsObject digest more) o [] (object_longer digest os (o ∷ []) o add.object)
      (All-nil (IsObject digest more)));
  distinct = distinct_longer os o good.distinct add.new;
  connected = connected_longer os o good.connected add.connected;
  few = let room = add.room in omega (arith, length-append os (o ∷ []));
}
  where
    more : List Object
    more = os ++ o ∷ []

pub one_more_held : (digest : List ℕ → List ℕ) (os : List Object) (o : Object) → AreHeld digest os
    → MayPut digest os o → AreHeld digest (os ++ o ∷ [])
one_more_held digest os o held put = record {
  each = All-append (IsHeldObject digest) os (o ∷ []) held.each
      (All-cons (IsHeldObject digest) o [] put.object (All-nil (IsHeldObject digest)));
  distinct = distinct_longer os o held.distinct put.new;
  connected = connected_longer os o held.connected put.connected;
  few = let room = put.room in omega (arith, length-append os (o ∷ []));
}

-- ---- a prefix

all_at : (P : Object → Type 0) (xs : List Object) → ((i : ℕ) → i < length xs → P (object_at i xs))
    → All P xs
unfolding object_at
all_at P xs h = All-from_get_or P xs no_object h

before_shorter : (xs ys : List Object) (i : ℕ) → i ≤ length xs → (r : Reference)
    → StandsBefore (xs ++ ys) i r → StandsBefore xs i r
before_shorter xs ys i le r h =
    still_before (xs ++ ys) xs i r (shorter r.id xs ys (let b = h.before in omega arith)) h

valid_shorter : (xs ys : List Object) (i : ℕ) → i ≤ length xs → (k : Kind) (bytes : List ℕ)
    → All (StandsBefore (xs ++ ys) i) (references_of k bytes) → IsValid (xs ++ ys) k bytes
    → IsValid xs k bytes
valid_shorter xs ys i le kind.Blob bytes h v = tt
valid_shorter xs ys i le kind.Tree bytes h v =
    let es = v.0 in
    let read = ap tree_read v.1.contents ∙ tree_back es v.1.writable in
    let stand = All-from_recursion
    (λ (e : TreeEntry). e.mode ≡ mode.Directory → StandsBefore (xs ++ ys) i
    (reference kind.Tree e.id)) es
    (of_entries (StandsBefore (xs ++ ys) i) es
    (subst (λ (ds : List TreeEntry). All (StandsBefore (xs ++ ys) i)
    (tree_references ds)) read h)) in (
      es,
      still_tree (xs ++ ys) xs bytes es
          (λ k d lt is some. shorter _ xs ys (let b = (stand k d lt is).before in omega arith)) v.1,
    )
valid_shorter xs ys i le kind.Commit bytes h v = v
valid_shorter xs ys i le kind.Tag bytes h v = v

within_longer : (xs ys : List Object) (i : ℕ) → i < length xs → i < length (xs ++ ys)
within_longer xs ys i lt = omega (arith, length-append xs ys)

distinct_shorter : (xs ys : List Object) → AreDistinct (xs ++ ys) → AreDistinct xs
distinct_shorter xs ys distinct i lt =
    let at : place_of (object_at i xs).id (xs ++ ys) ≡ i = ap
    (λ (x : Object). place_of x.id (xs ++ ys)) (sym (same_object xs ys i lt))
    ∙ distinct i (within_longer xs ys i lt) in
    (shorter (object_at i xs).id xs ys (omega (arith, at))).place ∙ at

-- What an object of the prefix refers to comes before it in the whole list.
refers_within : (xs ys : List Object) → AreConnected (xs ++ ys) → (i : ℕ) → i < length xs
    → All (StandsBefore (xs ++ ys) i) (references_in (object_at i xs).content)
refers_within xs ys connected i lt =
    subst (λ (x : Object). All (StandsBefore (xs ++ ys) i) (references_in x.content))
    (same_object xs ys i lt) (connected i (within_longer xs ys i lt))

connected_shorter : (xs ys : List Object) → AreConnected (xs ++ ys) → AreConnected xs
connected_shorter xs ys connected i lt =
    All-weaker (StandsBefore (xs ++ ys) i) (StandsBefore xs i)
    (before_shorter xs ys i (omega arith)) (references_in (object_at i xs).content)
    (refers_within xs ys connected i lt)

-- A fact of each object of a list is one of each object of its prefix.
at_prefix : (P : Object → Type 0) (xs ys : List Object) → All P (xs ++ ys) → (i : ℕ) → i < length xs
    → P (object_at i xs)
at_prefix P xs ys each i lt =
    subst P (same_object xs ys i lt) (at_place P (xs ++ ys) i each (within_longer xs ys i lt))

pub prefix_is : (digest : List ℕ → List ℕ) (xs ys : List Object) → AreObjects digest (xs ++ ys)
    → AreObjects digest xs
prefix_is digest xs ys good = record {
  each = all_at (IsObject digest xs) xs
      (λ i lt. short i lt (at_prefix (IsObject digest (xs ++ ys)) xs ys good.each i lt));
  distinct = distinct_shorter xs ys good.distinct;
  connected = connected_shorter xs ys good.connected;
  few = let few = good.few in omega (arith, length-append xs ys);
}
  where
    short : (i : ℕ) → i < length xs → IsObject digest (xs ++ ys) (object_at i xs)
        → IsObject digest xs (object_at i xs)
    short i lt h = record {
      name = h.name;
      named = h.named;
      valid = valid_shorter xs ys i (omega arith) (object_at i xs).content.kind
          (object_at i xs).content.bytes (refers_within xs ys good.connected i lt) h.valid;
      short = h.short;
    }

pub held_prefix_is : (digest : List ℕ → List ℕ) (xs ys : List Object) → AreHeld digest (xs ++ ys)
    → AreHeld digest xs
held_prefix_is digest xs ys held = record {
  each = all_at (IsHeldObject digest) xs (at_prefix (IsHeldObject digest) xs ys held.each);
  distinct = distinct_shorter xs ys held.distinct;
  connected = connected_shorter xs ys held.connected;
  few = let few = held.few in omega (arith, length-append xs ys);
}

pub held_taken_is : (digest : List ℕ → List ℕ) (os : List Object) (n : ℕ) → AreHeld digest os
    → AreHeld digest (take n os)
held_taken_is digest os n held =
    held_prefix_is digest (take n os) (drop n os)
    (subst (AreHeld digest) (sym (take-append-drop n os)) held)

pub taken_is : (digest : List ℕ → List ℕ) (os : List Object) (n : ℕ) → AreObjects digest os
    → AreObjects digest (take n os)
taken_is digest os n good =
    prefix_is digest (take n os) (drop n os)
    (subst (AreObjects digest) (sym (take-append-drop n os)) good)

pub none_are : (digest : List ℕ → List ℕ) → AreObjects digest []
none_are digest = record {
  each = All-nil (IsObject digest []);
  distinct = λ i lt. absurd (omega arith);
  connected = λ i lt. absurd (omega arith);
  few = omega arith;
}
