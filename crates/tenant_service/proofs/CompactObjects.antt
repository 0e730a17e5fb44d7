-- Objects are good without some others, if what is left refers to nothing else.
use Rattle.std.proofs.Common.{◌≡◌, ◌≢◌, ℕ, ◌<◌, ◌≤◌, Bool, true, false, cond, List, [], ◌∷◌, ◌++◌, length, filter, Option, None, Some, refl, sym, ap, ◌∙◌, subst, inl, inr, arith, append-nil, append_assoc}
use Rattle.std.specs.Prelude.{unwrap_or}
use Rattle.std.specs.List.{AllByRecursion}
use Rattle.std.specs.Option.{option_map}
use Rattle.std.specs.Str.{bytes_eq}
use Rattle.std.proofs.lemmas.Bool.{cases_Bool}
use Rattle.std.proofs.lemmas.List.Elements.{All-from_recursion, filter-append}
use Rattle.std.proofs.lemmas.Slice.Eq.{bytes_eq-Decides}
use Rattle.git_model.specs.declared.file_mode.FileMode.TheVariants as mode
use Rattle.git_model.specs.declared.kind.Kind.{Kind}
use Rattle.git_model.specs.declared.kind.Kind.TheVariants as kind
use Rattle.git_model.specs.Content.{Content, no_content}
use Rattle.git_model.specs.GoodRepository.{AreObjects, IsValid, MayAdd, StandsBefore}
use Rattle.git_model.specs.References.{Reference, object_at, place_of, reference, references_in, references_of, tree_references}
use Rattle.git_model.specs.Repository.{Object, object_named}
use Rattle.git_model.specs.Tree.{TreeEntry}
use Rattle.git_model.specs.TreeReading.{tree_read}
use Rattle.git_model.proofs.Growing.{longer, none_are, one_more}
use Rattle.git_model.proofs.Places.{first_named, first_object, later_named, later_object, nothing_named, of_entries, stands_at}
use Rattle.git_model.proofs.TreeReadings.{tree_back}
use Rattle.tenant_tables.specs.Sums.{TreesFit}
use Rattle.file_maps.specs.FileMap.{Listed}
use Rattle.file_maps.specs.StoredTree.{HasTree, Lists, ListsTree, first_directory, first_file, nothing}
use Rattle.file_maps.specs.Trees.{tree_content}
use Rattle.file_maps.proofs.SumsAfter.{fit-from, within-from}
use Rattle.export_laws.proofs.Known.{IsEarlier, IsKnown, known}
use Rattle.export_laws.proofs.RefsHeld.{zipped}

-- ---- objects whose names are in a set

module _ (set : List ℕ → Bool) where
  abbrev pub those : List Object → List Object
  those os = filter (λ (o : Object). set o.id) os

  pub those-named : (id : List ℕ) (os : List Object) → set id ≡ true
      → object_named id (those os) ≡ object_named id os
  those-named id [] on = refl
  those-named id (o ∷ os) on = elim (cases_Bool (bytes_eq id o.id)) [
    | inl yea ↦
        let has : set o.id ≡ true = ap set (sym ((bytes_eq-Decides id o.id).0 yea)) ∙ on in
        rw has (first_named id o (those os) yea ∙ sym (first_named id o os yea))
    | inr nay ↦ elim (cases_Bool (set o.id)) [
      | inl has ↦ rw has (later_named id o (those os) nay ∙ those-named id os on ∙ sym (later_named id o os nay))
      | inr not ↦ rw not (those-named id os on ∙ sym (later_named id o os nay))
    ]
  ]

  pub those-on : (id : List ℕ) (os : List Object) (c : Content) → object_named id (those os) ≡ Some c
      → set id ≡ true
  those-on id [] c is = let none = nothing_named id in cc
  those-on id (o ∷ os) c is = elim (cases_Bool (set o.id)) [
    | inl has ↦ elim (cases_Bool (bytes_eq id o.id)) [
      | inl yea ↦ ap set ((bytes_eq-Decides id o.id).0 yea) ∙ has
      | inr nay ↦ those-on id os c (sym (later_named id o (those os) nay) ∙ (rw has at is))
    ]
    | inr not ↦ those-on id os c (rw not at is)
  ]

  pub those-were : (id : List ℕ) (os : List Object) (c : Content) → object_named id (those os) ≡ Some c
      → object_named id os ≡ Some c
  those-were id os c is = sym (those-named id os (those-on id os c is)) ∙ is

  few-left : (os : List Object) → length (those os) ≤ length os
  few-left [] = omega arith
  few-left (o ∷ os) = by (set o.id) (few-left os)
    where
      by : (b : Bool) → length (those os) ≤ length os
          → length (cond b (o ∷ those os) (those os)) ≤ length (o ∷ os)
      by true rest = omega arith
      by false rest = omega arith

  -- ---- a tree that is left has the files that it had

  tree-was : (os : List Object) (id : List ℕ) (es : List TreeEntry) → HasTree (those os) id es → HasTree os id es
  tree-was os id es has =
      record { content = those-were id os (tree_content es) has.content; entries = has.entries }

  lists-were : (os : List Object) {es : List TreeEntry} {fs : Listed} → Lists (those os) es fs → Lists os es fs
  lists-were os nothing = nothing
  lists-were os (first_file e es files ne l) = first_file e es files ne (lists-were os l)
  lists-were os (first_directory e es inside below files is has sub l) =
      first_directory e es inside below files is (tree-was os e.id inside has) (lists-were os sub) (lists-were os l)

  files-were : (os : List Object) (id : List ℕ) (fs : Listed) → ListsTree (those os) id fs → ListsTree os id fs
  files-were os id fs t = record {
    direct = t.direct;
    tree = tree-was os id t.direct t.tree;
    lists = lists-were os t.lists;
  }

-- ---- what an object refers to

object-after : (first rest : List Object) (o : Object)
    → object_at (length first) (first ++ o ∷ rest) ≡ o
object-after [] rest o = first_object o rest
object-after (x ∷ first) rest o =
    later_object (length first) x (first ++ o ∷ rest) ∙ object-after first rest o

-- a name that first stands after these is not among them
absent : (digest : List ℕ → List ℕ) (first rest : List Object) (o : Object)
    → AreObjects digest (first ++ o ∷ rest) → length first < length (first ++ o ∷ rest)
    → object_named o.id first ≡ None
absent digest first rest o good lt = by (object_named o.id first) refl
  where
    place : place_of o.id (first ++ o ∷ rest) ≡ length first
    place =
        ap (λ (x : Object). place_of x.id (first ++ o ∷ rest)) (sym (object-after first rest o))
        ∙ good.distinct (length first) lt

    by : (found : Option Content) → object_named o.id first ≡ found → object_named o.id first ≡ None
    by None e = e
    by (Some c) e =
        let within = (stands_at o.id first c e).within in
        let same = (longer o.id first (o ∷ rest) within).place in
        absurd (omega (arith, within, same, place))

-- contents are valid among other objects that have what they refer to
still-valid : (os left : List Object) (k : Kind) (bytes : List ℕ)
    → AllByRecursion (IsEarlier os left) (references_of k bytes) → IsValid os k bytes
    → IsValid left k bytes
still-valid os left kind.Blob bytes has v = tt
still-valid os left kind.Tree bytes has v =
    let es = v.0 in
    let read : tree_read bytes ≡ es = ap tree_read v.1.contents ∙ tree_back es v.1.writable in
    let each = All-from_recursion
    (λ (e : TreeEntry). e.mode ≡ mode.Directory → IsEarlier os left (reference kind.Tree e.id)) es
    (of_entries (IsEarlier os left) es
    (All-from_recursion (IsEarlier os left) (tree_references es)
    (subst (λ (ds : List TreeEntry). AllByRecursion (IsEarlier os left) (tree_references ds)) read has))) in (
      es,
      record {
        writable = v.1.writable;
        contents = v.1.contents;
        none_empty = λ k d lt is.
            let r = each k d lt is in
            subst (λ (c : Content). c.bytes ≢ [])
            (ap (λ (o : Option Content). unwrap_or o no_content) (r.here ∙ sym r.before))
            (v.1.none_empty k d lt is);
      },
    )
still-valid os left kind.Commit bytes has v = v
still-valid os left kind.Tag bytes has v = v

stands : (os left : List Object) (r : Reference) → IsEarlier os left r
    → StandsBefore left (length left) r
stands os left r e = record {
  before = (stands_at r.id left e.content e.before).within;
  kind = ap (option_map (λ (c : Content). c.kind)) e.before ∙ ap Some e.kind;
}

-- ---- objects that refer to one another alone

-- Each object of the set refers to objects of the set.
abbrev pub IsWhole : (List ℕ → Bool) → List Object → Type 0
IsWhole set os =
    (id : List ℕ) (c : Content) → object_named id os ≡ Some c → set id ≡ true
    → AllByRecursion (λ (r : Reference). set r.id ≡ true) (references_in c)

module _ (digest : List ℕ → List ℕ) (set : List ℕ → Bool) (os : List Object)
    (good : AreObjects digest os) (whole : IsWhole set os) where
  one-left : (first rest : List Object) (o : Object) → os ≡ first ++ o ∷ rest → set o.id ≡ true
      → MayAdd digest (those set first) o
  one-left first rest o is on = record {
    new = those-named set o.id first on
        ∙ absent digest first rest o (subst (AreObjects digest) is good)
        (let l = ap (λ (x : List Object). length x) is in let w = k.within in omega (arith, l, w));
    object = record {
      name = k.is.name;
      named = k.is.named;
      valid = still-valid os (those set first) o.content.kind o.content.bytes has k.is.valid;
      short = k.is.short;
    };
    connected = All-from_recursion (StandsBefore (those set first) (length (those set first)))
        (references_in o.content)
        (zipped (references_in o.content) (λ r e _. stands os (those set first) r e) has has);
    room = let f = few-left set first in let w = k.within in let few = good.few in omega (arith, f, w, few);
  }
    where
      k : IsKnown digest os first o
      k = known digest os first rest o good is

      has : AllByRecursion (IsEarlier os (those set first)) (references_in o.content)
      has =
          zipped (references_in o.content)
          (λ r e in_set. record {
            content = e.content;
            before = those-named set r.id first in_set ∙ e.before;
            here = e.here;
            kind = e.kind;
          }) k.refers (whole o.id o.content k.named on)

  each-left : (rest first : List Object) → os ≡ first ++ rest → AreObjects digest (those set first)
      → AreObjects digest (those set os)
  each-left [] first is so_far =
      subst (λ (xs : List Object). AreObjects digest (those set xs)) (sym (is ∙ append-nil first)) so_far
  each-left (o ∷ rest) first is so_far =
      each-left rest (first ++ o ∷ []) (is ∙ sym (append_assoc first (o ∷ []) rest))
      (subst (AreObjects digest) (sym (filter-append (λ (x : Object). set x.id) first (o ∷ [])))
      (by (set o.id) refl))
    where
      by : (b : Bool) → set o.id ≡ b → AreObjects digest (those set first ++ cond b (o ∷ []) [])
      by true on = one_more digest (those set first) o so_far (one-left first rest o is on)
      by false off = subst (AreObjects digest) (sym (append-nil (those set first))) so_far

  pub objects-left : AreObjects digest (those set os)
  objects-left = each-left os [] refl (none_are digest)

  pub trees-left : TreesFit [] os → TreesFit [] (those set os)
  trees-left fits =
      fit-from digest (those set os) objects-left
      (λ id fs t. within-from digest os good fits id fs (files-were set os id fs t))
