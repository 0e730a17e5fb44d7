-- Good objects stay good where a content is stored that is valid among them.
use Rattle.std.proofs.Common.{◌≡◌, ◌++◌, ◌<◌, ◌≤◌, nat_le, nat_lt, length, ℕ, Bool, true, false, List, [], ◌∷◌, Option, Some, None, refl, sym, ap, ◌∙◌, subst, All}
use Rattle.std.specs.Prelude.{is_some}
use Rattle.std.specs.Option.{option_map, option_map_or}
use Rattle.std.proofs.lemmas.Bool.{leb-false, ltb-false}
use Rattle.std.proofs.lemmas.List.{append-nil}
use Rattle.std.proofs.lemmas.Slice.Eq.{bytes_eq-Decides}
use Rattle.git_model.specs.declared.kind.Kind.{Kind}
use Rattle.git_model.specs.Content.{Content, name_by, same_content}
use Rattle.git_model.specs.GoodRepository.{AreObjects, IsObject, IsValid, StandsBefore}
use Rattle.git_model.specs.ObjectName.{IsObjectName}
use Rattle.git_model.specs.References.{kind_named, place_of, references_in}
use Rattle.git_model.specs.Repository.{Object, has_object, object_named, with_object}
use Rattle.git_model.proofs.Growing.{after_prefix, one_more}
use Rattle.git_model.proofs.Places.{at_place, first_named, stands_at}
use Rattle.content_pool.proofs.StoredLemmas.{same_content-decides}
use Rattle.tenant_tables.specs.declared.table.TheConstants.{CONTENTS_LIMIT, OBJECTS_LIMIT}
use Rattle.tenant_tables.specs.Adding.{store_fault}

-- an object that is there
pub record Stands (os : List Object) (id : List ℕ) : Type 0 where
  pub name : IsObjectName id
  pub before : place_of id os < length os

pub there : (digest : List ℕ → List ℕ) (os : List Object) → AreObjects digest os
    → (id : List ℕ) (k : Kind) → kind_named id os ≡ Some k → Stands os id
there digest os good id k e = by_object (object_named id os) refl e
  where
    by_object : (o : Option Content) → object_named id os ≡ o
        → option_map (λ (c : Content). c.kind) o ≡ Some k → Stands os id
    by_object None is none = cc
    by_object (Some c) is some =
        let stands = stands_at id os c is in
        let object = at_place (IsObject digest os) os (place_of id os) good.each stands.within in
        record {
          name = subst IsObjectName (ap (λ (o : Object). o.id) stands.object) object.name;
          before = stands.within;
        }

-- objects with others after them
pub record Grows (os new : List Object) : Type 0 where
  pub more : List Object
  pub are : new ≡ os ++ more

-- a content that may be stored among good objects
pub record MayStore (digest : List ℕ → List ℕ) (os : List Object) (content : Content)
    : Type 0 where
  pub name : IsObjectName (name_by digest content)
  pub valid : IsValid os content.kind content.bytes
  pub connected : All (StandsBefore os (length os)) (references_in content)

-- and what is there once it is stored
pub record Holds (digest : List ℕ → List ℕ) (os new : List Object) (content : Content)
    : Type 0 where
  pub good : AreObjects digest new
  pub grows : Grows os new
  pub held : object_named (name_by digest content) new ≡ Some content

by_test : {P : Type 0} (test : Bool) → (test ≡ true → P) → (test ≡ false → P) → P
by_test true holds fails = holds refl
by_test false holds fails = fails refl

none_of : {A : Type 0} (o : Option A) → is_some o ≡ false → o ≡ None
none_of None e = refl
none_of (Some x) e = cc

held_so : (content : Content) (o : Option Content)
    → option_map_or (same_content content) o false ≡ true → (o ≡ Some content) × (is_some o ≡ true)
held_so content None e = cc
held_so content (Some other) e =
    (ap Some (sym ((same_content-decides content other).0 e)), refl)

added_good : (digest : List ℕ → List ℕ) (os : List Object) → AreObjects digest os
    → (content : Content) → MayStore digest os content
    → length content.bytes ≤ CONTENTS_LIMIT → length os < OBJECTS_LIMIT
    → object_named (name_by digest content) os ≡ None
    → Holds digest os (os ++ record { id = name_by digest content; content = content } ∷ []) content
added_good digest os good content may short room none =
    let id = name_by digest content in
    let o : Object = record { id = id; content = content } in
    record {
      good = one_more digest os o good (record {
        new = none;
        object = record { name = may.name; named = refl; valid = may.valid; short = short };
        connected = may.connected;
        room = room;
      });
      grows = record { more = o ∷ []; are = refl };
      held = after_prefix id os (o ∷ []) none
          ∙ first_named id o [] ((bytes_eq-Decides id id).1 refl);
    }

-- what nothing refuses is held
pub stored_good : (digest : List ℕ → List ℕ) (os : List Object) → AreObjects digest os
    → (content : Content) → MayStore digest os content
    → store_fault (name_by digest content) content os ≡ None
    → Holds digest os (with_object (name_by digest content) content os) content
unfolding store_fault
stored_good digest os good content may e =
    let id = name_by digest content in
    by_test (nat_lt CONTENTS_LIMIT (length content.bytes))
    (λ long. let no = rw long at e in cc)
    (λ short.
    let fits = ltb-false CONTENTS_LIMIT (length content.bytes) short in
    let e1 = rw short at e in
    by_test (has_object id content os)
    (λ has.
    let held = held_so content (object_named id os) has in
    rw held.1 (record {
      good = good;
      grows = record { more = []; are = sym (append-nil os) };
      held = held.0;
    }))
    (λ other. let e2 = rw other at e1 in
    by_test (nat_le OBJECTS_LIMIT (length os))
    (λ full. let no = rw full at e2 in cc)
    (λ room. let e3 = rw room at e2 in
    by_test (is_some (object_named id os))
    (λ collides. let no = rw collides at e3 in cc)
    (λ new. rw new (added_good digest os good content may fits
    (leb-false OBJECTS_LIMIT (length os) room) (none_of (object_named id os) new))))))
