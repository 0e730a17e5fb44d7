-- What is known of the objects and the refs of a good repository.
use Rattle.std.proofs.Common.{◌≡◌, ℕ, suc, ◌<◌, true, false, List, [], ◌∷◌, ◌++◌, length, codes, Option, None, Some, refl, sym, ap, subst, ◌∙◌, inl, inr, arith}
use Rattle.std.specs.Prelude.{All, slice_get}
use Rattle.std.specs.List.{AllByRecursion, IsDistinct}
use Rattle.std.specs.Option.{option_map}
use Rattle.std.specs.Str.{bytes_eq}
use Rattle.std.proofs.lemmas.Slice.Eq.{bytes_eq-Decides}
use Rattle.std.proofs.lemmas.Option.{slice_get-get_or}
use Rattle.git_model.specs.declared.kind.Kind.{Kind}
use Rattle.git_model.specs.declared.kind.Kind.TheVariants as kind
use Rattle.git_model.specs.Tag.{Tag}
use Rattle.git_model.specs.TagReading.{tag_read}
use Rattle.git_model.specs.Content.{Content}
use Rattle.git_model.specs.Repository.{Object, object_named}
use Rattle.git_model.specs.References.{place_of, object_at, no_object, kind_named, content_named}
use Rattle.git_model.specs.GoodRepository.{IsValid, IsObject, IsTag, MayHold}
use Rattle.git_model.proofs.Places.{first_place, later_place, later_object, StandsAt, stands_at, at_place}
use Rattle.git_model.proofs.TagReadings.{tag_back}
use Rattle.pool_file_checks.specs.Objects.{kind_byte, IsText, IsContent, raw_object}
use Rattle.pool_file_checks.specs.FileRefs.{MayTarget}
use Rattle.pool_file_checks.proofs.Members.{Has, has_at}
use Rattle.pool_file_checks.proofs.OwnObjects.{ids, apart}

-- ---- contents

text_of : (os : List Object) (k : Kind) (bytes : List ℕ) → IsValid os k bytes → IsText k bytes
text_of os kind.Blob bytes v = tt
text_of os kind.Tree bytes v = (v.0, record { writable = v.1.writable; contents = v.1.contents })
text_of os kind.Commit bytes v = v
text_of os kind.Tag bytes v = v

pub content_of_good : (digest : List ℕ → List ℕ) (os : List Object) (o : Object)
    → IsObject digest os o → IsContent o.content
content_of_good digest os o h = (h.short, text_of os o.content.kind o.content.bytes h.valid)

-- ---- no two of one name

module _ (o : Object) (os : List Object)
    (places : (i : ℕ) → i < length (o ∷ os) → place_of (object_at i (o ∷ os)).id (o ∷ os) ≡ i) where
  later : (k : ℕ) → k < length os → bytes_eq (object_at k os).id o.id ≡ false
  later k l = apart (bytes_eq (object_at k os).id o.id) (λ e.
      let p = places (suc k) (omega (arith, l)) in
      let is = ap (λ (x : Object). place_of x.id (o ∷ os)) (later_object k o os) in
      let f = first_place (object_at k os).id o os e in
      omega (arith, p, is, f))

  rest_of_places : (k : ℕ) → k < length os → place_of (object_at k os).id os ≡ k
  rest_of_places k l =
      let p = places (suc k) (omega (arith, l)) in
      let is = ap (λ (x : Object). place_of x.id (o ∷ os)) (later_object k o os) in
      let s = later_place (object_at k os).id o os (later k l) in
      omega (arith, p, is, s)

none_same : (id : List ℕ) (os : List Object)
    → ((k : ℕ) → k < length os → bytes_eq (object_at k os).id id ≡ false)
    → AllByRecursion (λ y. bytes_eq id y ≡ false) (ids os)
unfolding object_at
none_same id [] each = tt
none_same id (o ∷ os) each = (
  apart (bytes_eq id o.id) (λ e.
      let back : bytes_eq o.id id ≡ true =
      (bytes_eq-Decides o.id id).1 (sym ((bytes_eq-Decides id o.id).0 e)) in
      let w = sym back ∙ each 0 (omega arith) in cc),
  none_same id os (λ k l. each (suc k) (omega (arith, l))),
)

pub distinct_ids : (os : List Object)
    → ((i : ℕ) → i < length os → place_of (object_at i os).id os ≡ i)
    → IsDistinct bytes_eq (ids os)
unfolding IsDistinct
distinct_ids [] places = tt
distinct_ids (o ∷ os) places = (
  none_same o.id os (later o os places),
  distinct_ids os (rest_of_places o os places),
)

-- ---- what a ref holds

-- An object of this name and kind stands there.
pub record IsThere (os : List Object) (id : List ℕ) (k : Kind) : Type 0 where
  pub content : Content
  pub named : object_named id os ≡ Some content
  pub stands : StandsAt os id content
  pub kind_is : content.kind ≡ k

pub is_there : (os : List Object) (id : List ℕ) (k : Kind) → kind_named id os ≡ Some k
    → IsThere os id k
is_there os id k e = by (object_named id os) refl e
  where
    by : (o : Option Content) → object_named id os ≡ o
        → option_map (λ (c : Content). c.kind) o ≡ Some k → IsThere os id k
    by None n e = cc
    by (Some c) n e =
        record { content = c; named = n; stands = stands_at id os c n; kind_is = cc }

pub slice_of_place : (os : List Object) (id : List ℕ) (c : Content) → StandsAt os id c
    → slice_get os (place_of id os) ≡ Some (record { id = id; content = c })
unfolding object_at
slice_of_place os id c s =
    slice_get-get_or os (place_of id os) no_object s.within
    ∙ ap (λ (o : Object). Some o) s.object

pub has_standing : (os : List Object) (id : List ℕ) (c : Content) → StandsAt os id c
    → Has os (record { id = id; content = c })
unfolding object_at
has_standing os id c s =
    subst (λ (o : Object). Has os o) s.object (has_at os (place_of id os) no_object s.within)

tag_of : (os : List Object) (k : Kind) (bytes : List ℕ) → k ≡ kind.Tag → IsValid os k bytes
    → (t : Tag) × IsTag bytes t
tag_of os k bytes e v = subst (λ (j : Kind). IsValid os j bytes) e v

-- A ref may hold an object of a good repository, and it may target it in a file.
pub record MayBeTarget (os : List Object) (ref id : List ℕ) : Type 0 where
  pub content : Content
  pub stands : StandsAt os id content
  pub may : MayTarget ref (raw_object content)

pub may_be_target : (digest : List ℕ → List ℕ) (os : List Object) (ref id : List ℕ)
    → All (IsObject digest os) os → MayHold os ref id → MayBeTarget os ref id
may_be_target digest os ref id all (inl commit) =
    let t = is_there os id kind.Commit commit in
    record { content = t.content; stands = t.stands; may = inl (ap kind_byte t.kind_is) }
may_be_target digest os ref id all (inr named) =
    let t = is_there os id kind.Tag named.2.0 in
    let object : IsObject digest os (record { id = id; content = t.content }) =
    subst (IsObject digest os) t.stands.object
    (at_place (IsObject digest os) os (place_of id os) all t.stands.within) in
    let tag = tag_of os t.content.kind t.content.bytes t.kind_is object.valid in
    let read : tag_read t.content.bytes ≡ tag.0 =
    ap tag_read tag.1.contents ∙ tag_back tag.0 tag.1.writable in
    let content : content_named id os ≡ t.content = cc in
    let name : tag.0.name ≡ named.0 =
    sym (ap (λ (x : Tag). x.name) read)
    ∙ sym (ap (λ (c : Content). (tag_read c.bytes).name) content) ∙ named.2.1 in
    record {
      content = t.content;
      stands = t.stands;
      may = inr (
        ap kind_byte t.kind_is,
        record {
          tag = tag.0;
          writable = tag.1.writable;
          contents = tag.1.contents;
          ref_is = named.1 ∙ ap (λ (l : List ℕ). codes "refs/tags/" ++ l) (sym name);
        },
      );
    }
