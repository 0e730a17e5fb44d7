-- The refs that a file says of a tenant are good.
use Rattle.std.proofs.Common.{◌≡◌, ℕ, ◌<◌, List, [], ◌++◌, map, length, get_or, codes, Option, Some, sym, ap, subst, ◌∙◌, inl, inr, arith}
use Rattle.std.specs.Prelude.{IfSome, slice_get, unwrap_or}
use Rattle.std.specs.Option.{option_map, option_and_then, option_map_or}
use Rattle.std.specs.FinMap.{len-entries, get-from_sorted}
use Rattle.std.proofs.lemmas.List.{length-map}
use Rattle.std.proofs.lemmas.Option.{slice_get-get_or, slice_get-map}
use Rattle.git_model.specs.declared.kind.Kind.{Kind}
use Rattle.git_model.specs.declared.kind.Kind.TheVariants as kind
use Rattle.git_model.specs.Tag.{Tag}
use Rattle.git_model.specs.TagReading.{tag_read}
use Rattle.git_model.specs.Content.{Content, no_content}
use Rattle.git_model.specs.Repository.{Object, object_named}
use Rattle.git_model.specs.References.{content_named, no_object}
use Rattle.git_model.specs.RefStore.{target_of}
use Rattle.git_model.specs.GoodRepository.{MayHold, IsShortRefName, AreRefs}
use Rattle.git_model.proofs.TagReadings.{tag_back}
use Rattle.tenant_refs.specs.FullName.{namespaces}
use Rattle.pool_file_format.specs.Format.{RawObject, RawRef, RawTenant}
use Rattle.pool_file_checks.specs.Own.{kind_of, content_of, content_at, names_of, own_objects}
use Rattle.pool_file_checks.specs.FileRefs.{MayTarget, target_at, IsGoodRef}
use Rattle.pool_file_checks.specs.Saved.{ref_at, refs_at}
use Rattle.pool_file_checks.proofs.Members.{Has, has_at, from_map, all_has}
use Rattle.pool_file_checks.proofs.Keys.{key_cmp}
use Rattle.pool_file_checks.proofs.Passing.{Holds}
use Rattle.pool_file_checks.proofs.FileContents.{contents_of_rows}
use Rattle.pool_file_checks.proofs.OwnObjects.{own_distinct, own_length}
use Rattle.pool_file_checks.proofs.OwnTrees.{named_has}
use Rattle.pool_file_checks.proofs.FileRefLemmas.{shortened_is, sorted_refs, entries_are}
use Rattle.pool_file_checks.proofs.Found.{has_entry}

-- What a ref of a file may target it may hold, under the name that the target has.
tag_held : (own : List Object) (ref id : List ℕ) (c : Content) (tag : Tag)
    → object_named id own ≡ Some c → c.kind ≡ kind.Tag → tag_read c.bytes ≡ tag
    → ref ≡ codes "refs/tags/" ++ tag.name → MayHold own ref id
tag_held own ref id c tag named is read full =
    let kind_is = ap (option_map (λ (d : Content). d.kind)) named
    ∙ ap (λ (k : Kind). Some k) is in
    let content : content_named id own ≡ c = ap (λ (o : Option Content). unwrap_or o no_content) named in
    let name = ap (λ (d : Content). (tag_read d.bytes).name) content ∙ ap (λ (t : Tag). t.name) read in
    inr (tag.name, full, (kind_is, name))

may_hold : (own : List Object) (ref id : List ℕ) (c : Content) (o : RawObject)
    → object_named id own ≡ Some c → c ≡ content_of o → MayTarget ref o → MayHold own ref id
may_hold own ref id c o named is (inl commit) =
    let kind_is : c.kind ≡ kind.Commit = ap (λ (d : Content). d.kind) is ∙ ap kind_of commit in
    inl (ap (option_map (λ (d : Content). d.kind)) named ∙ ap (λ (k : Kind). Some k) kind_is)
may_hold own ref id c o named is (inr tag) =
    let kind_is : c.kind ≡ kind.Tag = ap (λ (d : Content). d.kind) is ∙ ap kind_of tag.0 in
    let read : tag_read c.bytes ≡ tag.1.tag =
    ap (λ (d : Content). tag_read d.bytes) is ∙ ap tag_read tag.1.contents
    ∙ tag_back tag.1.tag tag.1.writable in
    tag_held own ref id c tag.1.tag named kind_is read tag.1.ref_is

module _ (digest : List ℕ → List ℕ) (version : ℕ) (os : List RawObject) (t : RawTenant)
    (h : Holds digest version os t) where
  abbrev own : List Object
  own = own_objects digest os t.numbers

  -- ---- the target of a ref

  number_at : ℕ → ℕ
  number_at place = get_or t.numbers place 0

  object_of : ℕ → Object
  object_of place = get_or own place no_object

  number_within : (place : ℕ) → place < length t.numbers → number_at place < length os
  unfolding number_at
  number_within place l = h.numbers place 0 l

  slice_own : (place : ℕ) → place < length t.numbers
      → slice_get own place ≡ Some (object_of place)
  unfolding object_of
  slice_own place l =
      slice_get-get_or own place no_object
      (let size = own_length digest os t.numbers in omega (arith, l, size))

  same_content_at : (place : ℕ) → place < length t.numbers
      → (object_of place).content ≡ content_at os (number_at place)
  unfolding number_at
  same_content_at place l =
      let ours = slice_get-map (λ (o : Object). o.content) own place
      ∙ ap (option_map (λ (o : Object). o.content)) (slice_own place l) in
      let theirs = slice_get-map (content_at os) t.numbers place
      ∙ ap (option_map (content_at os)) (slice_get-get_or t.numbers place 0 l) in
      let same = sym ours
      ∙ ap (λ (cs : List Content). slice_get cs place) (contents_of_rows os (names_of digest os) t.numbers)
      ∙ theirs in
      cc same

  record HasTarget (place : ℕ) : Type 0 where
    raw : RawObject
    is : target_at os t.numbers place ≡ Some raw
    content : (object_of place).content ≡ content_of raw

  has_target : (place : ℕ) → place < length t.numbers → HasTarget place
  unfolding number_at content_at
  has_target place l =
      let d : RawObject = record { kind = 3; bytes = [] } in
      record {
        raw = get_or os (number_at place) d;
        is = ap (option_and_then (slice_get os)) (slice_get-get_or t.numbers place 0 l)
            ∙ slice_get-get_or os (number_at place) d (number_within place l);
        content = same_content_at place l;
      }

  -- ---- refs

  named_at_place : (place : ℕ) → place < length t.numbers
      → object_named (object_of place).id own ≡ Some (object_of place).content
  unfolding object_of
  named_at_place place l =
      named_has own (get_or own place no_object) (own_distinct digest os t.numbers h.distinct)
      (has_at own place no_object
      (let size = own_length digest os t.numbers in omega (arith, l, size)))

  id_is : (r : RawRef) → r.place < length t.numbers
      → (ref_at t.name own r).1 ≡ (object_of r.place).id
  id_is r l = ap (λ (o : Option Object). option_map_or (λ x. x.id) o []) (slice_own r.place l)

  record IsGoodEntry (ref id : List ℕ) : Type 0 where
    name : IsShortRefName ref
    target : MayHold own ref id

  good_entry : (r : RawRef) → Has t.refs r → IsGoodEntry (ref_at t.name own r).0 (ref_at t.name own r).1
  good_entry r has =
      let g = all_has (IsGoodRef (namespaces t.name) os t.numbers) t.refs r h.refs has in
      let l : r.place < length t.numbers =
      all_has (λ x. x.place < length t.numbers) t.refs r h.places has in
      let target = has_target r.place l in
      let may : MayTarget g.ref target.raw =
      subst (λ (o : Option RawObject). IfSome o (MayTarget g.ref)) target.is g.target in
      let ref = sym (shortened_is os t.numbers t.name r g) in
      let holds : MayHold own g.ref (object_of r.place).id =
      may_hold own g.ref (object_of r.place).id (object_of r.place).content target.raw
      (named_at_place r.place l) target.content may in
      record {
        name = subst IsShortRefName ref g.name;
        target = subst (λ (x : List ℕ). MayHold own x (ref_at t.name own r).1) ref
            (subst (λ (x : List ℕ). MayHold own g.ref x) (sym (id_is r l)) holds);
      }

  good_target : (ref id : List ℕ)
      → target_of (refs_at t.name own t.refs t.head) ref ≡ Some id → IsGoodEntry ref id
  good_target ref id e =
      let entries = map (ref_at t.name own) t.refs in
      let found = sym (get-from_sorted key_cmp entries ref
      (sorted_refs os t.numbers t.name own t.refs h.refs h.rising)) ∙ e in
      let f = from_map (ref_at t.name own) t.refs (ref, id) (has_entry entries ref id found) in
      subst (λ (x : List ℕ × List ℕ). IsGoodEntry x.0 x.1) f.is (good_entry f.from f.there)

  pub refs_good : AreRefs own (refs_at t.name own t.refs t.head)
  refs_good = record {
    names = λ ref id e. (good_target ref id e).name;
    targets = λ ref id e. (good_target ref id e).target;
    head = h.head;
    few =
        let size = len-entries (refs_at t.name own t.refs t.head).refs in
        let entries = ap (λ (es : List (List ℕ × List ℕ)). length es)
        (entries_are os t.numbers t.name own t.refs h.refs h.rising t.head) in
        let mapped = length-map t.refs (ref_at t.name own) in
        let few = h.few_refs in
        omega (arith, size, entries, mapped, few);
  }
