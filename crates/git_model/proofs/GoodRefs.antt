-- Good refs stay good while objects are added, and where one ref or HEAD changes to what it may.
use Rattle.std.proofs.Common.{◌≡◌, ◌≢◌, ℕ, ◌≤◌, List, ◌++◌, Option, None, Some, refl, sym, ap, ◌∙◌, subst, inl, inr, arith}
use Rattle.std.specs.Prelude.{unwrap_or}
use Rattle.std.specs.Option.{option_map}
use Rattle.std.specs.FinMap as map
use Rattle.std.specs.Str.{bytes_eq}
use Rattle.std.specs.Ordering.{nat_cmp}
use Rattle.std.specs.Cmp.Lexicographic.{slice_cmp}
use Rattle.std.proofs.lemmas.Bool.{cases_Bool}
use Rattle.std.proofs.lemmas.Slice.Eq.{bytes_eq-Decides}
use Rattle.git_model.specs.declared.kind.Kind.{Kind}
use Rattle.git_model.specs.TagReading.{tag_read}
use Rattle.git_model.specs.Content.{Content, no_content}
use Rattle.git_model.specs.Repository.{Object, object_named}
use Rattle.git_model.specs.References.{kind_named}
use Rattle.git_model.specs.RefStore.{RefStore, first_head, no_refs, target_of, with_head, ChangesRef}
use Rattle.git_model.specs.GoodRepository.{MayHold, IsShortRefName, AreRefs, refs_limit}
use Rattle.git_model.specs.RefName.{is_ref_name}
use Rattle.git_model.proofs.RefNames.{is_ref_name-Decides}
use Rattle.git_model.proofs.Places.{stands_at}
use Rattle.git_model.proofs.Growing.{AreAlike, longer}

-- ---- more objects

pub there : (os more : List Object) (id : List ℕ) (k : Kind) (o : Option Content)
    → object_named id os ≡ o → option_map (λ (c : Content). c.kind) o ≡ Some k
    → AreAlike id (os ++ more) os
there os more id k None e h = cc
there os more id k (Some c) e h = longer id os more (stands_at id os c e).within

pub kind_longer : (os more : List Object) (id : List ℕ) (k : Kind) → kind_named id os ≡ Some k
    → kind_named id (os ++ more) ≡ Some k
kind_longer os more id k h =
    ap (λ (o : Option Content). option_map (λ (c : Content). c.kind) o)
    (there os more id k (object_named id os) refl h).object ∙ h

held_longer : (os more : List Object) (ref id : List ℕ) → MayHold os ref id
    → MayHold (os ++ more) ref id
held_longer os more ref id h = elim h [
  | inl commit ↦ inl (kind_longer os more id _ commit)
  | inr tag ↦ inr (
    tag.0,
    tag.1,
    (
      kind_longer os more id _ tag.2.0,
      ap (λ (o : Option Content). (tag_read (unwrap_or o no_content).bytes).name)
          (there os more id _ (object_named id os) refl tag.2.0).object ∙ tag.2.1,
    ),
  )
]

pub refs_longer : (os more : List Object) (store : RefStore) → AreRefs os store
    → AreRefs (os ++ more) store
refs_longer os more store h = record {
  names = h.names;
  targets = λ ref id e. held_longer os more ref id (h.targets ref id e);
  head = h.head;
  few = h.few;
}

-- ---- another target, and another HEAD

Good : List Object → List ℕ → List ℕ → Type 0
Good os ref id = IsShortRefName ref × MayHold os ref id

each : (os : List Object) (old new : RefStore) (ref : List ℕ) (target : Option (List ℕ))
    → AreRefs os old → ChangesRef old new ref target
    → ((id : List ℕ) → target ≡ Some id → Good os ref id)
    → (r id : List ℕ) → target_of new r ≡ Some id → Good os r id
unfolding Good
each os old new ref target h change may r id e = elim (cases_Bool (bytes_eq r ref)) [
  | inl yea ↦
      let is : r ≡ ref = (bytes_eq-Decides r ref).0 yea in
      subst (λ (x : List ℕ). Good os x id) (sym is)
      (may id (sym change.this_ref ∙ ap (target_of new) (sym is) ∙ e))
  | inr nay ↦
      let other : r ≢ ref = (λ is. let t = (bytes_eq-Decides r ref).1 is in cc) in
      let held = sym (change.other_refs r other) ∙ e in
      (h.names r id held, h.targets r id held)
]

pub ref_changes : (os : List Object) (old new : RefStore) (ref : List ℕ) (target : Option (List ℕ))
    → AreRefs os old → ChangesRef old new ref target
    → ((id : List ℕ) → target ≡ Some id → IsShortRefName ref × MayHold os ref id)
    → map.len new.refs ≤ refs_limit → AreRefs os new
unfolding Good
ref_changes os old new ref target h change may few = record {
  names = λ r id e. (each os old new ref target h change may r id e).0;
  targets = λ r id e. (each os old new ref target h change may r id e).1;
  head = subst IsShortRefName (sym change.head) h.head;
  few = few;
}

pub head_changes : (os : List Object) (store : RefStore) (ref : List ℕ) → AreRefs os store
    → IsShortRefName ref → AreRefs os (with_head store ref)
head_changes os store ref h is =
    record { names = h.names; targets = h.targets; head = is; few = h.few }

-- ---- no refs

first_head_is : IsShortRefName first_head
unfolding is_ref_name
first_head_is = record { name = (is_ref_name-Decides first_head).0 refl; short = omega arith }

pub no_refs_are : (os : List Object) → AreRefs os no_refs
no_refs_are os = record {
  names = λ ref id e. let none = map.get-empty {X = List ℕ} (slice_cmp nat_cmp) ref in cc;
  targets = λ ref id e. let none = map.get-empty {X = List ℕ} (slice_cmp nat_cmp) ref in cc;
  head = first_head_is;
  few = let none = map.len-empty (slice_cmp nat_cmp) (List ℕ) in omega arith;
}
