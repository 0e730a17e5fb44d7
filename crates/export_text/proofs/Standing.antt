-- What is known of the object at a place, among held objects and among good ones.
use Rattle.std.proofs.Common.{◌≡◌, ℕ, ◌<◌, List, [], ◌∷◌, length, map, slice_get, All, Option, Some, refl, sym, ap, subst, ◌∙◌, arith}
use Rattle.std.specs.Prelude.{unwrap_or}
use Rattle.git_model.specs.declared.kind.Kind.{Kind}
use Rattle.git_model.specs.declared.kind.Kind.TheVariants as kind
use Rattle.git_model.specs.Commit.{Commit}
use Rattle.git_model.specs.CommitReading.{commit_read}
use Rattle.git_model.specs.Content.{Content, content_from, no_content}
use Rattle.git_model.specs.Repository.{Object, object_named}
use Rattle.git_model.specs.References.{reference, references_of, references_in, referred_by, commit_references, object_at, place_of}
use Rattle.git_model.specs.GoodRepository.{AreObjects, IsObject, IsValid, StandsBefore}
use Rattle.git_model.specs.HeldObjects.{AreHeld, IsHeldObject}
use Rattle.git_model.specs.Readable.{IsReadable}
use Rattle.git_model.proofs.Places.{stands_at, at_place}
use Rattle.git_model.proofs.Readables.{objects_are}
use Rattle.commit_walk.proofs.CommitsAt.{object_told}
use Rattle.commit_walk.proofs.Named.{there}
use Rattle.export_text.specs.Marking.{names_in}

-- among held objects
pub record IsHeldAt (os : List Object) (place : ℕ) (id : List ℕ) (k : Kind) (bytes : List ℕ) : Type 0 where
  pub object : object_at place os ≡ record { id = id; content = content_from k bytes }
  pub readable : IsReadable k bytes
  pub connected : All (StandsBefore os place) (references_of k bytes)
  pub referred : referred_by os (object_at place os).id ≡ names_in (references_of k bytes)

pub at-held : (digest : List ℕ → List ℕ) (os : List Object) → AreHeld digest os → (place : ℕ)
    → place < length os → (id : List ℕ) (k : Kind) (bytes : List ℕ)
    → Some (record { id = id; content = content_from k bytes }) ≡ slice_get os place
    → IsHeldAt os place id k bytes
at-held digest os held place lt id k bytes h = record {
  object = o;
  readable = subst (λ (x : Object). IsReadable x.content.kind x.content.bytes) o
      (at_place (IsHeldObject digest) os place held.each lt).readable;
  connected = subst (λ (x : Object). All (StandsBefore os place) (references_in x.content)) o (held.connected place lt);
  referred =
      ap (λ (c : Option Content). names_in (references_in (unwrap_or c no_content)))
      ((there (object_at place os).id os (let e = at in omega arith)).named)
      ∙ ap (λ (n : ℕ). names_in (references_in (object_at n os).content)) at
      ∙ ap (λ (x : Object). names_in (references_in x.content)) o;
}
  where
    o : object_at place os ≡ record { id = id; content = content_from k bytes }
    o = object_told os place (record { id = id; content = content_from k bytes }) h

    at : place_of (object_at place os).id os ≡ place
    at = held.distinct place lt

-- among good objects
pub record IsAt (os : List Object) (place : ℕ) (id : List ℕ) (k : Kind) (bytes : List ℕ) : Type 0 where
  pub object : object_at place os ≡ record { id = id; content = content_from k bytes }
  pub valid : IsValid os k bytes
  pub connected : All (StandsBefore os place) (references_of k bytes)
  pub referred : referred_by os (object_at place os).id ≡ names_in (references_of k bytes)

pub at-told : (digest : List ℕ → List ℕ) (os : List Object) → AreObjects digest os → (place : ℕ)
    → place < length os → (id : List ℕ) (k : Kind) (bytes : List ℕ)
    → Some (record { id = id; content = content_from k bytes }) ≡ slice_get os place
    → IsAt os place id k bytes
at-told digest os good place lt id k bytes h =
    let at = at-held digest os (objects_are digest os good) place lt id k bytes h in
    record {
      object = at.object;
      valid = subst (λ (x : Object). IsValid os x.content.kind x.content.bytes) at.object
          (at_place (IsObject digest os) os place good.each lt).valid;
      connected = at.connected;
      referred = at.referred;
    }

pub valid-named : (digest : List ℕ → List ℕ) (os : List Object) (id : List ℕ) (c : Content)
    → AreObjects digest os → Some c ≡ object_named id os → IsValid os c.kind c.bytes
valid-named digest os id c good is =
    let at = stands_at id os c (sym is) in
    let each = at_place (IsObject digest os) os (place_of id os) good.each at.within in
    (subst (IsObject digest os) at.object each).valid

pub parent_names : (ps : List (List ℕ)) → names_in (map (reference kind.Commit) ps) ≡ ps
parent_names [] = refl
parent_names (p ∷ ps) = ap (λ rest. p ∷ rest) (parent_names ps)

pub commit-names : (c : Commit) (contents : List ℕ) → c ≡ commit_read contents
    → c.tree ∷ c.parents ≡ names_in (references_of kind.Commit contents)
commit-names c contents is =
    ap (λ ps. c.tree ∷ ps) (sym (parent_names c.parents)) ∙ ap (λ (x : Commit). names_in (commit_references x)) is
