-- What good objects have under the name of a commit.
use Rattle.std.proofs.Common.{◌≡◌, ℕ, List, All, Option, None, Some, refl, sym, ap, ◌∙◌, subst}
use Rattle.std.specs.Prelude.{unwrap_or}
use Rattle.std.specs.Option.{option_map}
use Rattle.std.proofs.lemmas.List.Elements.{All-head}
use Rattle.git_model.specs.declared.kind.Kind.{Kind}
use Rattle.git_model.specs.declared.kind.Kind.TheVariants as kind
use Rattle.git_model.specs.Commit.{Commit, CanWriteCommit, commit_contents}
use Rattle.git_model.specs.CommitReading.{commit_read}
use Rattle.git_model.specs.Content.{Content, content_from, no_content}
use Rattle.git_model.specs.Repository.{Object, object_named}
use Rattle.git_model.specs.References.{references_in, kind_named, place_of}
use Rattle.git_model.specs.GoodRepository.{IsValid, IsObject, StandsBefore, AreObjects}
use Rattle.git_model.specs.HeldObjects.{AreHeld, IsHeldObject}
use Rattle.git_model.specs.Readable.{IsReadable}
use Rattle.git_model.proofs.Places.{stands_at, at_place}
use Rattle.file_maps.specs.StoredFiles.{tree_of_commit}

-- a commit stands under its name, and its tree is there
pub record IsStoredCommit (os : List Object) (id : List ℕ) : Type 0 where
  pub bytes : List ℕ
  pub named : object_named id os ≡ Some (content_from kind.Commit bytes)
  pub commit : Commit
  pub writable : CanWriteCommit commit
  pub contents : bytes ≡ commit_contents commit
  pub tree : kind_named (commit_read bytes).tree os ≡ Some kind.Tree

module _ (digest : List ℕ → List ℕ) (os : List Object) (good : AreObjects digest os) where
  stored_from : (id : List ℕ) (o : Option Content) → object_named id os ≡ o
      → option_map (λ (c : Content). c.kind) o ≡ Some kind.Commit → IsStoredCommit os id
  stored_from id None e k = cc
  stored_from id (Some c) e k =
      let is : c.kind ≡ kind.Commit = cc in
      let at = stands_at id os c e in
      let object : IsObject digest os (record { id = id; content = c }) =
      subst (IsObject digest os) at.object
      (at_place (IsObject digest os) os (place_of id os) good.each at.within) in
      let valid : IsValid os kind.Commit c.bytes =
      subst (λ (x : Kind). IsValid os x c.bytes) is object.valid in
      let refers : All (StandsBefore os (place_of id os))
      (references_in (content_from kind.Commit c.bytes)) =
      subst (λ (x : Kind). All (StandsBefore os (place_of id os)) (references_in (content_from x c.bytes))) is
      (subst (λ (o : Object). All (StandsBefore os (place_of id os)) (references_in o.content)) at.object
      (good.connected (place_of id os) at.within)) in
      record {
        bytes = c.bytes;
        named = e ∙ ap (λ (x : Kind). Some (content_from x c.bytes)) is;
        commit = valid.0;
        writable = valid.1.writable;
        contents = valid.1.contents;
        tree = (All-head (StandsBefore os (place_of id os)) _ _ refers).kind;
      }

  pub stored_commit : (id : List ℕ) → kind_named id os ≡ Some kind.Commit → IsStoredCommit os id
  stored_commit id k = stored_from id (object_named id os) refl k

-- ---- a commit among held objects

-- its contents can be read
pub held_commit : (digest : List ℕ → List ℕ) (os : List Object) → AreHeld digest os → (id : List ℕ)
    → kind_named id os ≡ Some kind.Commit → (k : Kind) (bytes : List ℕ)
    → Some (content_from k bytes) ≡ object_named id os → IsReadable kind.Commit bytes
held_commit digest os held id named k bytes found =
    let at = stands_at id os (content_from k bytes) (sym found) in
    let object : IsHeldObject digest (record { id = id; content = content_from k bytes }) =
    subst (IsHeldObject digest) at.object
    (at_place (IsHeldObject digest) os (place_of id os) held.each at.within) in
    let is : Some k ≡ Some kind.Commit =
    ap (option_map (λ (c : Content). c.kind)) found ∙ named in
    subst (λ (o : Option Kind). IsReadable (unwrap_or o k) bytes) is object.readable

-- and say its tree
pub told_tree : (os : List Object) (id : List ℕ) (k : Kind) (bytes : List ℕ)
    → Some (content_from k bytes) ≡ object_named id os
    → (commit_read bytes).tree ≡ tree_of_commit os id
told_tree os id k bytes found =
    ap (λ (o : Option Content). (commit_read (unwrap_or o no_content).bytes).tree) found

-- what is not there is none
pub no_commit : {P : Type 0} (os : List Object) (id : List ℕ) → None ≡ object_named id os
    → kind_named id os ≡ Some kind.Commit → P
no_commit os id none named =
    absurd
    (let no : None ≡ Some kind.Commit = ap (option_map (λ (c : Content). c.kind)) none ∙ named in cc no)
