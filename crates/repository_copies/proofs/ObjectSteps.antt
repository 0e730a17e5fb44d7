-- What comes with the objects of a good repository, one object after another.
use Rattle.std.proofs.Common.{◌≡◌, ◌≢◌, ℕ, ◌<◌, List, [], ◌∷◌, ◌++◌, length, All, Some, is_some, refl, sym, ap, subst, ◌∙◌, arith}
use Rattle.std.specs.Prelude.{Option, unwrap_or}
use Rattle.std.proofs.lemmas.Bool.{false≢true}
use Rattle.std.proofs.lemmas.List.Elements.{All-head, All-nil}
use Rattle.git_model.specs.declared.kind.Kind.{Kind}
use Rattle.git_model.specs.declared.kind.Kind.TheVariants as kind
use Rattle.git_model.specs.Commit.{Commit, CanWriteCommit, commit_contents}
use Rattle.git_model.specs.CommitReading.{commit_read}
use Rattle.git_model.specs.Content.{Content, content_from, no_content}
use Rattle.git_model.specs.GoodRepository.{AreObjects, IsCommit, IsObject, IsValid, StandsBefore}
use Rattle.git_model.specs.References.{content_named, kind_named, object_at, reference, references_in}
use Rattle.git_model.specs.Repository.{Object}
use Rattle.git_model.specs.StoredPath.{entries_in, entries_of}
use Rattle.git_model.proofs.CommitReadings.{commit_back}
use Rattle.git_model.proofs.Places.{at_place, nothing_named}
use Rattle.commit_walk.proofs.Named.{there}
use Rattle.export_laws.specs.Order.{AreWhole, HasDirectories, names_by, names_with, objects_at, stored_with, trees_of, with_named}
use Rattle.export_laws.proofs.OrderLaws.{object-added, tree-added}
use Rattle.export_laws.proofs.OrderNames.{named-both, stored-last}
use Rattle.repository_copies.specs.declared.found.Found.{Found}
use Rattle.repository_copies.specs.Found.{Adds, AreFound, found_objects}
use Rattle.repository_copies.proofs.Adding.{both}

no-entries : (k : Kind) (bytes : List ℕ) → k ≢ kind.Tree → entries_in k bytes ≡ []
no-entries kind.Tree bytes other = absurd (other refl)
no-entries kind.Commit bytes other = refl
no-entries kind.Blob bytes other = refl
no-entries kind.Tag bytes other = refl

-- What is known of a commit by its contents.
pub record IsCommitAt (os : List Object) (bytes : List ℕ) : Type 0 where
  pub commit : Commit
  pub writable : CanWriteCommit commit
  pub contents : bytes ≡ commit_contents commit
  pub read : (commit_read bytes).tree ≡ commit.tree
  pub tree : kind_named commit.tree os ≡ Some kind.Tree

module _ (digest : List ℕ → List ℕ) (os : List Object) (good : AreObjects digest os) (place : ℕ)
    (lt : place < length os) where
  abbrev id : List ℕ
  id = (object_at place os).id

  abbrev Holds : Kind → List ℕ → Type 0
  Holds k bytes = (object_at place os).content ≡ content_from k bytes

  -- ---- a commit

  tree-stands : (bytes : List ℕ) → Holds kind.Commit bytes
      → kind_named (commit_read bytes).tree os ≡ Some kind.Tree
  tree-stands bytes told =
      (All-head (StandsBefore os place) (reference kind.Tree (commit_read bytes).tree) _
      (subst (λ (c : Content). All (StandsBefore os place) (references_in c)) told (good.connected place lt))).kind

  pub commit-at : (bytes : List ℕ) → Holds kind.Commit bytes → IsCommitAt os bytes
  commit-at bytes told = record {
    commit = valid.0;
    writable = valid.1.writable;
    contents = valid.1.contents;
    read = read;
    tree = subst (λ (tree : List ℕ). kind_named tree os ≡ Some kind.Tree) read (tree-stands bytes told);
  }
    where
      valid : (c : Commit) × IsCommit bytes c
      valid = subst (λ (c : Content). IsValid os c.kind c.bytes) told
          (at_place (IsObject digest os) os place good.each lt).valid

      read : (commit_read bytes).tree ≡ valid.0.tree
      read = ap (λ (c : Commit). c.tree)
          (ap commit_read valid.1.contents ∙ commit_back valid.0 valid.1.writable)

  pub commit-added : (bytes : List ℕ) (at : IsCommitAt os bytes) (before mid after : Found)
      → Adds os (trees_of os at.commit.tree) before mid → Adds os (id ∷ []) mid after
      → Adds os (names_by os id kind.Commit bytes) before after
  commit-added bytes at before mid after trees itself =
      subst (λ (tree : List ℕ). Adds os (trees_of os tree ++ id ∷ []) before after) (sym at.read)
      (both os (trees_of os at.commit.tree) (id ∷ []) before mid after trees itself)

  -- ---- each tree has those of its directories there

  content-here : content_named id os ≡ (object_at place os).content
  content-here =
      let at = good.distinct place lt in
      ap (λ (o : Option Content). unwrap_or o no_content) (there id os (omega (arith, at, lt))).named
      ∙ ap (λ (n : ℕ). (object_at n os).content) at

  no-directories : (k : Kind) (bytes : List ℕ) → Holds k bytes → k ≢ kind.Tree → (held : List Object)
      → HasDirectories held (entries_of os id)
  no-directories k bytes told other held =
      subst (HasDirectories held)
      (sym (ap (λ (c : Content). entries_in c.kind c.bytes) (content-here ∙ told) ∙ no-entries k bytes other))
      (All-nil _)

  whole-after : (k : Kind) (bytes : List ℕ) → Holds k bytes → (held : List Object) → AreWhole os held
      → AreWhole os (with_named os (names_by os id k bytes) held)
  whole-after kind.Tree bytes told held whole = whole
  whole-after kind.Blob bytes told held whole =
      object-added os held id whole (no-directories kind.Blob bytes told (λ no. cc) held)
  whole-after kind.Tag bytes told held whole =
      object-added os held id whole (no-directories kind.Tag bytes told (λ no. cc) held)
  whole-after kind.Commit bytes told held whole =
      let tree : List ℕ = (commit_read bytes).tree in
      let mid : List Object = with_named os (trees_of os tree) held in
      subst (AreWhole os) (sym (named-both os (trees_of os tree) (id ∷ []) held))
      (object-added os mid id (tree-added digest os good tree (tree-stands bytes told) held whole).whole
      (no-directories kind.Commit bytes told (λ no. cc) mid))

-- ---- one object after another

-- What comes with some objects was added.
pub record AreAdded (os xs : List Object) (now : Found) : Type 0 where
  pub found : AreFound os now
  pub whole : AreWhole os (found_objects os now)
  pub objects : found_objects os now ≡ stored_with os xs

pub none-added : (os : List Object) (now : Found) → AreFound os now → now.places.items ≡ []
    → AreAdded os [] now
none-added os now are empty = record {
  found = are;
  whole =
      subst (AreWhole os) (sym (ap (objects_at os) empty))
      (λ name is. absurd (false≢true (sym (ap is_some (nothing_named name)) ∙ is)));
  objects = ap (objects_at os) empty;
}

pub one-added : (digest : List ℕ → List ℕ) (os : List Object) → AreObjects digest os → (place : ℕ)
    → place < length os → (xs ys : List Object) (before after : Found)
    → ys ≡ xs ++ object_at place os ∷ [] → AreAdded os xs before
    → Adds os (names_with os (object_at place os)) before after → AreAdded os ys after
one-added digest os good place lt xs ys before after grown were step = record {
  found = step.found;
  whole =
      subst (AreWhole os) (sym step.objects)
      (whole-after digest os good place lt (object_at place os).content.kind (object_at place os).content.bytes refl
      (found_objects os before) were.whole);
  objects =
      step.objects ∙ ap (with_named os (names_with os (object_at place os))) were.objects
      ∙ sym (stored-last os xs (object_at place os)) ∙ ap (stored_with os) (sym grown);
}
