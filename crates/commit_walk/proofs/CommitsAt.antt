-- What is read at a position: whether a commit stands there, and its parents.
use Rattle.std.proofs.Common.{◌≡◌, ℕ, ◌<◌, Bool, true, false, not, List, [], length, slice_get, Option, Some, None, refl, sym, ap, subst, ◌∙◌, arith}
use Rattle.std.specs.Prelude.{unwrap_or}
use Rattle.std.proofs.lemmas.Option.{get_or_from_slice_get, slice_get-get_or}
use Rattle.git_model.specs.declared.kind.Kind.{Kind}
use Rattle.git_model.specs.declared.kind.Kind.TheVariants as kind
use Rattle.git_model.specs.contracts.kind.Kind.{the_type}
use denote.Enum.Bare.{sameb}
use Rattle.git_model.specs.CommitReading.{commit_read}
use Rattle.git_model.specs.Content.{Content, content_from, no_content}
use Rattle.git_model.specs.Repository.{Object}
use Rattle.git_model.specs.References.{place_of, object_at, no_object, parents_in, parents_of}
use Rattle.git_model.specs.Readable.{IsReadable}
use Rattle.git_model.specs.HeldObjects.{IsHeldObject, AreHeld}
use Rattle.git_model.specs.Peeling.{is_of, has_kind}
use Rattle.git_model.proofs.Places.{at_place}
use Rattle.tenant_tables.proofs.AddLemmas.{same_kind}
use Rattle.commit_walk.proofs.Named.{there, not_there}

-- a name with no place is no commit
pub no_commit : (os : List Object) (id : List ℕ) → place_of id os ≡ length os
    → is_of os kind.Commit id ≡ false
no_commit os id e = ap (has_kind kind.Commit) (not_there id os (omega (arith, e)))

pub object_told : (os : List Object) (i : ℕ) (o : Object) → Some o ≡ slice_get os i → object_at i os ≡ o
unfolding object_at
object_told os i o h = get_or_from_slice_get os i o no_object (sym h)

-- the test of a kind, at a position that is told
pub kind_told : (os : List Object) (id : List ℕ) (i : ℕ) (name : List ℕ) (k : Kind) (bytes : List ℕ)
    → place_of id os ≡ i → i < length os
    → Some (record { id = name; content = content_from k bytes }) ≡ slice_get os i
    → is_of os kind.Commit id ≡ sameb the_type k kind.Commit
kind_told os id i name k bytes at lt h =
    let o = object_told os i (record { id = name; content = content_from k bytes }) h in
    ap (has_kind kind.Commit) ((there id os (omega (arith, at))).named)
    ∙ ap (λ (n : ℕ). has_kind kind.Commit (Some (object_at n os).content)) at
    ∙ ap (λ (x : Object). has_kind kind.Commit (Some x.content)) o
    ∙ sym (same_kind k kind.Commit)

pub nothing_told : (os : List Object) (i : ℕ) → None ≡ slice_get os i → i < length os → ⊥
nothing_told os i h lt = let some = slice_get-get_or os i no_object lt in cc

-- ---- the parents at a position

told_commit : (k : Kind) (bytes : List ℕ) → sameb the_type k kind.Commit ≡ false
    → parents_in k bytes ≡ []
told_commit kind.Commit bytes e = cc e
told_commit kind.Tree bytes e = refl
told_commit kind.Blob bytes e = refl
told_commit kind.Tag bytes e = refl

-- what is known of a commit's contents among held objects
pub record IsTold (os : List Object) (i : ℕ) (bytes : List ℕ) : Type 0 where
  pub readable : IsReadable kind.Commit bytes
  pub parents : parents_of os (object_at i os).id ≡ (commit_read bytes).parents

module _ (digest : List ℕ → List ℕ) (os : List Object) (good : AreHeld digest os) (i : ℕ)
    (lt : i < length os) (name bytes : List ℕ) where
  parents_here : parents_of os (object_at i os).id
      ≡ parents_in (object_at i os).content.kind (object_at i os).content.bytes
  parents_here =
      let at = good.distinct i lt in
      let named = (there (object_at i os).id os (omega (arith, at))).named in
      ap (λ (o : Option Content). parents_in (unwrap_or o no_content).kind (unwrap_or o no_content).bytes) named
      ∙ ap (λ (n : ℕ). parents_in (object_at n os).content.kind (object_at n os).content.bytes) at

  pub none_of_others : (k : Kind)
      → Some (record { id = name; content = content_from k bytes }) ≡ slice_get os i
      → sameb the_type k kind.Commit ≡ false → parents_of os (object_at i os).id ≡ []
  none_of_others k h other =
      let o = object_told os i (record { id = name; content = content_from k bytes }) h in
      parents_here ∙ ap (λ (x : Object). parents_in x.content.kind x.content.bytes) o
      ∙ told_commit k bytes other

  pub commit_told : Some (record { id = name; content = content_from kind.Commit bytes }) ≡ slice_get os i
      → IsTold os i bytes
  commit_told h = record {
    readable = subst (λ (x : Object). IsReadable x.content.kind x.content.bytes) o
        (at_place (IsHeldObject digest) os i good.each lt).readable;
    parents = parents_here ∙ ap (λ (x : Object). parents_in x.content.kind x.content.bytes) o;
  }
    where
      o : object_at i os ≡ record { id = name; content = content_from kind.Commit bytes }
      o = object_told os i (record { id = name; content = content_from kind.Commit bytes }) h

pub not_true : (b : Bool) → true ≡ not b → b ≡ false
not_true true e = cc e
not_true false e = refl

pub not_false : (b : Bool) → false ≡ not b → b ≡ true
not_false true e = refl
not_false false e = cc e

pub kind_is_commit : (k : Kind) → sameb the_type k kind.Commit ≡ true → k ≡ kind.Commit
kind_is_commit kind.Commit e = refl
kind_is_commit kind.Tree e = cc e
kind_is_commit kind.Blob e = cc e
kind_is_commit kind.Tag e = cc e
