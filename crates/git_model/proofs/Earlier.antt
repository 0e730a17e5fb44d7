-- Among held objects what an object refers to stands before it: its parents, and what it leads to
-- where it is peeled.
use Rattle.std.proofs.Common.{◌≡◌, ℕ, ◌<◌, ◌≤◌, List, [], ◌∷◌, length, map, All, Option, None, Some, refl, subst}
use Rattle.std.specs.Prelude.{unwrap_or}
use Rattle.std.specs.Option.{option_and_then}
use Rattle.std.proofs.lemmas.List.Elements.{All-nil, All-cons, All-head, All-tail, All-weaker, All-map}
use Rattle.std.proofs.lemmas.List.Sums.{prefix_len-le-length}
use Rattle.git_model.specs.declared.kind.Kind.{Kind}
use Rattle.git_model.specs.declared.kind.Kind.TheVariants as kind
use Rattle.git_model.specs.CommitReading.{commit_read}
use Rattle.git_model.specs.TagReading.{tag_read}
use Rattle.git_model.specs.Content.{Content, no_content}
use Rattle.git_model.specs.Repository.{Object, object_named}
use Rattle.git_model.specs.References.{Reference, reference, references_of, references_in, content_named, parents_in, parents_of, referred_by, place_of}
use Rattle.git_model.specs.GoodRepository.{StandsBefore}
use Rattle.git_model.specs.HeldObjects.{AreHeld}
use Rattle.git_model.specs.Peeling.{tree_if_wanted, next_from, next_to}
use Rattle.git_model.proofs.Places.{stands_at}

of_mapped : {X Y : Type 0} (f : X → Y) (P : Y → Type 0) (xs : List X) → All P (map f xs)
    → All (λ x. P (f x)) xs
of_mapped f P [] h = All-nil (λ x. P (f x))
of_mapped f P (x ∷ xs) h =
    All-cons (λ x. P (f x)) x xs (All-head P (f x) (map f xs) h)
    (of_mapped f P xs (All-tail P (f x) (map f xs) h))

pub place_within : (id : List ℕ) (os : List Object) → place_of id os ≤ length os
unfolding place_of
place_within id os = prefix_len-le-length _ os

module _ (digest : List ℕ → List ℕ) (os : List Object) (held : AreHeld digest os) where
  refers : (id : List ℕ) (o : Option Content) → object_named id os ≡ o
      → All (StandsBefore os (place_of id os)) (references_in (unwrap_or o no_content))
  refers id None e = All-nil (StandsBefore os (place_of id os))
  refers id (Some c) e =
      let at = stands_at id os c e in
      subst (λ (o : Object). All (StandsBefore os (place_of id os))
      (references_in o.content)) at.object (held.connected (place_of id os) at.within)

  -- ---- parents, and all that an object refers to

  parents_of_kind : (P : List ℕ → Type 0) (k : Kind) (bytes : List ℕ)
      → All (λ (r : Reference). P r.id) (references_of k bytes) → All P (parents_in k bytes)
  parents_of_kind P kind.Commit bytes h =
      of_mapped (reference kind.Commit) (λ (r : Reference). P r.id) (commit_read bytes).parents
      (All-tail (λ (r : Reference). P r.id) _ _ h)
  parents_of_kind P kind.Blob bytes h = All-nil P
  parents_of_kind P kind.Tree bytes h = All-nil P
  parents_of_kind P kind.Tag bytes h = All-nil P

  before : (id : List ℕ)
      → All (λ (r : Reference). place_of r.id os < place_of id os)
      (references_in (content_named id os))
  before id =
      All-weaker (StandsBefore os (place_of id os))
      (λ (r : Reference). place_of r.id os < place_of id os) (λ r s. s.before)
      (references_in (content_named id os)) (refers id (object_named id os) refl)

  pub parents_fall : (id : List ℕ) → All (λ p. place_of p os < place_of id os) (parents_of os id)
  parents_fall id =
      let c = content_named id os in parents_of_kind
      (λ p. place_of p os < place_of id os) c.kind c.bytes (before id)

  pub references_fall : (id : List ℕ)
      → All (λ p. place_of p os < place_of id os) (referred_by os id)
  references_fall id =
      All-map (λ p. place_of p os < place_of id os) (λ (r : Reference). r.id)
      (references_in (content_named id os)) (before id)

  -- ---- what an object leads to where it is peeled

  tree_falls : (P : List ℕ → Type 0) (wanted : Kind) (bytes next : List ℕ)
      → tree_if_wanted wanted bytes ≡ Some next → P (commit_read bytes).tree → P next
  tree_falls P kind.Tree bytes next e h = subst P (cc e) h
  tree_falls P kind.Commit bytes next e h = cc
  tree_falls P kind.Blob bytes next e h = cc
  tree_falls P kind.Tag bytes next e h = cc

  next_falls_from : (P : List ℕ → Type 0) (wanted k : Kind) (bytes next : List ℕ)
      → next_from wanted k bytes ≡ Some next
      → All (λ (r : Reference). P r.id) (references_of k bytes) → P next
  next_falls_from P wanted kind.Tag bytes next e h =
      let is : (tag_read bytes).target ≡ next = cc in
      subst P is
      (All-head (λ (r : Reference). P r.id)
      (reference (tag_read bytes).kind (tag_read bytes).target) [] h)
  next_falls_from P wanted kind.Commit bytes next e h =
      tree_falls P wanted bytes next e (All-head (λ (r : Reference). P r.id) _ _ h)
  next_falls_from P wanted kind.Tree bytes next e h = cc
  next_falls_from P wanted kind.Blob bytes next e h = cc

  next_in : (wanted : Kind) (id next : List ℕ) (o : Option Content)
      → option_and_then (λ (c : Content). next_from wanted c.kind c.bytes) o ≡ Some next
      → All (λ (r : Reference). place_of r.id os < place_of id os)
      (references_in (unwrap_or o no_content)) → place_of next os < place_of id os
  next_in wanted id next None e h = cc
  next_in wanted id next (Some c) e h =
      next_falls_from (λ p. place_of p os < place_of id os) wanted c.kind c.bytes next e h

  pub next_falls : (wanted : Kind) (id next : List ℕ) → next_to os wanted id ≡ Some next
      → place_of next os < place_of id os
  next_falls wanted id next e = next_in wanted id next (object_named id os) e (before id)
