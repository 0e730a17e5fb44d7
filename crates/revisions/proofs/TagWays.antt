-- Ways along tags, and what they say of peeling.
use Rattle.std.proofs.Common.{◌≡◌, ℕ, Bool, true, false, cond, List, length, Option, None, Some, refl, sym, subst, ◌∙◌, ◌↔◌, inl, inr}
use Rattle.std.specs.Prelude.{◌≢◌}
use Rattle.std.specs.Map.{lookup}
use Rattle.std.specs.Str.{bytes_eq}
use Rattle.std.proofs.lemmas.Bool.{cases_Bool}
use Rattle.std.proofs.lemmas.Slice.Eq.{bytes_eq-Decides}
use Rattle.git_model.specs.declared.kind.Kind.{Kind}
use Rattle.git_model.specs.declared.kind.Kind.TheVariants as kind
use Rattle.git_model.specs.Kind.{kind_word}
use Rattle.git_model.specs.Content.{Content}
use Rattle.git_model.specs.HeldObjects.{AreHeld}
use Rattle.git_model.specs.Peeling.{ComesFirstTo, at_once, later, is_no_tag, is_of, is_there_untagged, next_from, next_to, peeled_to, without_tags}
use Rattle.git_model.specs.References.{place_of}
use Rattle.git_model.specs.Repository.{Object, object_named}
use Rattle.git_model.proofs.Earlier.{place_within, next_falls}
use Rattle.git_model.proofs.Peelings.{first_is}
use Rattle.revisions.specs.TagEnds.{AreTagEnds, EndsAt}

-- a way goes on from where its first step leads
past : {A : Type 0} (test : A → Bool) (next : A → Option A) (a b c : A) → test a ≡ false
    → next a ≡ Some b → ComesFirstTo test next a c → ComesFirstTo test next b c
past test next a b c nay is (at_once _ yea) = cc
past test next a b c nay is (later _ other _ holds leads rest) =
    let same : other ≡ b = cc in subst (λ x. ComesFirstTo test next x c) same rest

-- what leads on where a blob is wanted is a tag
untagged_stays : (os : List Object) (a b : List ℕ) (o : Option Content) → object_named a os ≡ o
    → is_there_untagged os a ≡ true → next_to os kind.Blob a ≡ Some b → ⊥
untagged_stays os a b None is yea leads = let no = rw is at yea in cc no
untagged_stays os a b (Some c) is yea leads = by_kind c.kind (rw is at yea) (rw is at leads)
  where
    by_kind : (k : Kind) → is_no_tag k ≡ true → next_from kind.Blob k c.bytes ≡ Some b → ⊥
    by_kind kind.Tag is_none from = cc
    by_kind kind.Commit is_none from = cc
    by_kind kind.Tree is_none from = cc
    by_kind kind.Blob is_none from = cc

pub goes_on : (os : List Object) (a b end : List ℕ) → EndsAt os a end
    → next_to os kind.Blob a ≡ Some b → EndsAt os b end
goes_on os a b end (at_once _ yea) leads =
    absurd (untagged_stays os a b (object_named a os) refl yea leads)
goes_on os a b end (later _ other _ nay is rest) leads =
    let same : other ≡ b = cc in subst (λ x. EndsAt os x end) same rest

-- ---- peeling past tags

tag_word : (wanted : Kind) → wanted ≢ kind.Tag
    → bytes_eq (kind_word kind.Tag) (kind_word wanted) ≡ false
tag_word kind.Tag other = absurd (other refl)
tag_word kind.Commit other = refl
tag_word kind.Tree other = refl
tag_word kind.Blob other = refl

tag_from : (wanted k : Kind) (bytes b : List ℕ) → wanted ≢ kind.Tag
    → next_from kind.Blob k bytes ≡ Some b
    → (bytes_eq (kind_word k) (kind_word wanted) ≡ false) × (next_from wanted k bytes ≡ Some b)
tag_from wanted kind.Tag bytes b other is = (tag_word wanted other, is)
tag_from wanted kind.Commit bytes b other is = cc
tag_from wanted kind.Tree bytes b other is = cc
tag_from wanted kind.Blob bytes b other is = cc

-- a tag leads on whatever else is wanted
tag_step : (os : List Object) (wanted : Kind) (a b : List ℕ) (o : Option Content)
    → wanted ≢ kind.Tag → object_named a os ≡ o → next_to os kind.Blob a ≡ Some b
    → (is_of os wanted a ≡ false) × (next_to os wanted a ≡ Some b)
tag_step os wanted a b None other is leads = absurd (let no = rw is at leads in cc no)
tag_step os wanted a b (Some c) other is leads =
    rw is (tag_from wanted c.kind c.bytes b other (rw is at leads))

module _ (os : List Object) (wanted : Kind) (other : wanted ≢ kind.Tag) where
  -- what is first on the way from an object is first on the way from the end of its tags
  same_first : {a end : List ℕ} (found : List ℕ) → EndsAt os a end
      → ComesFirstTo (is_of os wanted) (next_to os wanted) end found
      ↔ ComesFirstTo (is_of os wanted) (next_to os wanted) a found
  same_first found (at_once a yea) = (λ way. way, λ way. way)
  same_first found (later a b end nay is rest) =
      let step = tag_step os wanted a b (object_named a os) other refl is in
      let same = same_first found rest in (
        λ way. later a b found step.0 step.1 (same.0 way),
        λ way. same.1 (past (is_of os wanted) (next_to os wanted) a b found step.0 step.1 way),
      )

same_option : {A : Type 0} (o p : Option A) → ((x : A) → (o ≡ Some x) ↔ (p ≡ Some x)) → o ≡ p
same_option None None same = refl
same_option None (Some y) same = (same y).1 refl
same_option (Some x) p same = sym ((same x).0 refl)

peeling_is : (digest : List ℕ → List ℕ) (os : List Object) → AreHeld digest os
    → (wanted : Kind) (id found : List ℕ) → (peeled_to os wanted id ≡ Some found)
    ↔ ComesFirstTo (is_of os wanted) (next_to os wanted) id found
unfolding peeled_to
peeling_is digest os held wanted id found =
    first_is (is_of os wanted) (next_to os wanted) (λ k. place_of k os)
    (next_falls digest os held wanted) (length os) id found (place_within id os)

-- an object is peeled to what the end of its tags is peeled to
pub peeled_past : (digest : List ℕ → List ℕ) (os : List Object) → AreHeld digest os
    → (wanted : Kind) (id end : List ℕ) → wanted ≢ kind.Tag → EndsAt os id end
    → peeled_to os wanted end ≡ peeled_to os wanted id
peeled_past digest os held wanted id end other way =
    same_option (peeled_to os wanted end) (peeled_to os wanted id) (λ found. (
      λ is. (peeling_is digest os held wanted id found).1 ((same_first os wanted other found way).0
          ((peeling_is digest os held wanted end found).0 is)),
      λ is. (peeling_is digest os held wanted end found).1 ((same_first os wanted other found way).1
          ((peeling_is digest os held wanted id found).0 is)),
    ))

-- without its tags it is that end
pub without_is : (digest : List ℕ → List ℕ) (os : List Object) → AreHeld digest os
    → (id end : List ℕ) → EndsAt os id end → without_tags os id ≡ Some end
unfolding without_tags
without_is digest os held id end way =
    (first_is (is_there_untagged os) (next_to os kind.Blob) (λ k. place_of k os)
    (next_falls digest os held kind.Blob) (length os) id end (place_within id os)).1 way

-- ---- what is kept

pub ends_with : (os : List Object) (tag end : List ℕ) (old new : List (List ℕ × List ℕ))
    → ((other : List ℕ) → lookup (bytes_eq other) new
    ≡ cond (bytes_eq tag other) (Some end) (lookup (bytes_eq other) old))
    → EndsAt os tag end → AreTagEnds os old → AreTagEnds os new
ends_with os tag end old new updated way ends other found is =
    elim (cases_Bool (bytes_eq tag other)) [
      | inl yea ↦
          (let same : tag ≡ other = (bytes_eq-Decides tag other).0 yea in
          let kept : end ≡ found = (let at = updated other in let now = rw yea at at in cc) in
          subst (λ x. EndsAt os x found) same (subst (λ x. EndsAt os tag x) kept way))
      | inr nay ↦ (ends other found (let at = updated other in let now = rw nay at at in sym now ∙ is))
    ]
