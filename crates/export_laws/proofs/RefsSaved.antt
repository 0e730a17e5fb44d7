-- What a checkpoint leaves of refs, where they are updated by force: each ref that a tag waits for,
-- or that a branch sets or deletes, and the others as they were.
use Rattle.std.proofs.Common.{◌≡◌, ℕ, Bool, true, false, cond, List, [], ◌∷◌, ◌++◌, Option, None, Some, refl, sym, ap, ◌∙◌, inl, inr}
use Rattle.std.specs.List.{AllByRecursion, IsDistinct, list_any}
use Rattle.std.specs.Map.{keys_of}
use Rattle.std.specs.Str.{bytes_eq}
use Rattle.std.proofs.lemmas.Bool.{cases_Bool, false≢true}
use Rattle.git_model.specs.RefStore.{RefStore, target_of, with_ref}
use Rattle.stream_parts.specs.declared.branches.Tip.{Tip}
use Rattle.stream_parts.specs.declared.branches.Tip.TheVariants.{Unborn, Deleted, At}
use Rattle.stream_parts.specs.Branches.{tip_of, Branches}
use Rattle.stream_parts.specs.Checkpoints.{by_tags}
use Rattle.stream_commands.specs.Checkpoints.{by_branches, kept_by, kept_lines, may_set, moves, saved_by}
use Rattle.stream_parts.specs.Tags.{PendingTags}
use Rattle.stream_commands.specs.Workspace.{Workspace}
use Rattle.export_laws.proofs.RefsBranches.{first-distinct, none-later}
use Rattle.export_laws.proofs.RefsHeld.{bytes-are, target-removed, target-set}

-- what a branch leaves of its ref
abbrev pub after_tip : Option Tip → Option (List ℕ) → Option (List ℕ)
after_tip None old = old
after_tip (Some Unborn) old = old
after_tip (Some Deleted) old = None
after_tip (Some (At id)) old = Some id

alike : {A : Type 0} (b : Bool) (x : A) → x ≡ cond b x x
alike true x = refl
alike false x = refl

module _ (w : Workspace) (forced : w.stream.forces ≡ true) where
  always : (tip : List ℕ) (old : Option (List ℕ)) → may_set w tip old ≡ true
  always tip None = refl
  always tip (Some old) = rw forced refl

  moved : (ref tip : List ℕ) → moves w ref tip ≡ true
  moved ref tip = always tip (target_of w.refs ref)

  -- ---- branches

  tip-saved : (store : RefStore) (ref : List ℕ) (tip : Tip) (q : List ℕ)
      → target_of (saved_by w store ref tip) q
      ≡ cond (bytes_eq q ref) (after_tip (Some tip) (target_of store q)) (target_of store q)
  tip-saved store ref Unborn q = alike (bytes_eq q ref) (target_of store q)
  tip-saved store ref Deleted q = target-removed store ref q
  tip-saved store ref (At id) q = rw (moved ref id) (target-set store ref id q)

  pub branches-saved : (branches : Branches) (store : RefStore) (q : List ℕ)
      → IsDistinct bytes_eq (keys_of branches)
      → target_of (by_branches w store branches) q
      ≡ after_tip (tip_of branches q) (target_of store q)
  branches-saved [] store q h = refl
  branches-saved (b ∷ branches) store q h =
      let parts = first-distinct b branches h in
      let old = target_of store q in
      let new = target_of (saved_by w store b.0 b.1) q in
      let by_first = tip-saved store b.0 b.1 q in
      branches-saved branches (saved_by w store b.0 b.1) q parts.1
      ∙ elim (cases_Bool (bytes_eq q b.0)) [
        | inl here ↦
            let none : tip_of branches q ≡ None =
            ap (tip_of branches) (bytes-are q b.0 here) ∙ none-later b.0 branches parts.0 in
            ap (λ (t : Option Tip). after_tip t new) none
            ∙ by_first
            ∙ ap (λ (t : Bool). cond t (after_tip (Some b.1) old) old) here
            ∙ sym (ap (λ (t : Bool). after_tip (cond t (Some b.1) (tip_of branches q)) old) here)
        | inr other ↦
            ap (after_tip (tip_of branches q))
            (by_first ∙ ap (λ (t : Bool). cond t (after_tip (Some b.1) old) old) other)
            ∙ sym (ap (λ (t : Bool). after_tip (cond t (Some b.1) (tip_of branches q)) old) other)
      ]

  kept-head : (b : Bool) (one two : RefStore) → one.head ≡ two.head → (cond b one two).head ≡ two.head
  kept-head true one two h = h
  kept-head false one two h = refl

  tip-head : (store : RefStore) (ref : List ℕ) (tip : Tip) → (saved_by w store ref tip).head ≡ store.head
  tip-head store ref Unborn = refl
  tip-head store ref Deleted = refl
  tip-head store ref (At id) = kept-head (moves w ref id) (with_ref store ref id) store refl

  pub branches-head : (branches : Branches) (store : RefStore)
      → (by_branches w store branches).head ≡ store.head
  branches-head [] store = refl
  branches-head (b ∷ branches) store =
      branches-head branches (saved_by w store b.0 b.1) ∙ tip-head store b.0 b.1

  tip-printed : (ref : List ℕ) (tip : Tip) → kept_by w ref tip ≡ []
  tip-printed ref Unborn = refl
  tip-printed ref Deleted = refl
  tip-printed ref (At id) = rw (moved ref id) refl

  -- none is kept, so nothing is printed
  pub nothing-printed : (branches : Branches) → kept_lines w branches ≡ []
  nothing-printed [] = refl
  nothing-printed (b ∷ branches) =
      ap (λ (l : List ℕ). l ++ kept_lines w branches) (tip-printed b.0 b.1)
      ∙ nothing-printed branches

-- ---- tags

abbrev pub HoldsTags : RefStore → PendingTags → Type 0
HoldsTags goal tags =
    AllByRecursion (λ (t : List ℕ × List ℕ). target_of goal t.0 ≡ Some t.1) tags

abbrev pub waits_for : PendingTags → List ℕ → Bool
waits_for tags q = list_any (λ (t : List ℕ × List ℕ). bytes_eq q t.0) tags

module _ (goal : RefStore) (q : List ℕ) where
  here-set : (store : RefStore) (t : List ℕ × List ℕ) → target_of goal t.0 ≡ Some t.1
      → bytes_eq q t.0 ≡ true → target_of (with_ref store t.0 t.1) q ≡ target_of goal q
  here-set store t is here =
      target-set store t.0 t.1 q
      ∙ ap (λ (b : Bool). cond b (Some t.1) (target_of store q)) here
      ∙ sym (ap (target_of goal) (bytes-are q t.0 here) ∙ is)

  other-set : (store : RefStore) (t : List ℕ × List ℕ) → bytes_eq q t.0 ≡ false
      → target_of (with_ref store t.0 t.1) q ≡ target_of store q
  other-set store t other =
      target-set store t.0 t.1 q
      ∙ ap (λ (b : Bool). cond b (Some t.1) (target_of store q)) other

  -- tags that hold what a ref is to hold leave it so
  pub tags-agree : (tags : PendingTags) (store : RefStore) → HoldsTags goal tags
      → target_of store q ≡ target_of goal q → target_of (by_tags store tags) q ≡ target_of goal q
  tags-agree [] store h is = is
  tags-agree (t ∷ tags) store h is =
      tags-agree tags (with_ref store t.0 t.1) h.1 (elim (cases_Bool (bytes_eq q t.0)) [
        | inl here ↦ here-set store t h.0 here
        | inr other ↦ other-set store t other ∙ is
      ])

  -- and where one waits for it, whatever it held
  pub tags-set : (tags : PendingTags) (store : RefStore) → HoldsTags goal tags
      → waits_for tags q ≡ true → target_of (by_tags store tags) q ≡ target_of goal q
  tags-set [] store h any = absurd (false≢true any)
  tags-set (t ∷ tags) store h any = elim (cases_Bool (bytes_eq q t.0)) [
    | inl here ↦ tags-agree tags (with_ref store t.0 t.1) h.1 (here-set store t h.0 here)
    | inr other ↦
        let later : waits_for tags q ≡ true = rw other at any in
        tags-set tags (with_ref store t.0 t.1) h.1 later
  ]

pub tags-head : (tags : PendingTags) (store : RefStore) → (by_tags store tags).head ≡ store.head
tags-head [] store = refl
tags-head (t ∷ tags) store = tags-head tags (with_ref store t.0 t.1)
