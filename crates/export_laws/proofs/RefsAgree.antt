-- Branches and tags that agree with the refs of a store: what a checkpoint of them leaves.
use Rattle.std.proofs.Common.{◌≡◌, ◌⊎◌, ℕ, Bool, true, false, cond, List, [], ◌∷◌, ◌++◌, Option, None, Some, sym, ap, ◌∙◌, subst, inl, inr}
use Rattle.std.specs.List.{IsDistinct, list_any}
use Rattle.std.specs.Map.{keys_of}
use Rattle.std.specs.Str.{bytes_eq}
use Rattle.std.proofs.lemmas.Bool.{cases_Bool, false≢true, or_cases, or_left, or_right}
use Rattle.git_model.specs.RefStore.{RefStore, target_of}
use Rattle.stream_parts.specs.declared.branches.Tip.{Tip}
use Rattle.stream_parts.specs.declared.branches.Tip.TheVariants.{Unborn, Deleted, At}
use Rattle.stream_parts.specs.Branches.{tip_of, with_branch, Branches}
use Rattle.stream_parts.specs.Tags.{PendingTags}
use Rattle.file_maps.proofs.Listing.{all-append}
use Rattle.export_laws.proofs.RefsBranches.{placed-distinct}
use Rattle.export_laws.proofs.RefsHeld.{bytes-are, same-bytes}
use Rattle.export_laws.proofs.RefsReset.{placed, placed-tip}
use Rattle.export_laws.proofs.RefsSaved.{HoldsTags, waits_for}

-- A branch is right for its ref where it stands at what the ref is to hold, or is marked as deleted
-- where there is to be none.
abbrev pub IsRight : RefStore → List ℕ → Tip → Type 0
IsRight goal ref Unborn = Unit {0}
IsRight goal ref Deleted = target_of goal ref ≡ None
IsRight goal ref (At id) = target_of goal ref ≡ Some id

pub record Agree (goal : RefStore) (branches : Branches) (tags : PendingTags) : Type 0 where
  pub distinct : IsDistinct bytes_eq (keys_of branches)
  pub right : (q : List ℕ) (tip : Tip) → tip_of branches q ≡ Some tip → IsRight goal q tip
  pub holds : HoldsTags goal tags

-- A ref is set where its branch stands at an object, or a tag waits for it.
abbrev pub StandsAt : Option Tip → Type 0
StandsAt found = (id : List ℕ) × (found ≡ Some (At id))

abbrev pub IsSet : Branches → PendingTags → List ℕ → Type 0
IsSet branches tags q = StandsAt (tip_of branches q) ⊎ (waits_for tags q ≡ true)

-- ---- a branch is placed

module _ (goal : RefStore) (branches : Branches) (tags : PendingTags) (ref : List ℕ) (tip : Tip) where
  pub agree-placed : IsRight goal ref tip → Agree goal branches tags
      → Agree goal (placed branches ref tip) tags
  agree-placed fits agree = record {
    distinct =
        placed-distinct (with_branch branches ref Unborn) ref tip
        (placed-distinct branches ref Unborn agree.distinct);
    right = λ q other is. elim (cases_Bool (bytes_eq q ref)) [
      | inl here ↦
          let found : Some tip ≡ Some other =
          sym (ap (λ (b : Bool). cond b (Some tip) (tip_of branches q)) here)
          ∙ sym (placed-tip branches ref tip q) ∙ is in
          let same : tip ≡ other = cc in
          subst (IsRight goal q) same
          (subst (λ (x : List ℕ). IsRight goal x tip) (sym (bytes-are q ref here)) fits)
      | inr away ↦
          agree.right q other
          (sym (ap (λ (b : Bool). cond b (Some tip) (tip_of branches q)) away)
          ∙ sym (placed-tip branches ref tip q) ∙ is)
    ];
    holds = agree.holds;
  }

  pub placed-here : tip_of (placed branches ref tip) ref ≡ Some tip
  placed-here =
      placed-tip branches ref tip ref
      ∙ ap (λ (b : Bool). cond b (Some tip) (tip_of branches ref)) (same-bytes ref)

  pub placed-other : (q : List ℕ) → bytes_eq q ref ≡ false
      → tip_of (placed branches ref tip) q ≡ tip_of branches q
  placed-other q other =
      placed-tip branches ref tip q
      ∙ ap (λ (b : Bool). cond b (Some tip) (tip_of branches q)) other

-- one that is deleted stays so, unless it is to hold something
pub deleted-kept : (goal : RefStore) (branches : Branches) (ref : List ℕ) (tip : Tip) (q : List ℕ)
    → IsRight goal ref tip → (tip ≡ Deleted) ⊎ ((id : List ℕ) × (tip ≡ At id))
    → target_of goal q ≡ None → tip_of branches q ≡ Some Deleted
    → tip_of (placed branches ref tip) q ≡ Some Deleted
deleted-kept goal branches ref tip q fits which none is = elim (cases_Bool (bytes_eq q ref)) [
  | inl here ↦
      let same = bytes-are q ref here in
      ap (tip_of (placed branches ref tip)) same
      ∙ placed-here goal branches [] ref tip
      ∙ (elim which [
        | inl deleted ↦ ap Some deleted
        | inr (id, at) ↦
            let holds : target_of goal ref ≡ Some id = subst (IsRight goal ref) at fits in
            let nothing : target_of goal ref ≡ None = ap (target_of goal) (sym same) ∙ none in cc
      ])
  | inr away ↦ placed-other goal branches [] ref tip q away ∙ is
]

-- one that is set stays so
pub set-kept : (goal : RefStore) (branches : Branches) (tags : PendingTags) (ref id q : List ℕ)
    → IsSet branches tags q → IsSet (placed branches ref (At id)) tags q
set-kept goal branches tags ref id q (inr waits) = inr waits
set-kept goal branches tags ref id q (inl stands) = elim (cases_Bool (bytes_eq q ref)) [
  | inl here ↦
      inl (
        id,
        ap (tip_of (placed branches ref (At id))) (bytes-are q ref here)
            ∙ placed-here goal branches tags ref (At id),
      )
  | inr away ↦
      inl (stands.0, placed-other goal branches tags ref (At id) q away ∙ stands.1)
]

-- ---- a tag comes to those that wait

any-before : {A : Type 0} (p : A → Bool) (xs ys : List A) → list_any p xs ≡ true
    → list_any p (xs ++ ys) ≡ true
any-before p [] ys h = absurd (false≢true h)
any-before p (x ∷ xs) ys h = elim (or_cases (p x) (list_any p xs) h) [
  | inl here ↦ or_left (p x) (list_any p (xs ++ ys)) here
  | inr later ↦ or_right (p x) (list_any p (xs ++ ys)) (any-before p xs ys later)
]

any-last : {A : Type 0} (p : A → Bool) (xs : List A) (y : A) → p y ≡ true
    → list_any p (xs ++ y ∷ []) ≡ true
any-last p [] y h = or_left (p y) false h
any-last p (x ∷ xs) y h = or_right (p x) (list_any p (xs ++ y ∷ [])) (any-last p xs y h)

pub agree-tagged : (goal : RefStore) (branches : Branches) (tags : PendingTags) (ref id : List ℕ)
    → target_of goal ref ≡ Some id → Agree goal branches tags
    → Agree goal branches (tags ++ (ref, id) ∷ [])
agree-tagged goal branches tags ref id is agree = record {
  distinct = agree.distinct;
  right = agree.right;
  holds =
      all-append (λ (t : List ℕ × List ℕ). target_of goal t.0 ≡ Some t.1) tags ((ref, id) ∷ [])
      agree.holds (is, tt);
}

pub tagged-here : (branches : Branches) (tags : PendingTags) (ref id : List ℕ)
    → IsSet branches (tags ++ (ref, id) ∷ []) ref
tagged-here branches tags ref id =
    inr (any-last (λ (t : List ℕ × List ℕ). bytes_eq ref t.0) tags (ref, id) (same-bytes ref))

pub tagged-kept : (branches : Branches) (tags : PendingTags) (ref id q : List ℕ)
    → IsSet branches tags q → IsSet branches (tags ++ (ref, id) ∷ []) q
tagged-kept branches tags ref id q (inl stands) = inl stands
tagged-kept branches tags ref id q (inr waits) =
    inr (any-before (λ (t : List ℕ × List ℕ). bytes_eq q t.0) tags ((ref, id) ∷ []) waits)
