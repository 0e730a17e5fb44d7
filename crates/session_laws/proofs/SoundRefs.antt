-- Refs stay good while objects are added, and what a checkpoint saves is good.
use Rattle.std.proofs.Common.{◌≡◌, ◌≢◌, ℕ, length, Bool, true, false, cond, List, [], ◌∷◌, take, drop, Option, Some, None, sym, ap, ◌∙◌, subst, inl, inr, All, arith}
use Rattle.std.specs.Prelude.{IfSome}
use Rattle.std.specs.FinMap.{len-entries}
use Rattle.std.specs.Str.{bytes_eq}
use Rattle.std.proofs.Math.Seq.{take-length}
use Rattle.std.proofs.lemmas.Bool.{cases_Bool, leb-true}
use Rattle.std.proofs.lemmas.List.{take-append-drop}
use Rattle.std.proofs.lemmas.List.Elements.{All-head, All-tail}
use Rattle.std.proofs.lemmas.Slice.Eq.{bytes_eq-Decides}
use Rattle.git_model.specs.GoodRepository.{AreRefs, IsShortRefName, MayHold, refs_limit}
use Rattle.git_model.specs.RefStore.{RefStore, ChangesRef, listed_refs, target_of, with_ref, without_ref}
use Rattle.git_model.specs.Repository.{Object}
use Rattle.git_model.proofs.GoodRefs.{refs_longer}
use Rattle.tenant_refs.proofs.Stores.{ChangesRef-with_ref, ChangesRef-without_ref}
use Rattle.stream_parts.specs.declared.branches.Tip.{Tip}
use Rattle.stream_parts.specs.declared.branches.Tip.TheVariants.{Unborn, Deleted, At}
use Rattle.stream_parts.specs.Branches.{Branches}
use Rattle.stream_parts.specs.Tags.{PendingTags}
use Rattle.stream_commands.specs.Workspace.{Workspace}
use Rattle.stream_parts.specs.Checkpoints.{by_head, by_tags, fit}
use Rattle.stream_commands.specs.Checkpoints.{by_branches, moves, saved_by, saved_refs}
use Rattle.import_session.specs.Sound.{IsStreamBranch, IsPending, IsSound, IsTip}

-- ---- more objects

-- all objects are committed
pub refs_whole : (os : List Object) (store : RefStore) → AreRefs os store
    → AreRefs (take (length os) os) store
refs_whole os store good =
    subst (λ (prefix : List Object). AreRefs prefix store) (sym (take-length os)) good

-- ---- one change

-- a ref that may be saved
record IsGoodRef (os : List Object) (ref id : List ℕ) : Type 0 where
  name : IsShortRefName ref
  target : MayHold os ref id

-- refs that are good, however many they are
record AreGood (os : List Object) (store : RefStore) : Type 0 where
  each : (ref id : List ℕ) → target_of store ref ≡ Some id → IsGoodRef os ref id
  head : IsShortRefName store.head

some_has : {A : Type 0} (P : A → Type 0) (o : Option A) (a : A) → IfSome o P → o ≡ Some a → P a
some_has P None a has e = cc
some_has P (Some b) a has e = let same : b ≡ a = cc in subst P same has

ref_changed : (os : List Object) (old new : RefStore) (ref : List ℕ) (target : Option (List ℕ))
    → AreGood os old → ChangesRef old new ref target → IfSome target (IsGoodRef os ref)
    → AreGood os new
ref_changed os old new ref target good change may = record {
  each = λ r id e. elim (cases_Bool (bytes_eq r ref)) [
    | inl yea ↦
        let is : r ≡ ref = (bytes_eq-Decides r ref).0 yea in
        subst (λ (x : List ℕ). IsGoodRef os x id) (sym is)
        (some_has (IsGoodRef os ref) target id may
        (sym change.this_ref ∙ ap (target_of new) (sym is) ∙ e))
    | inr nay ↦
        let other : r ≢ ref = (λ is. let t = (bytes_eq-Decides r ref).1 is in cc) in
        good.each r id (sym (change.other_refs r other) ∙ e)
  ];
  head = subst IsShortRefName (sym change.head) good.head;
}

set_good : (os : List Object) (store : RefStore) (ref id : List ℕ) → AreGood os store
    → IsGoodRef os ref id → AreGood os (with_ref store ref id)
set_good os store ref id good is =
    ref_changed os store (with_ref store ref id) ref (Some id) good (ChangesRef-with_ref store ref id)
    is

set_or_kept : (os : List Object) (moves : Bool) (store : RefStore) (ref id : List ℕ)
    → AreGood os store → IsGoodRef os ref id
    → AreGood os (cond moves (with_ref store ref id) store)
set_or_kept os true store ref id good is = set_good os store ref id good is
set_or_kept os false store ref id good is = good

-- ---- a checkpoint

saved_good : (workspace : Workspace) (store : RefStore) (ref : List ℕ) (tip : Tip)
    → AreGood workspace.objects store → IsShortRefName ref → IsTip workspace.objects tip
    → AreGood workspace.objects (saved_by workspace store ref tip)
saved_good workspace store ref Unborn good name stands = good
saved_good workspace store ref Deleted good name stands =
    ref_changed workspace.objects store (without_ref store ref) ref None good
    (ChangesRef-without_ref store ref) tt
saved_good workspace store ref (At id) good name stands =
    set_or_kept workspace.objects (moves workspace ref id) store ref id good
    (record { name = name; target = inl stands })

branches_good : (workspace : Workspace) (branches : Branches) (store : RefStore)
    → AreGood workspace.objects store → All (IsStreamBranch workspace.objects) branches
    → AreGood workspace.objects (by_branches workspace store branches)
branches_good workspace [] store good each = good
branches_good workspace (branch ∷ branches) store good each =
    let first = All-head (IsStreamBranch workspace.objects) branch branches each in
    branches_good workspace branches (saved_by workspace store branch.0 branch.1)
    (saved_good workspace store branch.0 branch.1 good first.name first.tip)
    (All-tail (IsStreamBranch workspace.objects) branch branches each)

tags_good : (os : List Object) (tags : PendingTags) (store : RefStore) → AreGood os store
    → All (IsPending os) tags → AreGood os (by_tags store tags)
tags_good os [] store good each = good
tags_good os (tag ∷ tags) store good each =
    let first = All-head (IsPending os) tag tags each in
    tags_good os tags (with_ref store tag.0 tag.1)
    (set_good os store tag.0 tag.1 good (record { name = first.name; target = inr first.named }))
    (All-tail (IsPending os) tag tags each)

head_good : (os : List Object) (store : RefStore) (head : Option (List ℕ)) → AreGood os store
    → IfSome head IsShortRefName → AreGood os (by_head store head)
head_good os store None good next = good
head_good os store (Some ref) good next = record { each = good.each; head = next }

-- the refs as last saved are good among all objects
refs_good : (n : ℕ) (os : List Object) (store : RefStore) → AreRefs (take n os) store
    → AreGood os store
refs_good n os store good =
    let whole = subst (λ (objects : List Object). AreRefs objects store) (take-append-drop n os)
    (refs_longer (take n os) (drop n os) store good) in
    record {
      each = λ ref id e. record { name = whole.names ref id e; target = whole.targets ref id e };
      head = whole.head;
    }

few_enough : (os : List Object) (store : RefStore) → AreGood os store → fit store ≡ true
    → AreRefs os store
few_enough os store good few = record {
  names = λ ref id e. (good.each ref id e).name;
  targets = λ ref id e. (good.each ref id e).target;
  head = good.head;
  few =
      let count = len-entries store.refs in
      let within = leb-true (length (listed_refs store)) refs_limit few in omega arith;
}

-- what a checkpoint saves
pub saved_are : (digest : List ℕ → List ℕ) (workspace : Workspace) → IsSound digest workspace
    → fit (saved_refs workspace) ≡ true → AreRefs workspace.objects (saved_refs workspace)
saved_are digest workspace sound few =
    let os = workspace.objects in
    let branched = by_branches workspace workspace.refs workspace.stream.branches in
    few_enough os (saved_refs workspace)
    (head_good os (by_tags branched workspace.stream.tags) workspace.stream.head
    (tags_good os workspace.stream.tags branched
    (branches_good workspace workspace.stream.branches workspace.refs
    (refs_good workspace.committed os workspace.refs sound.refs) sound.branches) sound.tags)
    sound.next_head) few
