-- What the refs of an export leave: those of the repository.
use Rattle.std.proofs.Common.{◌≡◌, ◌⊎◌, ℕ, ◌+◌, ◌≤◌, Bool, true, false, cond, length, List, [], ◌∷◌, Option, None, Some, refl, sym, ap, ◌∙◌, subst, inl, inr, arith}
use Rattle.std.specs.FinMap.{len-entries}
use Rattle.std.specs.List.{flat_map, list_any}
use Rattle.std.specs.Str.{bytes_eq}
use Rattle.std.proofs.lemmas.Bool.{cases_Bool, false≢true, le-leb, leb-true}
use Rattle.git_model.specs.GoodRepository.{AreObjects, AreRefs, refs_limit}
use Rattle.git_model.specs.RefStore.{RefStore, listed_refs, target_of}
use Rattle.git_model.specs.Repository.{Object, Repository}
use Rattle.file_maps.proofs.Puts.{length-filter-le}
use Rattle.stream_parts.specs.declared.branches.Tip.{Tip}
use Rattle.stream_parts.specs.declared.branches.Tip.TheVariants.{Unborn, Deleted, At}
use Rattle.stream_parts.specs.Branches.{tip_of, Branches}
use Rattle.stream_parts.specs.Checkpoints.{by_head, by_tags, fit}
use Rattle.stream_commands.specs.Checkpoints.{by_branches, checkpoint, checkpointed, kept_lines, saved_refs}
use Rattle.stream_parts.specs.Tags.{PendingTags}
use Rattle.open_commits.specs.OpenCommit.{OpenCommit}
use Rattle.stream_parts.specs.StreamOf.{StreamOf}
use Rattle.stream_commands.specs.Workspace.{Workspace, quiet}
use Rattle.export_text.specs.ExportActs.{removal_acts}
use Rattle.export_text.specs.ExportItems.{scratch}
use Rattle.export_text.specs.Reached.{extra_tag_refs, is_exportable, is_missing, tag_refs}
use Rattle.export_laws.specs.Leaving.{Leaves}
use Rattle.export_laws.specs.Ends.{AreRefsLeft, acts_of_refs}
use Rattle.export_laws.specs.Saved.{IsSaved}
use Rattle.export_laws.specs.Told.{AreTold, Told}
use Rattle.export_laws.proofs.Acts.{both}
use Rattle.export_laws.proofs.RefsAgree.{Agree, IsRight, IsSet}
use Rattle.export_laws.proofs.RefsBranches.{one-distinct}
use Rattle.export_laws.proofs.RefsHeld.{any-filtered, any-of, held-listed, one-store}
use Rattle.export_laws.proofs.RefsKnown.{each-ref, extras}
use Rattle.export_laws.proofs.RefsRemoved.{Removed, removed}
use Rattle.export_laws.proofs.RefsReset.{state}
use Rattle.export_laws.proofs.RefsSaved.{after_tip, branches-head, branches-saved, nothing-printed, tags-agree, tags-head, tags-set, waits_for}
use Rattle.export_laws.proofs.RefsSet.{AreSet, are-set}

-- ---- at first

-- the scratch branch alone agrees with each store
agree-first : (goal : RefStore) → Agree goal ((scratch, Unborn) ∷ []) []
agree-first goal = record {
  distinct = one-distinct (scratch, Unborn);
  right = λ q tip is. unborn q tip (bytes_eq q scratch) is;
  holds = tt;
}
  where
    unborn : (q : List ℕ) (tip : Tip) (b : Bool) → cond b (Some Unborn) None ≡ Some tip
        → IsRight goal q tip
    unborn q tip true is = (let same : Unborn ≡ tip = cc in subst (IsRight goal q) same tt)
    unborn q tip false is = cc

-- ---- at the end

-- a ref that the goal has not is missing
is-missing : (store : RefStore) (q : List ℕ) → target_of store q ≡ None → is_missing store q ≡ true
is-missing store q none = rw none refl

module _ (digest : List ℕ → List ℕ) (repository : Repository) (good : AreObjects digest repository.objects)
    (refs : AreRefs repository.objects repository.refs) (exportable : is_exportable repository ≡ true)
    (told : Told) (all : AreTold repository repository.objects told) (saved : Workspace)
    (is : IsSaved repository told saved) where
  abbrev goal : RefStore
  goal = repository.refs

  -- what the stream has of its own
  saved-marks : saved.stream.marks ≡ told.marks
  saved-marks = ap (λ (s : StreamOf OpenCommit). s.marks) is.stream

  saved-branches : saved.stream.branches ≡ (scratch, Unborn) ∷ []
  saved-branches = ap (λ (s : StreamOf OpenCommit). s.branches) is.stream

  saved-tags : saved.stream.tags ≡ []
  saved-tags = ap (λ (s : StreamOf OpenCommit). s.tags) is.stream

  saved-head : saved.stream.head ≡ None
  saved-head = ap (λ (s : StreamOf OpenCommit). s.head) is.stream

  forced : saved.stream.forces ≡ true
  forced = ap (λ (s : StreamOf OpenCommit). s.forces) is.stream

  done-asked : saved.stream.needs_done ≡ false
  done-asked = ap (λ (s : StreamOf OpenCommit). s.needs_done) is.stream

  few : length (listed_refs goal) + length (tag_refs repository) ≤ 65535
  few = leb-true (length (listed_refs goal) + length (tag_refs repository)) 65535 exportable

  fewer : length (extra_tag_refs repository) ≤ length (tag_refs repository)
  fewer = length-filter-le (is_missing goal) (tag_refs repository)

  first : Removed digest saved goal [] (extra_tag_refs repository) saved.stream.branches saved.stream.command
  first =
      removed digest saved goal [] (extra_tag_refs repository) saved.stream.branches saved.stream.command (extras repository)
      (let one = ap (λ (l : Branches). length l) saved-branches in omega (arith, few, fewer, one))
      (subst (λ (b : Branches). Agree goal b []) (sym saved-branches) (agree-first goal))

  then-set : AreSet digest repository good refs told all saved is.objects saved-marks (listed_refs goal) first.left [] first.last
  then-set =
      are-set digest repository good refs told all saved is.objects saved-marks (listed_refs goal) first.left [] first.last
      (each-ref repository)
      (let one = ap (λ (l : Branches). length l) saved-branches in
      let more = first.few in omega (arith, few, fewer, one, more))
      (omega (arith, few)) first.agree

  last : Workspace
  last = state saved then-set.left then-set.waiting then-set.last

  from-saved : state saved saved.stream.branches [] saved.stream.command ≡ saved
  from-saved =
      ap (λ (t : PendingTags). state saved saved.stream.branches t saved.stream.command) (sym saved-tags)

  leaves : Leaves digest (acts_of_refs repository) saved last
  unfolding last
  leaves =
      both digest
      (subst (λ (from : Workspace). Leaves digest (flat_map removal_acts (extra_tag_refs repository)) from (state saved first.left [] first.last))
      from-saved first.leaves)
      then-set.leaves

  -- ---- the refs that a checkpoint leaves

  abbrev branched : RefStore
  branched = by_branches last saved.refs then-set.left

  -- a ref that no branch sets is not there, unless it is there already
  no-branch : (q : List ℕ) → waits_for then-set.waiting q ≡ false
      → (tip_of then-set.left q ≡ None) ⊎ (tip_of then-set.left q ≡ Some Unborn)
      → target_of saved.refs q ≡ target_of goal q
  no-branch q other none = by (target_of goal q) refl
    where
      is-set : (id : List ℕ) → target_of goal q ≡ Some id → IsSet then-set.left then-set.waiting q
      is-set id holds = then-set.each q (held-listed goal q id holds)

      absent : (found : Option (List ℕ)) → target_of goal q ≡ None → target_of saved.refs q ≡ found
          → found ≡ None
      absent None nothing holds = refl
      absent (Some id) nothing holds =
          let among : list_any (bytes_eq q) (extra_tag_refs repository) ≡ true =
          any-filtered (is_missing goal) q (is-missing goal q nothing) (tag_refs repository)
          (any-of q (tag_refs repository) (is.of_tags q id holds)) in
          let deleted = then-set.gone q nothing (first.each q among) in
          elim none [
            | inl empty ↦ cc
            | inr unborn ↦ cc
          ]

      by : (found : Option (List ℕ)) → target_of goal q ≡ found → target_of saved.refs q ≡ target_of goal q
      by None nothing = absent (target_of saved.refs q) nothing refl ∙ sym nothing
      by (Some id) holds = elim (is-set id holds) [
        | inl (at, stands) ↦
            elim none [
              | inl empty ↦ cc
              | inr unborn ↦ cc
            ]
        | inr waits ↦ absurd (false≢true (sym other ∙ waits))
      ]

  by-tip : (q : List ℕ) → waits_for then-set.waiting q ≡ false → (found : Option Tip)
      → tip_of then-set.left q ≡ found → after_tip found (target_of saved.refs q) ≡ target_of goal q
  by-tip q other None tip = no-branch q other (inl tip)
  by-tip q other (Some Unborn) tip = no-branch q other (inr tip)
  by-tip q other (Some Deleted) tip = sym (then-set.agree.right q Deleted tip)
  by-tip q other (Some (At id)) tip = sym (then-set.agree.right q (At id) tip)

  same-targets : (q : List ℕ) → target_of (by_tags branched then-set.waiting) q ≡ target_of goal q
  unfolding last
  same-targets q = elim (cases_Bool (waits_for then-set.waiting q)) [
    | inl waits ↦ tags-set goal q then-set.waiting branched then-set.agree.holds waits
    | inr other ↦
        tags-agree goal q then-set.waiting branched then-set.agree.holds
        (branches-saved last forced then-set.left saved.refs q then-set.agree.distinct
        ∙ by-tip q other (tip_of then-set.left q) refl)
  ]

  same-refs : saved_refs last ≡ goal
  unfolding last
  same-refs =
      ap (by_head (by_tags branched then-set.waiting)) saved-head
      ∙ one-store (by_tags branched then-set.waiting) goal same-targets
      (tags-head then-set.waiting branched ∙ branches-head last forced then-set.left saved.refs ∙ is.head)

  fits : fit (saved_refs last) ≡ true
  fits =
      ap fit same-refs
      ∙ le-leb (length (listed_refs goal)) refs_limit
      (let len = len-entries goal.refs in let within = refs.few in omega (arith, len, within))

  prints : kept_lines last last.stream.branches ≡ []
  unfolding last
  prints = nothing-printed last forced last.stream.branches

  ends : checkpoint last ≡ quiet (checkpointed last)
  ends = rw (fits, prints) refl

  pub refs-left : AreRefsLeft digest repository told saved
  unfolding last
  refs-left = record {
    last = last;
    leaves = leaves;
    needs_done = done-asked;
    done = checkpointed last;
    ends = ends;
    refs = same-refs;
    objects = is.objects;
    committed = ap (λ (l : List Object). length l) is.objects;
  }
