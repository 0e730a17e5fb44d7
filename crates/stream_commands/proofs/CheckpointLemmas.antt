-- What checkpoints leave of refs, and what they print.
use Rattle.std.proofs.Common.{◌≡◌, ℕ, ◌+◌, ◌≤◌, ◌++◌, ◌∷◌, Bool, true, cond, List, [], length, take, Option, None, Some, Ok, Err, refl, sym, ap, subst, ◌∙◌}
use Rattle.std.proofs.lemmas.Bool.{le-leb}
use Rattle.std.proofs.lemmas.List.{take_more, flat_map_more}
use Rattle.std.proofs.lemmas.List.Sums.{fold_more}
use Rattle.std.proofs.lemmas.Option.{slice_get_within, get_or_from_slice_get}
use Rattle.std.specs.List.{slice_get}
use Rattle.git_model.specs.RefStore.{RefStore, listed_refs}
use Rattle.git_model.specs.GoodRepository.{refs_limit}
use Rattle.content_pool.specs.Pool.{Cells}
use Rattle.tenant_tables.specs.View.{View}
use Rattle.tenant_tables.proofs.TableLemmas.{length-objects}
use Rattle.stream_parts.specs.declared.fault.Fault.TheVariants as fault
use Rattle.stream_parts.specs.declared.branches.Tip.{Tip}
use Rattle.stream_parts.specs.Branches.{Branches}
use Rattle.stream_parts.specs.Tags.{PendingTags}
use Rattle.stream_commands.specs.Workspace.{Workspace}
use Rattle.stream_parts.specs.Checkpoints.{by_head, by_tags}
use Rattle.stream_commands.specs.Checkpoints.{saved_by, by_branches, kept_by, kept_lines, saved_refs, checkpointed, checkpoint}
use Rattle.stream_commands.specs.State.{StreamState, workspace_in, CarriesOut}

-- the branch at a place is saved after those before it
pub saved_next : (w : Workspace) (store : RefStore) (branches : Branches) (place : ℕ) (ref : List ℕ)
    (tip : Tip)
    → slice_get branches place ≡ Some (ref, tip)
    → saved_by w (by_branches w store (take place branches)) ref tip
    ≡ by_branches w store (take (place + 1) branches)
saved_next w store branches place ref tip at =
    sym (fold_more (λ saved branch. saved_by w saved branch.0 branch.1) store branches place (ref, tip)
    (slice_get_within branches place (ref, tip) at)
    ∙ ap (λ (branch : List ℕ × Tip).
    saved_by w (by_branches w store (take place branches)) branch.0 branch.1)
    (get_or_from_slice_get branches place (ref, tip) (ref, tip) at))

-- and so is its line printed
pub kept_next : (w : Workspace) (out : List ℕ) (branches : Branches) (place : ℕ) (ref : List ℕ)
    (tip : Tip)
    → slice_get branches place ≡ Some (ref, tip)
    → (out ++ kept_lines w (take place branches)) ++ kept_by w ref tip
    ≡ out ++ kept_lines w (take (place + 1) branches)
kept_next w out branches place ref tip at =
    flat_map_more (λ branch. kept_by w branch.0 branch.1) out (take place branches) (ref, tip)
    ∙ ap (λ (first : Branches). out ++ kept_lines w first)
    (ap (λ (branch : List ℕ × Tip). take place branches ++ branch ∷ [])
    (sym (get_or_from_slice_get branches place (ref, tip) (ref, tip) at))
    ∙ sym (take_more branches place (ref, tip) (slice_get_within branches place (ref, tip) at)))

-- HEAD is no ref
pub headed_refs : (store : RefStore) (head : Option (List ℕ))
    → listed_refs (by_head store head) ≡ listed_refs store
headed_refs store None = refl
headed_refs store (Some ref) = refl

-- a checkpoint is carried out where the refs then are few enough
few_saved : (b : Bool) (w left : Workspace) (out out' : List ℕ) → b ≡ true → checkpointed w ≡ left
    → out' ≡ out ++ kept_lines w w.stream.branches
    → CarriesOut (cond b
    (Ok (record { workspace = checkpointed w; reply = kept_lines w w.stream.branches }))
    (Err fault.Limit)) left out out' (Ok tt)
few_saved b w left out out' few same printed = rw few (same, printed)

pub well_saved : (state : StreamState) (head : Option (List ℕ)) (tags : PendingTags) (pool : Cells)
    (table new : View) (refs saved left : RefStore) (out out' : List ℕ)
    → let w = workspace_in state pool table refs in
    saved ≡ by_tags (by_branches w refs state.stream.branches) state.stream.tags
    → length (listed_refs saved) ≤ refs_limit
    → left ≡ by_head saved state.stream.head → head ≡ None → tags ≡ []
    → new ≡ record table { committed = length table.entries }
    → out' ≡ out ++ kept_lines w state.stream.branches
    → CarriesOut (checkpoint w)
    (workspace_in (record state { stream = record state.stream { head = head; tags = tags } })
    pool new left) out out' (Ok tt)
well_saved state head tags pool table new refs saved left out out' is few headed none empty committed
    printed =
    let w = workspace_in state pool table refs in
    let same : left ≡ saved_refs w = headed ∙ ap (λ (s : RefStore). by_head s state.stream.head) is in
    few_saved _ w (workspace_in (record state { stream = record state.stream { head = head; tags = tags } })
    pool new left) out out'
    (le-leb _ _ (subst (λ (s : RefStore). length (listed_refs s) ≤ refs_limit) same
    (subst (λ (s : RefStore). length (listed_refs s) ≤ refs_limit) (sym headed)
    (subst (λ (l : List (List ℕ × List ℕ)). length l ≤ refs_limit)
    (sym (headed_refs saved state.stream.head)) few))))
    (rw (same, none, empty, committed, length-objects pool table.entries) refl)
    printed
