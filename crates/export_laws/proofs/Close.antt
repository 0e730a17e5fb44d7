-- A reached commit that is told ends, and is told then.
use Rattle.std.proofs.Common.{◌≡◌, ℕ, true, List, [], ◌∷◌, ◌++◌, Option, Some, Result, Ok, refl, sym, ap, ◌∙◌, inr, arith}
use Rattle.git_model.specs.declared.kind.Kind.TheVariants as kind
use Rattle.git_model.specs.Commit.{Commit}
use Rattle.git_model.specs.CommitReading.{commit_read}
use Rattle.git_model.specs.Content.{content_from}
use Rattle.git_model.specs.GoodRepository.{AreObjects}
use Rattle.git_model.specs.Reach.{is_referred_to}
use Rattle.git_model.specs.Repository.{Object, Repository}
use Rattle.open_commits.specs.declared.fault.Fault.{Fault as CommitFault}
use Rattle.open_commits.specs.Ends.{Closed, closed}
use Rattle.open_commits.specs.OpenCommit.{OpenCommit}
use Rattle.stream_parts.specs.declared.branches.Tip.{Tip}
use Rattle.stream_parts.specs.declared.branches.Tip.TheVariants.{At}
use Rattle.stream_parts.specs.declared.fault.Fault.{Fault}
use Rattle.stream_parts.specs.Branches.{with_branch, Branches}
use Rattle.import_session.specs.Commits.{closed_at, closed_where}
use Rattle.git_model.specs.Results.{and_then}
use Rattle.stream_commands.specs.Faults.{changed_or}
use Rattle.stream_parts.specs.Marks.{room_for, with_mark}
use Rattle.stream_parts.specs.OpenCommand.{Changes}
use Rattle.stream_commands.specs.Workspace.{Workspace, with_command}
use Rattle.export_text.specs.ExportActs.{number_of}
use Rattle.export_text.specs.ExportItems.{scratch}
use Rattle.export_laws.specs.Commits.{commit_told, workspace_with}
use Rattle.export_laws.specs.Told.{AreTold, Told, reached_among, tags_of, workspace_of}
use Rattle.export_laws.proofs.CloseContents.{closed-itself, left, left-has, left-kept, left-of, left-order}
use Rattle.export_laws.proofs.Known.{IsKnown, known}
use Rattle.export_laws.proofs.MarksSet.{mark-room}
use Rattle.export_laws.proofs.Next.{reached-last, tags-of-other, told-next}
use Rattle.export_laws.proofs.OpenTold.{at_tip}

-- the branch that it is told on moves to it
moved : (tip : Tip) (id : List ℕ) → with_branch ((scratch, tip) ∷ []) scratch (At id) ≡ (scratch, At id) ∷ []
moved tip id = refl

-- an end that is not refused
ends : (digest : List ℕ → List ℕ) (w : Workspace) (commit : OpenCommit) (end : Closed)
    → room_for w.stream.marks commit.header.mark ≡ Ok tt → closed digest w.objects commit ≡ Ok end
    → closed_where digest true (with_command w (Changes commit))
    ≡ Ok (closed_at (with_command w (Changes commit)) commit.header end)
ends digest w commit end room is =
    ap (λ (r : Result Unit Fault).
    and_then r (λ _. and_then (changed_or (closed digest w.objects commit)) (λ end.
    Ok (closed_at (with_command w (Changes commit)) commit.header end)))) room
    ∙ ap (λ (r : Result Closed CommitFault).
    and_then (changed_or r) (λ end.
    Ok (closed_at (with_command w (Changes commit)) commit.header end))) is

-- What its end leaves.
abbrev pub next : (List ℕ → List ℕ) → Repository → List ℕ → List ℕ → Told → Told
next digest repository id bytes told = record {
  objects = left digest repository.objects id bytes told.objects;
  marks = with_mark told.marks (Some (number_of repository.objects id)) kind.Commit id;
  branches = (scratch, At id) ∷ [];
  tags = told.tags;
}

module _ (digest : List ℕ → List ℕ) (repository : Repository) (good : AreObjects digest repository.objects)
    (first rest : List Object) (id bytes : List ℕ)
    (is : repository.objects ≡ first ++ record { id = id; content = content_from kind.Commit bytes } ∷ rest)
    (reached : is_referred_to repository id ≡ true) (told : Told) (all : AreTold repository first told) where
  abbrev o : Object
  o = record { id = id; content = content_from kind.Commit bytes }

  abbrev mark : ℕ
  mark = number_of repository.objects id

  abbrev c : Commit
  c = commit_read bytes

  what : IsKnown digest repository.objects first o
  what = known digest repository.objects first rest o good is

  abbrev left_told : Told
  left_told = next digest repository id bytes told

  has-room : room_for told.marks (Some mark) ≡ Ok tt
  has-room =
      mark-room told.marks mark
      (let few = all.few in let lt = what.within in let limit = good.few in omega (arith, few, lt, limit))

  pub commit-ends : (head : Option (List ℕ)) (tip : Tip)
      → closed_where digest true (workspace_with head (at_tip told tip) (commit_told repository.objects id c))
      ≡ Ok (workspace_of head left_told)
  commit-ends head tip =
      ends digest (workspace_of head (at_tip told tip)) (commit_told repository.objects id c) _ has-room
      (closed-itself digest repository good first id bytes what reached told.objects all.objects)
      ∙ ap (λ (branches : Branches). Ok (workspace_of head (record left_told { branches = branches }))) (moved tip id)

  pub commit-tells : AreTold repository (first ++ o ∷ []) left_told
  commit-tells =
      told-next repository first rest o told left_told is what.named all
      (left-of digest repository good first id bytes what reached told.objects all.objects)
      (left-kept digest repository good first id bytes what reached told.objects all.objects)
      (left-has digest repository good first id bytes what reached told.objects all.objects)
      refl (inr (At id, refl))
      (all.tags
      ∙ sym (ap tags_of (reached-last repository first o reached)
      ∙ tags-of-other (reached_among repository first) o refl)) reached
      (left-order digest repository good first id bytes what reached told.objects all.objects)
