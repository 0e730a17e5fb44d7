-- Refs that are taken away, in turn.
use Rattle.std.proofs.Common.{◌≡◌, ℕ, ◌+◌, ◌*◌, ◌<◌, ◌≤◌, true, false, codes, length, replicate, List, [], ◌∷◌, None, Some, refl, ap, ◌∙◌, inl, inr, arith}
use Rattle.std.specs.List.{AllByRecursion, flat_map, list_any}
use Rattle.std.specs.Str.{bytes_eq}
use Rattle.std.proofs.lemmas.Bool.{cases_Bool, false≢true}
use Rattle.git_model.specs.RefStore.{RefStore, target_of}
use Rattle.stream_grammar.specs.Names.{Expression}
use Rattle.stream_parts.specs.declared.branches.Tip.TheVariants.{Unborn, Deleted}
use Rattle.open_commits.specs.OpenCommit.{OpenCommit}
use Rattle.stream_parts.specs.Branches.{branch_limit, tip_of, with_branch, Branches}
use Rattle.stream_parts.specs.Tags.{PendingTags}
use Rattle.stream_parts.specs.OpenCommand as open_command
use Rattle.stream_parts.specs.OpenCommand.{OpenCommand}
use Rattle.stream_commands.specs.Workspace.{Workspace}
use Rattle.export_text.specs.ExportActs.{removal_acts}
use Rattle.export_laws.specs.Leaving.{Leaves, nothing}
use Rattle.export_laws.proofs.Acts.{both}
use Rattle.export_laws.proofs.RefsAgree.{Agree, agree-placed, deleted-kept, placed-here}
use Rattle.export_laws.proofs.RefsHeld.{bytes-are}
use Rattle.export_laws.proofs.RefsReset.{placed, placed-few, reset-leaves, state, to-none}

-- A ref that the goal has not, and that is not HEAD.
pub record IsExtra (goal : RefStore) (ref : List ℕ) : Type 0 where
  pub none : target_of goal ref ≡ None
  pub name : bytes_eq ref (codes "HEAD") ≡ false

module _ (digest : List ℕ → List ℕ) (saved : Workspace) (goal : RefStore) (tags : PendingTags) where
  -- What the removal of some refs leaves.
  pub record Removed (refs : List (List ℕ)) (branches : Branches) (command : OpenCommand OpenCommit) : Type 0 where
    pub left : Branches
    pub last : OpenCommand OpenCommit
    pub leaves : Leaves digest (flat_map removal_acts refs) (state saved branches tags command)
        (state saved left tags last)
    pub agree : Agree goal left tags
    pub each : (q : List ℕ) → list_any (bytes_eq q) refs ≡ true → tip_of left q ≡ Some Deleted
    pub kept : (q : List ℕ) → target_of goal q ≡ None → tip_of branches q ≡ Some Deleted
        → tip_of left q ≡ Some Deleted
    pub few : length left ≤ length branches + 2 * length refs

  pub removed : (refs : List (List ℕ)) (branches : Branches) (command : OpenCommand OpenCommit)
      → AllByRecursion (IsExtra goal) refs → length branches + 2 * length refs < branch_limit
      → Agree goal branches tags → Removed refs branches command
  removed [] branches command h few agree = record {
    left = branches;
    last = command;
    leaves = nothing (state saved branches tags command);
    agree = agree;
    each = λ q any. absurd (false≢true any);
    kept = λ q none is. is;
    few = omega arith;
  }
  removed (ref ∷ refs) branches command h few agree =
      let longer = placed-few branches ref Deleted in
      let rest = removed refs (placed branches ref Deleted) open_command.Nothing h.1 (omega (arith, few, longer))
      (agree-placed goal branches tags ref Deleted h.0.none agree) in
      record {
        left = rest.left;
        last = rest.last;
        leaves =
            both digest
            (reset-leaves digest saved branches tags command ref (Expression (replicate 40 48)) Deleted h.0.name (omega (arith, few))
            (to-none (state saved (with_branch branches ref Unborn) tags (open_command.Reset ref)) ref))
            rest.leaves;
        agree = rest.agree;
        each = λ q any. elim (cases_Bool (bytes_eq q ref)) [
          | inl here ↦
              ap (tip_of rest.left) (bytes-are q ref here)
              ∙ rest.kept ref h.0.none (placed-here goal branches tags ref Deleted)
          | inr other ↦ (let later : list_any (bytes_eq q) refs ≡ true = rw other at any in rest.each q later)
        ];
        kept = λ q none is. rest.kept q none
            (deleted-kept goal branches ref Deleted q h.0.none (inl refl) none is);
        few = let more = rest.few in omega (arith, more, longer);
      }
