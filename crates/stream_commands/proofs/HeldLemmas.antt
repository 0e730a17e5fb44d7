-- What a session holds of its commits stays what it is.
use Rattle.std.proofs.Common.{◌≡◌, ℕ, List, Option, None, Some, Result, Ok, Err, refl, ap, subst}
use Rattle.std.specs.Prelude.{OnOk, is_some}
use Rattle.std.proofs.lemmas.List.Elements.{All-weaker}
use Rattle.git_model.specs.Content.{Content, name_by}
use Rattle.git_model.specs.Repository.{Object, object_named, with_object}
use Rattle.tenant_tables.specs.declared.fault.Fault.{Fault as TableFault}
use Rattle.content_pool.specs.Pool.{Cells}
use Rattle.tenant_tables.specs.Adding.{store_fault}
use Rattle.tenant_tables.specs.Objects.{objects}
use Rattle.tenant_tables.specs.View.{View}
use Rattle.file_maps.specs.FileMap.{FileMap}
use Rattle.tree_build.specs.Branch.{Branch, IsBranch, files_in}
use Rattle.tree_build.proofs.Growing.{branch_stays}
use Rattle.kept_files.specs.declared.kept_files.KeptCommit.{KeptCommit}
use Rattle.kept_files.specs.KeptCommits.{AreBranches}
use Rattle.open_commits.specs.declared.fault.Fault.{Fault as CommitFault}
use Rattle.open_commits.specs.Calls.{AddsOnly}
use Rattle.open_commits.specs.OpenCommit.{HeldCommit, OpenCommit, Stands, open_commit_in}
use Rattle.stream_parts.specs.declared.fault.Fault.{Fault}
use Rattle.stream_parts.specs.OpenCommand.{OpenCommand, Changes, Inline, command_with}
use Rattle.stream_parts.specs.Storing.{stored_or, with_content}
use Rattle.stream_commands.specs.Faults.{changed_or}
use Rattle.stream_commands.specs.State.{StreamState, state_with}
use Rattle.revisions.specs.declared.tag_ends.ChainCache.{ChainCache}
use Rattle.stream_commands.specs.Held.{ChainStands, HoldsFiles, HoldsOpen, KeepsBranchFiles}
use Rattle.stream_commands.proofs.ChainLemmas.{chain_with}

-- ---- where one object is stored

stored_is : (id : List ℕ) (content : Content) (os more : List Object)
    (refusal : Option TableFault) → stored_or id content os refusal ≡ Ok more
    → with_object id content os ≡ more
stored_is id content os more None is = cc is
stored_is id content os more (Some refusal) is = absurd (cc is)

module _ (digest : List ℕ → List ℕ) (content : Content) (os more : List Object)
    (is : with_content digest content os ≡ Ok more) where
  branch_grown : (b : Branch) → IsBranch os b
      → IsBranch more b × (files_in more b ≡ files_in os b)
  branch_grown b stands =
      subst (λ (l : List Object). IsBranch l b × (files_in l b ≡ files_in os b))
      (stored_is (name_by digest content) content os more
      (store_fault (name_by digest content) content os) is)
      (branch_stays (name_by digest content) content os b stands)

  kept_grown : (kept : List KeptCommit) → AreBranches os kept → AreBranches more kept
  kept_grown kept stand =
      All-weaker (λ commit. IsBranch os commit.files) (λ commit. IsBranch more commit.files)
      (λ commit stands. (branch_grown commit.files stands).0) kept stand

  command_grown : (command : OpenCommand HeldCommit) → HoldsOpen os command → HoldsOpen more command
  command_grown (Changes held) stands = (branch_grown held.files stands).0
  command_grown (Inline held file) stands = (branch_grown held.files stands).0
  command_grown _ stands = tt

  commit_same : (held : HeldCommit) → Stands os held → open_commit_in more held ≡ open_commit_in os held
  commit_same held stands =
      ap (λ (m : FileMap). record (open_commit_in os held) { files = m }) (branch_grown held.files stands).1

  -- the open command means what it meant
  pub command_same : (command : OpenCommand HeldCommit) → HoldsOpen os command
      → command_with (open_commit_in more) command ≡ command_with (open_commit_in os) command
  command_same (Changes held) stands = ap (λ (c : OpenCommit). Changes c) (commit_same held stands)
  command_same (Inline held file) stands =
      ap (λ (c : OpenCommit). Inline c file) (commit_same held stands)
  command_same _ stands = refl

  chain_grown : (chain : ChainCache) → ChainStands digest os chain → ChainStands digest more chain
  chain_grown chain stands =
      subst (λ (l : List Object). ChainStands digest l chain)
      (stored_is (name_by digest content) content os more
      (store_fault (name_by digest content) content os) is)
      (chain_with digest (is_some (object_named (name_by digest content) os)) os _ chain stands)

  pub files_grown : (state : StreamState) → HoldsFiles digest os state → HoldsFiles digest more state
  files_grown state holds = record {
    command = command_grown state.stream.command holds.command;
    kept = kept_grown state.kept holds.kept;
    chain = chain_grown state.chain holds.chain;
  }

-- the files that are kept stay branches where objects are only added
pub kept_stand : (p : Cells) (t : View) (q : Cells) (u : View) → AddsOnly p t q u
    → (kept : List KeptCommit) → AreBranches (objects p t.entries) kept
    → AreBranches (objects q u.entries) kept
kept_stand p t q u adds kept stand =
    All-weaker (λ commit. IsBranch (objects p t.entries) commit.files)
    (λ commit. IsBranch (objects q u.entries) commit.files)
    (λ commit. adds.branches commit.files) kept stand

-- what holds in any case holds where a call was carried out
pub where_ok : {A B : Type 0} {P : Type 0} (r : Result A B) → P → OnOk r P
where_ok (Ok value) holds = holds
where_ok (Err e) holds = tt

-- a commit that changed is the open one again, beside what is kept
pub open_again : (digest : List ℕ → List ℕ) (os : List Object) (state : StreamState) (commit : HeldCommit)
    (r : Result Unit CommitFault) → OnOk r (Stands os commit) → AreBranches os state.kept
    → ChainStands digest os state.chain
    → OnOk (changed_or r) (HoldsFiles digest os (state_with state (Changes commit)))
open_again digest os state commit (Ok u) stands kept chain = record {
  command = stands;
  kept = kept;
  chain = chain;
}
open_again digest os state commit (Err e) stands kept chain = tt

-- what stands in any case stands where a call was carried out
pub still_held : {A : Type 0} (r : Result A Fault) (digest : List ℕ → List ℕ) (os : List Object)
    (old new : StreamState) → KeepsBranchFiles old new → HoldsFiles digest os old
    → OnOk r (HoldsFiles digest os new)
still_held (Ok value) digest os old new keeps holds = keeps digest os holds
still_held (Err e) digest os old new keeps holds = tt
