-- Branches: git-fast-import(1), "commit" and "reset".
pub use Rattle.git_model.specs.Limits.{branch_limit}
use Rattle.std.specs.Prelude.{ℕ, ◌≤◌, ◌||◌, Bool, nat_lt, if◌then◌else◌, List, length, Option, None, Some, is_some, unwrap_or, Result, Ok, Err, codes}
use Rattle.std.specs.List.{AllByRecursion}
use Rattle.std.specs.Map.{lookup}
use Rattle.std.specs.Str.{bytes_eq}
use Rattle.indexmap.specs.IndexMap.{insert_entry}
use Rattle.git_model.specs.Limits.{ref_name_limit}
use Rattle.git_model.specs.RefStore.{RefStore}
use Rattle.git_names.specs.StoredName.{NamesRef}
use Rattle.stream_parts.specs.declared.branches.Tip.{Tip}
use Rattle.stream_parts.specs.declared.branches.Tip.TheVariants.{Unborn, Deleted, At}
use Rattle.stream_parts.specs.declared.fault.Fault.{Fault}
use Rattle.stream_parts.specs.declared.fault.Fault.TheVariants as fault
use Rattle.std.specs.Option.{option_and_then}

-- The branches of a stream, by their refs, in the order of their first appearance. Each is unborn,
-- is marked as deleted, or is at a commit.
abbrev pub Branches : Type 0
Branches = List (List ℕ × Tip)

-- The name of a branch: a ref name, of at most 1,024 bytes.
abbrev pub NamesBranch : List ℕ → Type 0
NamesBranch ref = NamesRef ref × (length ref ≤ ref_name_limit)

-- Each branch has the name of a ref.
abbrev pub AreRefNames : Branches → Type 0
AreRefNames branches = AllByRecursion (λ branch. NamesBranch branch.0) branches

-- For a stream, HEAD names the ref that the stream set, or else the ref that was last saved.
abbrev pub head_in : Option (List ℕ) → RefStore → List ℕ
head_in head refs = unwrap_or head refs.head

-- `HEAD` means the branch that HEAD names for the stream.
unfoldable pub ref_meant : Option (List ℕ) → RefStore → List ℕ → List ℕ
ref_meant head refs ref = if bytes_eq ref (codes "HEAD") then head_in head refs else ref

-- The tip of a branch of the stream, if it is one.
abbrev pub tip_of : Branches → List ℕ → Option Tip
tip_of branches ref = lookup (bytes_eq ref) branches

-- The commit that a branch is at, if it is at one.
abbrev pub commit_at : Tip → Option (List ℕ)
commit_at Unborn = None
commit_at Deleted = None
commit_at (At commit) = Some commit

-- A branch may be set if it is there already or there are fewer branches than the limit.
unfoldable pub has_branch_room : Branches → List ℕ → Bool
has_branch_room branches ref =
    is_some (tip_of branches ref) || nat_lt (length branches) branch_limit

-- The branches after the tip of one is set. A branch that is new to the stream is added last.
abbrev pub with_branch : Branches → List ℕ → Tip → Branches
with_branch branches ref tip = insert_entry bytes_eq branches ref tip

-- The same within the limit.
abbrev pub branch_set : Branches → List ℕ → Tip → Result Branches Fault
branch_set branches ref tip =
    if has_branch_room branches ref then Ok (with_branch branches ref tip) else Err fault.Limit

-- The commit that a branch of the stream is at. A stored ref of its name does not count.
abbrev pub tip_commit : Branches → List ℕ → Option (List ℕ)
tip_commit branches ref = option_and_then commit_at (tip_of branches ref)

-- A branch that was at no commit is unborn when a commit opens on it.
abbrev pub tip_for : Option (List ℕ) → Tip
tip_for None = Unborn
tip_for (Some commit) = At commit
