use Rattle.std.proofs.Common.{◌≡◌, List, ℕ, Option, Ok, ap, sym, subst}
use Rattle.open_commits.specs.OpenCommit.{begun, header_shown}
use Rattle.git_model.proofs.Readables.{objects_are}
use Rattle.tenant_tables.specs.Objects.{objects}
use Rattle.stream_parts.specs.Branches.{Branches, branch_set, tip_commit, tip_for}
use Rattle.import_session.specs.Opening.{IsTipCommit}
use Rattle.stream_commands.specs.State.{StreamState, state_shown, workspace_in}
use Rattle.import_session.proofs.CommitLemmas.{opened_by}
use Rattle.stream_commands.proofs.HeldLemmas.{where_ok}
use Rattle.import_session.proofs.SoundCommits.{tip_commit_is}
use Rattle.import_session.proofs.opening.open_with.Goals as goal

pub begin-requires-clause-files : goal.begin-requires-clause-files
begin-requires-clause-files g c =
    let same = ap (λ (state : StreamState). state.kept) c.in-Ok.ensures.placed.1 in
    (c.take_files-files.ensures.branches
    (objects c.args.pool.now c.args.table.now.entries) (rw same c.requires.held.kept)).1

pub returns-clause-kept : goal.returns-clause-kept
returns-clause-kept g c =
    let same = ap (λ (state : StreamState). state.kept) c.in-Ok.ensures.placed.1 in
    where_ok c.begin.result (c.take_files-files.ensures.branches
    (objects c.args.pool.now c.args.table.now.entries) (rw same c.requires.held.kept)).0

pub returns-clause-opened : goal.returns-clause-opened
returns-clause-opened g c refs sound =
    let workspace = workspace_in (state_shown c.args.state.now) c.args.pool.now c.args.table.now refs in
    let placed = c.in-Ok.ensures.placed in
    let tip = subst (λ (first : Option (List ℕ)). IsTipCommit workspace.objects first) (sym placed.0)
    (tip_commit_is g.N.Naming.digest_of workspace sound c.args.header.ref_name) in
    opened_by workspace c.in-Ok.first (tip_commit workspace.stream.branches c.args.header.ref_name)
    (begun (header_shown c.args.header) c.args.message.now) c.take_files-files.new.state.branches
    c.begin.result placed.0
    (subst (λ (branches : Branches). branch_set workspace.stream.branches c.args.header.ref_name
    (tip_for (tip_commit workspace.stream.branches c.args.header.ref_name)) ≡ Ok branches)
    (ap (λ (state : StreamState). state.stream.branches) (sym c.take_files-files.ensures.state)) placed.2)
    (c.begin.ensures.begun (objects_are _ _ sound.objects) tip)
