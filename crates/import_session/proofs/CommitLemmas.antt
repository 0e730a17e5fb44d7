-- What changes of the open commit, and its message, leave of a workspace.
use Rattle.std.proofs.Common.{◌≡◌, ◌≢◌, ℕ, List, [], ◌∷◌, Option, None, Some, Result, Ok, Err, refl, sym, ap, subst, ◌∙◌, rules}
use Rattle.std.specs.Prelude.{MatchResult, OnOk}
use Rattle.git_model.specs.RefStore.{RefStore}
use Rattle.git_model.specs.Repository.{Object}
use Rattle.content_pool.specs.Pool.{Cells}
use Rattle.tenant_tables.specs.Objects.{objects}
use Rattle.tenant_tables.specs.View.{View}
use Rattle.file_maps.specs.declared.fault.Fault.{Fault as FilesFault}
use Rattle.file_maps.specs.FileMap.{FileMap}
use Rattle.file_maps.specs.Grafts.{graft_fault}
use Rattle.file_maps.specs.StoredFiles.{commit_map, stored_files, tree_of_commit}
use Rattle.kept_files.specs.declared.kept_files.KeptCommit.{KeptCommit}
use Rattle.kept_files.specs.KeptCommits.{AreBranches}
use Rattle.open_commits.specs.declared.fault.Fault.{Fault as CommitFault}
use Rattle.open_commits.specs.declared.fault.Fault.TheVariants as commit_fault
use Rattle.open_commits.specs.declared.open_commit.OpenCommit.{OpenCommit as LentCommit}
use Rattle.open_commits.specs.Calls.{Changes}
use Rattle.open_commits.specs.Parents.{changed_to, started_from}
use Rattle.open_commits.specs.OpenCommit.{Header, HeldCommit, OpenCommit, Stands, begun, begun_on, commit_held, open_commit_in, shown_in}
use Rattle.stream_parts.specs.declared.fault.Fault.{Fault}
use Rattle.stream_parts.specs.declared.fault.Fault.TheVariants as fault
use Rattle.stream_parts.specs.declared.headers.CommitHeader.{CommitHeader}
use Rattle.stream_parts.specs.declared.headers.InlineFile.{InlineFile}
use Rattle.stream_parts.specs.OpenCommand.{OpenCommand, Inline, changes_in, command_with}
use Rattle.stream_parts.specs.OpenCommand as open_command
use Rattle.git_model.specs.Results.{and_then}
use Rattle.stream_commands.specs.Faults.{changed_or}
use Rattle.stream_parts.specs.Branches.{Branches, branch_set, tip_for}
use Rattle.stream_commands.specs.Workspace.{Effect, Workspace, quiet, with_command}
use Rattle.revisions.specs.declared.tag_ends.ChainCache.{ChainCache}
use Rattle.stream_commands.specs.Held.{ChainStands, HoldsFiles}
use Rattle.stream_commands.specs.Lines.{in_changes}
use Rattle.import_session.specs.Commits.{begun_from, commit_opened, header_said}
use Rattle.import_session.specs.Opening.{opened_at, opened_with, started_or_cleared}
use Rattle.stream_commands.specs.State.{StreamState, branched, state_with, workspace_in, workspace_over, CarriesOut}
use Rattle.import_session.specs.Session.{Leaves}
use Rattle.import_session.specs.Sound.{IsSound}
use Rattle.stream_commands.proofs.ActLemmas.{carries_refused}
use Rattle.import_session.proofs.SoundEnds.{stream_keeps}

-- ---- a commit is looked up, and then the open commit changes

-- the name was refused, and so is the change
pub named_refused : (named : Result (List ℕ) Fault) (next : List ℕ → Result OpenCommit Fault)
    (e f : Fault) → f ≡ e → (e ≢ fault.Memory → named ≡ Err e)
    → f ≢ fault.Memory → and_then named next ≡ Err f
named_refused named next e f same refused other = rw (same, refused (rw same at other)) refl

-- what a change answers and leaves
pub changes_left : (wanted : Result OpenCommit CommitFault) (old new : OpenCommit)
    (r : Result Unit CommitFault) → Changes wanted old new r
    → Leaves (changed_or wanted) new (changed_or r)
changes_left wanted old new (Ok u) done = rw done refl
changes_left wanted old new (Err e) refused = λ other.
    let because = refused (λ (m : e ≡ commit_fault.Memory). other (rw m refl)) in
    rw because.0 refl

pub changed_then : (named : Result (List ℕ) Fault)
    (change : List ℕ → Result OpenCommit CommitFault) (id : List ℕ) (old new : OpenCommit)
    (r : Result Unit CommitFault) → named ≡ Ok id → Changes (change id) old new r
    → Leaves (and_then named (λ found. changed_or (change found))) new (changed_or r)
changed_then named change id old new r is done =
    rw is (changes_left (change id) old new r done)

-- what stands unless memory ran out stands where a change was carried out
pub held_left : (P : Type 0) (r : Result Unit CommitFault)
    → (r ≢ Err commit_fault.Memory → P) → OnOk (changed_or r) P
held_left P (Ok u) holds = holds (λ is. absurd (cc is))
held_left P (Err e) holds = tt

-- ---- the open commit changes

-- no commit after its message is one whatever it is held as
no_changes_with : {Held Other : Type 0} (to : Held → Other) (command : OpenCommand Held)
    (f : Fault) → changes_in command ≡ Err f → changes_in (command_with to command) ≡ Err f
no_changes_with to (open_command.Changes held) f is = absurd (cc is)
no_changes_with to open_command.Nothing f is = cc
no_changes_with to (open_command.Commit header) f is = cc
no_changes_with to (open_command.Tag header) f is = cc
no_changes_with to (open_command.Reset ref) f is = cc
no_changes_with to (open_command.Inline held file) f is = cc

-- a line whose commit is not open
pub not_changing : (state : StreamState) (new : Workspace) (os : List Object) (committed : ℕ)
    (refs : RefStore) (later : OpenCommit → Result Effect Fault) (out : List ℕ) (e f : Fault) → f ≡ e
    → changes_in state.stream.command ≡ Err e
    → CarriesOut (and_then (changes_in (workspace_over state os committed refs).stream.command) later)
    new out out (Err f)
not_changing state new os committed refs later out e f same none =
    carries_refused
    (and_then (changes_in (workspace_over state os committed refs).stream.command) later) new out out f
    (λ other. rw (no_changes_with (open_commit_in os) state.stream.command e none, same) refl)

-- what a change leaves
changed_open : (workspace : Workspace) (change : OpenCommit → Result OpenCommit Fault)
    (commit next : OpenCommit) (out : List ℕ) (result : Result Unit Fault)
    → workspace.stream.command ≡ open_command.Changes commit → Leaves (change commit) next result
    → CarriesOut (in_changes change workspace) (with_command workspace (open_command.Changes next)) out out result
changed_open workspace change commit next out (Ok u) held_is is =
    rw (held_is, is) (refl, search rules)
changed_open workspace change commit next out (Err f) held_is refused =
    carries_refused (in_changes change workspace) (with_command workspace (open_command.Changes next))
    out out f (λ other. rw (held_is, refused other) refl)

-- the same of a session that takes its commit out, and puts it back when it was changed
pub put_back : (state left : StreamState) (os : List Object) (committed : ℕ) (refs : RefStore)
    (change : OpenCommit → Result OpenCommit Fault)
    (commit next : LentCommit) (out : List ℕ) (result : Result Unit Fault)
    → state.stream.command ≡ open_command.Changes (commit_held commit)
    → left ≡ state_with state (open_command.Changes (commit_held next))
    → Leaves (change (shown_in os commit)) (shown_in os next) result
    → CarriesOut (in_changes change (workspace_over state os committed refs))
    (workspace_over left os committed refs) out out result
put_back state left os committed refs change commit next out result is left_is changed =
    subst (λ (s : StreamState). CarriesOut (in_changes change (workspace_over state os committed refs))
    (workspace_over s os committed refs) out out result) (sym left_is)
    (changed_open (workspace_over state os committed refs) change (shown_in os commit)
    (shown_in os next) out result
    (ap (λ (c : OpenCommand HeldCommit). command_with (open_commit_in os) c) is) changed)

-- a session that takes its commit out and looks a commit up, and puts its own back
pub left_with : (state looked left : StreamState) (spent : OpenCommand HeldCommit) (next : HeldCommit)
    (chain : ChainCache) → looked ≡ record (state_with state spent) { chain = chain }
    → left ≡ state_with looked (open_command.Changes next)
    → left ≡ state_with (record state { chain = chain }) (open_command.Changes next)
left_with state looked left spent next chain looked_is left_is =
    left_is ∙ ap (λ (s : StreamState). state_with s (open_command.Changes next)) looked_is

pub held_with : (digest : List ℕ → List ℕ) (os : List Object) (state left : StreamState) (next : HeldCommit)
    (chain : ChainCache) (result : Result Unit Fault) → AreBranches os state.kept
    → ChainStands digest os chain → OnOk result (Stands os next)
    → left ≡ state_with (record state { chain = chain }) (open_command.Changes next)
    → OnOk result (HoldsFiles digest os left)
held_with digest os state left next chain (Ok u) kept follows stands is =
    rw is (record { command = stands; kept = kept; chain = follows })
held_with digest os state left next chain (Err f) kept follows stands is = tt

-- a file of it waits for its data
pub file_waits : (state : StreamState) (p : Cells) (t : View) (refs : RefStore)
    (commit : HeldCommit) (file : InlineFile) (out : List ℕ)
    → state.stream.command ≡ open_command.Changes commit
    → CarriesOut (and_then (changes_in (workspace_in state p t refs).stream.command)
    (λ commit. quiet (with_command (workspace_in state p t refs) (Inline commit file))))
    (workspace_in (state_with state (Inline commit file)) p t refs) out out (Ok tt)
file_waits state p t refs commit file out is =
    rw is (refl, search rules)

-- ---- a commit opens

-- it starts from the commit that its branch stood at, whatever files were left to it
changed_alike : (a b : OpenCommit) (files : FileMap) (refusal : Option FilesFault)
    → record a { files = files } ≡ record b { files = files }
    → changed_to a files refusal ≡ changed_to b files refusal
changed_alike a b files None same = ap (λ (c : OpenCommit). Ok c) same
changed_alike a b files (Some refusal) same = refl

started_alike : (os : List Object) (id message : List ℕ) (header : Header) (files : FileMap)
    → started_from os id (begun_on header message files) ≡ started_from os id (begun header message)
started_alike os id message header files =
    changed_alike (record (begun_on header message files) { parents = id ∷ [] })
    (record (begun header message) { parents = id ∷ [] }) (commit_map os id)
    (graft_fault os (tree_of_commit os id) (stored_files os (tree_of_commit os id)) (commit_map os id)) refl

pub begun_on_first : (os : List Object) (first : Option (List ℕ)) (header : Header)
    (message : List ℕ) (files : FileMap)
    → started_or_cleared os first (begun_on header message files)
    ≡ begun_from os first (begun header message)
begun_on_first os None header message files = refl
begun_on_first os (Some id) header message files =
    ap changed_or (started_alike os id message header files)

pub opened_by : (workspace : Workspace) (stood first : Option (List ℕ)) (new : OpenCommit)
    (branches : Branches) (result : Result LentCommit Fault) → stood ≡ first
    → branch_set workspace.stream.branches new.header.ref (tip_for first) ≡ Ok branches
    → MatchResult result
    (λ commit. begun_from workspace.objects stood new ≡ Ok (shown_in workspace.objects commit))
    (λ f. f ≢ fault.Memory → begun_from workspace.objects stood new ≡ Err f)
    → MatchResult result
    (λ commit. opened_at workspace first new ≡ quiet (record workspace {
      stream = record workspace.stream {
        branches = branches;
        command = open_command.Changes (shown_in workspace.objects commit);
      };
    }))
    (λ f. f ≢ fault.Memory → opened_at workspace first new ≡ Err f)
opened_by workspace stood first new branches (Ok commit) same set is =
    rw (set, ← same, is) refl
opened_by workspace stood first new branches (Err f) same set refused =
    λ other. rw (set, ← same, refused other) refl

-- the header is taken out
pub without_command : (digest : List ℕ → List ℕ) (workspace : Workspace)
    (command : OpenCommand OpenCommit) → command ≡ open_command.Nothing → IsSound digest workspace
    → IsSound digest (with_command workspace command)
without_command digest workspace command none sound =
    stream_keeps digest workspace sound (record workspace.stream { command = command }) sound.next_head
    sound.marks sound.branches sound.tags (rw none tt)

pub opened_refused : (workspace new : Workspace) (mark : Option ℕ) (message : List ℕ)
    (said : CommitHeader) (header : Header) (e f : Fault) (out : List ℕ)
    → f ≡ e → header_said mark said ≡ Ok header
    → (e ≢ fault.Memory → opened_with workspace message header ≡ Err e)
    → CarriesOut (commit_opened mark message said workspace) new out out (Err f)
opened_refused workspace new mark message said header e f out same told refused =
    carries_refused (commit_opened mark message said workspace) new out out f
    (λ other. rw (told, same, refused (rw same at other)) refl)

pub opened_well : (state left : StreamState) (pool : Cells) (table : View) (refs : RefStore)
    (branches : Branches) (spent : OpenCommand HeldCommit) (kept : List KeptCommit) (mark : Option ℕ)
    (message : List ℕ) (said : CommitHeader) (header : Header) (next : HeldCommit) (out : List ℕ)
    → header_said mark said ≡ Ok header
    → opened_with (workspace_in state pool table refs) message header
    ≡ quiet (workspace_in (state_with (branched state branches) (open_command.Changes next)) pool table refs)
    → left ≡ record (state_with (branched state branches) spent) { kept = kept }
    → CarriesOut (commit_opened mark message said (workspace_in state pool table refs))
    (workspace_in (state_with left (open_command.Changes next)) pool table refs) out out (Ok tt)
opened_well state left pool table refs branches spent kept mark message said header next out told opens left_is =
    rw (told, opens) (rw left_is refl, search rules)
