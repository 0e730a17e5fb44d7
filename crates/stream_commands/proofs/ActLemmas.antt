-- What a refusal, one act after another, a printed line and a stored blob leave of a workspace.
use Rattle.std.proofs.Common.{◌≡◌, ◌≢◌, ℕ, List, Result, Ok, Err, refl, ◌∙◌, append_assoc, codes, Option, rules}
use Rattle.stream_parts.specs.declared.fault.Fault.{Fault}
use Rattle.stream_parts.specs.declared.fault.Fault.TheVariants as fault
use Rattle.git_model.specs.declared.kind.Kind.TheVariants as kind
use Rattle.git_model.specs.Content.{Content}
use Rattle.git_model.specs.RefStore.{RefStore}
use Rattle.content_pool.specs.Pool.{Cells}
use Rattle.tenant_tables.specs.Objects.{objects}
use Rattle.tenant_tables.specs.View.{View}
use Rattle.git_model.specs.Results.{and_then}
use Rattle.stream_parts.specs.Marks.{Marks, room_for, with_mark}
use Rattle.stream_commands.specs.Workspace.{Workspace, Effect}
use Rattle.stream_parts.specs.Stored.{IsStored}
use Rattle.stream_commands.specs.Held.{FilesStand}
use Rattle.stream_commands.specs.Objects.{blob_stored}
use Rattle.stream_parts.specs.Printing.{Shows}
use Rattle.stream_commands.specs.Printing.{prints}
use Rattle.stream_commands.specs.State.{StreamState, marked, workspace_in, CarriesOut}
use Rattle.stream_commands.proofs.HeldLemmas.{command_same}

-- ---- what is refused

-- where there is an answer, only `Memory` may be refused in its place
pub is_memory : {A : Type 0} (answer : A) (f : Fault)
    → (f ≢ fault.Memory → ◌≡◌ {A = Result A Fault} (Ok answer) (Err f)) → f ≡ fault.Memory
is_memory answer fault.Memory refused = refl
is_memory answer f refused = let never = refused (λ is. cc) in cc

pub carries_refused : (r : Result Effect Fault) (new : Workspace) (out out' : List ℕ) (f : Fault)
    → (f ≢ fault.Memory → r ≡ Err f) → CarriesOut r new out out' (Err f)
carries_refused (Ok effect) new out out' f refused = is_memory effect f refused
carries_refused (Err refusal) new out out' f refused = λ other. let is = refused other in cc

-- ---- what comes first, and what comes after it

pub first_refused : {A : Type 0} (first : Result A Fault) (later : A → Result Effect Fault)
    (new : Workspace) (out out' : List ℕ) (e : Fault)
    → (e ≢ fault.Memory → first ≡ Err e)
    → CarriesOut (and_then first later) new out out' (Err e)
first_refused first later new out out' e refused =
    carries_refused (and_then first later) new out out' e (λ other. rw (refused other) refl)

pub first_then : {A : Type 0} (first : Result A Fault) (value : A)
    (later : A → Result Effect Fault) (new : Workspace) (out out' : List ℕ)
    (result : Result Unit Fault)
    → first ≡ Ok value → CarriesOut (later value) new out out' result
    → CarriesOut (and_then first later) new out out' result
first_then first value later new out out' result is carried = rw is carried

-- ---- printed lines

-- a line that was printed, or that was refused
pub line_carried : (line : Result (List ℕ) Fault) (w : Workspace) (out out' : List ℕ)
    (result : Result Unit Fault)
    → Shows line out out' result → CarriesOut (and_then line (λ text. prints w text)) w out out'
    result
line_carried (Ok text) w out out' (Ok u) shown = (refl, shown ∙ append_assoc out text (codes "\n"))
line_carried (Ok text) w out out' (Err e) shown = shown.0
line_carried (Err refusal) w out out' (Ok u) shown = shown
line_carried (Err refusal) w out out' (Err e) shown = shown.0

-- the same of a line that is made of a name
pub named_carried : (id : Result (List ℕ) Fault) (line : List ℕ → Result (List ℕ) Fault)
    (w : Workspace) (out out' : List ℕ)
    (result : Result Unit Fault) → Shows (and_then id line) out out' result
    → CarriesOut (and_then id (λ name. and_then (line name) (λ text. prints w text))) w out out'
    result
named_carried (Ok name) line w out out' result shown = line_carried
    (line name) w out out' result shown
named_carried (Err refusal) line w out out' result shown = line_carried
    (Err refusal) w out out' result shown

-- ---- blobs

-- a blob that was stored is marked
pub blob_carried : (digest : List ℕ → List ℕ) (content : Content) (mark : Option ℕ) (id : List ℕ)
    (state : StreamState) (before after : Marks) (p : Cells) (t : View) (q : Cells) (v : View) (refs : RefStore)
    (out : List ℕ) → room_for before mark ≡ Ok tt → IsStored digest content p t q v id
    → after ≡ with_mark before mark kind.Blob id → FilesStand digest state p t
    → CarriesOut (blob_stored digest mark content
    (workspace_in (marked state before) p t refs))
    (workspace_in (marked state after) q v refs) out out (Ok tt)
blob_carried digest content mark id state before after p t q v refs out room stored marked holds =
    let same = command_same digest content (objects p t.entries) (objects q v.entries) stored.objects
    state.stream.command holds.command in
    rw (room, stored.objects) (rw (marked, stored.name, stored.committed, same) refl, search rules)
