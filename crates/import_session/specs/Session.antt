-- A session: the state of a running stream, the command that is not complete, and whether `done`
-- was read.
use Rattle.std.specs.Prelude.{◌≡◌, ◌≢◌, ℕ, List, ◌++◌, take, Result, Ok, Err, Bool, false}
use Rattle.git_model.specs.Results.{GivesOr}
use Rattle.git_model.specs.RefStore.{RefStore}
use Rattle.git_model.specs.Repository.{Repository}
use Rattle.content_pool.specs.Pool.{Cells}
use Rattle.tenant_tables.specs.Objects.{objects}
use Rattle.tenant_tables.specs.View.{View}
use Rattle.stream_grammar.specs.declared.fault.Fault.{Fault as TextFault}
use Rattle.stream_grammar.specs.declared.act.Done.{Done as LentDone}
use Rattle.stream_grammar.specs.Commands.{Done, Parsing, top}
use Rattle.stream_grammar.specs.Shown.{done_shown}
use Rattle.stream_parts.specs.declared.fault.Fault.{Fault}
use Rattle.stream_parts.specs.declared.fault.Fault.TheVariants as fault
use Rattle.stream_parts.specs.Faults.{text_first}
use Rattle.import_session.specs.Stream.{Running, Step}
use Rattle.stream_commands.specs.State.{StreamState, empty_state, workspace_in}

-- What a session keeps between items.
pub record SessionView : Type 0 where
  pub parsing : Parsing
  pub state : StreamState
  pub is_done : Bool

-- The running stream that a session is part of.
abbrev pub running_in : SessionView → Cells → View → RefStore → Running
running_in session pool table refs = record {
  workspace = workspace_in session.state pool table refs;
  parsing = session.parsing;
  is_done = session.is_done;
}

-- What the grammar gave for an item, or its fault. `Memory` may take the place of either.
abbrev pub ReadsItem : Result LentDone Fault → Result Done TextFault → Type 0
ReadsItem (Ok done) given = given ≡ Ok (done_shown done)
ReadsItem (Err e) given = e ≢ fault.Memory → text_first given ≡ Err e

-- A call left what is wanted, or answered the refusal that is wanted. `Memory` may take the place
-- of either.
abbrev pub Leaves : {A : Type 0} → Result A Fault → A → Result Unit Fault → Type 0
Leaves wanted new result = GivesOr fault.Memory (λ _. new) result wanted

-- The same for an item, which leaves a running stream.
abbrev pub Takes : Result Step Fault → Running → List ℕ → List ℕ → Result Unit Fault → Type 0
Takes (Ok step) new out out' (Ok u) = (step.running ≡ new) × (out' ≡ out ++ step.reply)
Takes (Ok step) new out out' (Err e) = e ≡ fault.Memory
Takes (Err refusal) new out out' (Ok u) = ⊥
Takes (Err refusal) new out out' (Err e) = e ≢ fault.Memory → e ≡ refusal

-- A session before its first item.
abbrev pub new_session : SessionView
new_session = record { parsing = Ok top; state = empty_state; is_done = false }

-- The repository of all objects in a table over a pool, with these refs.
abbrev pub repository_in : Cells → View → RefStore → Repository
repository_in pool table refs = record { objects = objects pool table.entries; refs = refs }

-- The repository at the last checkpoint: the committed objects, and the refs.
abbrev pub last_in : Cells → View → RefStore → Repository
last_in pool table refs =
    record { objects = take table.committed (objects pool table.entries); refs = refs }
