-- A stream between two pieces, and what one more piece does: git-fast-import(1), "Input Format".
use Rattle.std.specs.Prelude.{◌≡◌, ◌<◌, ◌^◌, ℕ, Bool, true, false, List, [], ◌++◌, length, Option, None, Some, Result, Ok, Err}
use Rattle.git_model.specs.RefStore.{RefStore}
use Rattle.git_model.specs.Repository.{Repository}
use Rattle.content_pool.specs.Pool.{Cells, holds}
use Rattle.tenant_tables.specs.View.{View}
use Rattle.stream_lex.specs.Items.{Item, Tail, Rest, after_items}
use Rattle.stream_lex.specs.Running.{extended, more_of, HasNoItem}
use Rattle.import_session.specs.Session.{SessionView, new_session, running_in}
use Rattle.import_session.specs.Stream.{Running, Runs, Outcome, End, after_reply, carried, finished, last_checkpoint, refused}
use Rattle.tenant_stream.specs.declared.stream_error.StreamError.{StreamError}
use Rattle.tenant_stream.specs.declared.stream_error.StreamError.TheVariants as stop
-- For codes of values that hold a stream: it holds files of commits as branches.
pub use Rattle.tree_build.specs.ShapeCode.{branch_code}

-- What a stream keeps between two pieces: its session, and the bytes that have not given an item
-- yet.
pub record StreamView : Type 0 where
  pub session : SessionView
  pub tail : Tail

-- Before the first byte.
abbrev pub new_stream : StreamView
new_stream = record { session = new_session; tail = Rest false [] }

-- What is kept, as a running stream over the objects of a table in a pool.
abbrev pub stream_in : StreamView → Cells → View → RefStore → Running
stream_in stream pool table refs = running_in stream.session pool table refs

-- What a stream holds between two pieces: the running stream, the bytes that have not given an item
-- yet, and the output so far.
pub record Held : Type 0 where
  pub running : Running
  pub tail : Tail
  pub out : List ℕ

-- The stream with its tenant's pool, table and refs, and what it has printed.
abbrev pub held_with : StreamView → Cells → View → RefStore → List ℕ → Held
held_with stream pool table refs out = record {
  running = stream_in stream pool table refs;
  tail = stream.tail;
  out = out;
}

-- The same with a piece after its tail.
abbrev pub with_piece : Held → List ℕ → Held
with_piece held piece = record held { tail = extended held.tail piece }

-- All that a running stream prints, and how it stands, if these bytes come after its tail.
abbrev pub outcome_after : (List ℕ → List ℕ) → Running → Tail → List ℕ → Outcome
outcome_after digest now tail more =
    carried digest now (more_of tail more).items (more_of tail more).tail

-- Bytes were read and gave these items: whatever bytes come, these items are the first, and the new
-- tail gives the others.
abbrev pub ReadsOn : Tail → List Item → Tail → Type 0
ReadsOn old items new = (more : List ℕ) → more_of old more ≡ after_items items (more_of new more)

-- A stream has carried out these items, and has read no more: it has appended their replies to its
-- output. Whatever comes after the items, these replies are the first, and the stream goes on from
-- where the items left it.
pub record HasCarriedOut (digest : List ℕ → List ℕ) (before : Held) (items : List Item)
    (after : Held) : Type 0 where
  pub replies : List ℕ
  pub reads : ReadsOn before.tail items after.tail
  pub goes_on : (later : List Item) (tail : Tail)
      → carried digest before.running (items ++ later) tail
      ≡ after_reply replies (carried digest after.running later tail)
  pub printed : after.out ≡ before.out ++ replies

-- No complete item is left to carry out: `done` was read, or no item is held.
abbrev pub IsDrained : Bool → Tail → Type 0
IsDrained true tail = Unit {0}
IsDrained false tail = HasNoItem tail

-- A stream has carried out all complete items.
pub record HasCarriedOutAll (digest : List ℕ → List ℕ) (before after : Held) : Type 0 where
  pub items : List Item
  pub carried_out : HasCarriedOut digest before items after
  pub drained : IsDrained after.running.is_done after.tail

-- A stream has carried out these items, which leave it in the middle, and it stopped there. What it
-- stopped at printed nothing, and what is left has the same last checkpoint.
pub record HasStoppedAfter (digest : List ℕ → List ℕ) (before : Held) (items : List Item)
    (middle after : Held) : Type 0 where
  pub carried_out : HasCarriedOut digest before items middle
  pub running : middle.running.is_done ≡ false
  pub printed : after.out ≡ middle.out
  pub checkpoint : last_checkpoint after.running.workspace
      ≡ last_checkpoint middle.running.workspace

-- A stream is refused under this number, whatever bytes come.
abbrev pub IsRefused : (List ℕ → List ℕ) → Held → ℕ → Type 0
IsRefused digest held code = (more : List ℕ)
    → outcome_after digest held.running held.tail more ≡ refused code held.running.workspace

-- A stream has carried out some items, and was refused after them.
pub record WasRefused (digest : List ℕ → List ℕ) (before : Held) (code : ℕ) (after : Held)
    : Type 0 where
  pub items : List Item
  pub middle : Held
  pub stopped : HasStoppedAfter digest before items middle after
  pub refused : IsRefused digest middle code

-- A stream has carried out so many items, and then memory ran out.
pub record RanOutAfter (digest : List ℕ → List ℕ) (before : Held) (count : ℕ) (after : Held)
    : Type 0 where
  pub items : List Item
  pub middle : Held
  pub stopped : HasStoppedAfter digest before items middle after
  pub counted : length items ≡ count

-- What came of the bytes that a stream holds, by the answer.
abbrev pub Carries : (List ℕ → List ℕ) → Held → Result Unit StreamError → Held → Type 0
Carries digest before (Ok u) after = HasCarriedOutAll digest before after
Carries digest before (Err (stop.Fault code)) after = WasRefused digest before code after
Carries digest before (Err (stop.Memory count)) after = RanOutAfter digest before count after

-- What came of a piece. After `done` its bytes are ignored.
pub record Feeds (digest : List ℕ → List ℕ) (before : Held) (piece : List ℕ)
    (result : Result Unit StreamError) (after : Held) : Type 0 where
  pub ignored : before.running.is_done ≡ true → (result ≡ Ok tt) × (after ≡ before)
  pub taken : before.running.is_done ≡ false
      → Carries digest (with_piece before piece) result after

-- How a stream ends if no more bytes come.
abbrev pub stream_end : (List ℕ → List ℕ) → Held → End
stream_end digest held = finished digest (Runs held.running held.tail)

-- The end of a stream was answered by this fault or by none. Its reply was appended to the output,
-- and its repository is left.
pub record HasEnded (digest : List ℕ → List ℕ) (before : Held) (fault : Option ℕ)
    (left : Repository) (out : List ℕ) : Type 0 where
  pub answered : (stream_end digest before).fault ≡ fault
  pub printed : out ≡ before.out ++ (stream_end digest before).reply
  pub stands : (stream_end digest before).repository ≡ left

-- Memory ran out at the end of a stream that had not read `done`: nothing of its end took effect.
pub record RanOutAtEnd (before : Held) (count : ℕ) (left : Repository) (out : List ℕ)
    : Type 0 where
  pub running : before.running.is_done ≡ false
  pub counted : count ≡ 0
  pub printed : out ≡ before.out
  pub stands : last_checkpoint before.running.workspace ≡ left

-- How a stream ended, by the answer.
abbrev pub EndsAs : (List ℕ → List ℕ) → Held → Result Unit StreamError → Repository → List ℕ
    → Type 0
EndsAs digest before (Ok u) left out = HasEnded digest before None left out
EndsAs digest before (Err (stop.Fault code)) left out = HasEnded digest before (Some code) left out
EndsAs digest before (Err (stop.Memory count)) left out = RanOutAtEnd before count left out

-- All objects of a table are committed.
abbrev pub IsCommitted : View → Type 0
IsCommitted table = table.committed ≡ length table.entries

-- Each slot has fewer than 2^63 holds, so it can be held many times more.
abbrev pub HasAmpleHoldsLeft : Cells → Type 0
HasAmpleHoldsLeft pool = (s : ℕ) → holds pool s < 2 ^ 63
