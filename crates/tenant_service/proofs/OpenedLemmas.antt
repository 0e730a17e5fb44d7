-- What a stream was opened on stays in its table.
use Rattle.std.proofs.Common.{◌≡◌, ◌≤◌, ℕ, Bool, true, false, List, length, take, Ok, Err, refl, ap, ◌∙◌, arith}
use Rattle.std.proofs.lemmas.List.{length-take-le, take-append-le, take-take}
use Rattle.git_model.specs.RefStore.{RefStore}
use Rattle.git_model.specs.Repository.{Object, Repository}
use Rattle.content_pool.specs.Pool.{Cells}
use Rattle.tenant_tables.specs.View.{View}
use Rattle.tenant_tables.specs.Objects.{objects}
use Rattle.tenant_tables.proofs.TableLemmas.{length-objects}
use Rattle.stream_lex.specs.Items.{Item}
use Rattle.stream_commands.specs.Workspace.{Workspace}
use Rattle.import_session.specs.Session.{repository_in}
use Rattle.import_session.specs.Stream.{last_checkpoint}
use Rattle.tenant_service.specs.Growing.{KeepsObjects}
use Rattle.tenant_service.proofs.GrowingLemmas.{item_grows, onward, still}
use Rattle.tenant_stream.specs.declared.stream_error.StreamError.{StreamError}
use Rattle.tenant_stream.specs.declared.stream_error.StreamError.TheVariants as stop
use Rattle.tenant_stream.specs.Carrying.{Feeds, HasCarriedOut, HasStoppedAfter, Held, StreamView, stream_in, with_piece}
use Rattle.tenant_stream.proofs.SoundLemmas.{items_keep}
use Rattle.tenant_service.specs.declared.opened.Opened.{Opened}
use Rattle.tenant_service.specs.Opening.{CommittedStay, opened_in}
use Rattle.tenant_service.proofs.StreamLemmas.{stopped-running}

-- ---- a piece

-- The committed objects are no more than there are.
abbrev IsWithin : Workspace → Type 0
IsWithin w = w.committed ≤ length w.objects

-- what a stream left that stops, with the last checkpoint of a stream that keeps all objects
pub record LeavesLast (w left : Workspace) : Type 0 where
  pub last : Workspace
  pub keeps : KeepsObjects w last
  pub checkpoint : last_checkpoint left ≡ last_checkpoint last

module _ (digest : List ℕ → List ℕ) (before : Held) (within : IsWithin before.running.workspace) where
  items-stay : (items : List Item) (after : Held) → HasCarriedOut digest before items after
      → KeepsObjects before.running.workspace after.running.workspace
  items-stay items after h =
      let w : Workspace = before.running.workspace in
      items_keep digest (KeepsObjects w) (λ repository. Unit {0})
      (λ now item s keeps was. onward w now.workspace s.running.workspace keeps
      (item_grows digest now item s keeps.within was))
      (λ left keeps. tt) before items after h (still w within w refl refl)

  stop-leaves : (items : List Item) (middle after : Held)
      → HasStoppedAfter digest before items middle after
      → LeavesLast before.running.workspace after.running.workspace
  stop-leaves items middle after h = record {
    last = middle.running.workspace;
    keeps = items-stay items middle h.carried_out;
    checkpoint = h.checkpoint;
  }

module _ (digest : List ℕ → List ℕ) (before : Held) (piece : List ℕ) (after : Held)
    (within : IsWithin before.running.workspace) where
  pub fed-keeps : Feeds digest before piece (Ok tt) after
      → KeepsObjects before.running.workspace after.running.workspace
  fed-keeps h = by before.running.is_done refl
    where
      by : (b : Bool) → before.running.is_done ≡ b
          → KeepsObjects before.running.workspace after.running.workspace
      by true done =
          let same = (h.ignored done).1 in
          still before.running.workspace within after.running.workspace
          (ap (λ (x : Held). x.running.workspace.committed) same)
          (ap (λ (x : Held). x.running.workspace.objects) same)
      by false running =
          let all = h.taken running in
          items-stay digest (with_piece before piece) within all.items after all.carried_out

  pub stopped-keeps : (e : StreamError) → Feeds digest before piece (Err e) after
      → LeavesLast before.running.workspace after.running.workspace
  stopped-keeps (stop.Fault code) h =
      let r = h.taken (stopped-running digest before piece (stop.Fault code) after h) in
      stop-leaves digest (with_piece before piece) within r.items r.middle after r.stopped
  stopped-keeps (stop.Memory count) h =
      let r = h.taken (stopped-running digest before piece (stop.Memory count) after h) in
      stop-leaves digest (with_piece before piece) within r.items r.middle after r.stopped

-- ---- the objects of the last checkpoint

module _ (s : StreamView) (p : Cells) (t : View) (r : RefStore)
    (within : t.committed ≤ length t.entries) where
  pub is-within : IsWithin (stream_in s p t r).workspace
  is-within = let n = length-objects p t.entries in omega (arith, n, within)

  -- whatever more there is
  first-stay : (w : Workspace) (k : KeepsObjects (stream_in s p t r).workspace w) (n : ℕ)
      → n ≤ t.committed → take n w.objects ≡ take n (objects p t.entries)
  first-stay w k n le =
      ap (take n) k.objects
      ∙ take-append-le n (objects p t.entries) k.more
      (let l = length-objects p t.entries in omega (arith, l, le, within))

  pub committed-stay : (s' : StreamView) (q : Cells) (u : View) (v : RefStore)
      → KeepsObjects (stream_in s p t r).workspace (stream_in s' q u v).workspace
      → CommittedStay p t q u
  committed-stay s' q u v k = record {
    same = first-stay (stream_in s' q u v).workspace k;
    committed = k.committed;
  }

  -- also if the table was rolled back
  pub rolled-stay : (left : Workspace) (q : Cells) (u : View) (v : RefStore)
      → LeavesLast (stream_in s p t r).workspace left → repository_in q u v ≡ last_checkpoint left
      → u.committed ≡ length u.entries → CommittedStay p t q u
  rolled-stay left q u v h rolled settled =
      let last = h.last in
      let more = h.keeps.committed in
      let is : objects q u.entries ≡ take last.committed last.objects =
      ap (λ (o : Repository). o.objects) (rolled ∙ h.checkpoint) in
      let count = ap length is ∙ length-take-le last.committed last.objects h.keeps.within in
      let all = length-objects q u.entries in record {
        same = λ n le.
            ap (take n) is
            ∙ take-take n last.committed last.objects (omega (arith, le, more))
            ∙ first-stay last h.keeps n le;
        committed = omega (arith, more, count, all, settled);
      }

-- so what the stream was opened on is what it was
pub opened-stays : (o : Opened) (p q : Cells) (t u : View) → o.objects ≤ t.committed
    → CommittedStay p t q u → opened_in o q u ≡ opened_in o p t
opened-stays o p q t u le stay =
    ap (λ (os : List Object). record { objects = os; refs = o.refs }) (stay.same o.objects le)
