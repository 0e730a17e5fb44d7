-- A tenant whose stream was fed a piece.
use Rattle.std.proofs.Common.{◌≡◌, ◌≤◌, ℕ, List, [], length, None, Some, Result, Ok, Err}
use Rattle.std.proofs.Math.Nat.{le_trans}
use Rattle.git_model.specs.RefStore.{RefStore}
use Rattle.content_pool.specs.Pool.{Cells}
use Rattle.tenant_tables.specs.View.{View}
use Rattle.tenant_tables.specs.IsBackedBy.{IsBackedBy}
use Rattle.import_session.specs.Session.{repository_in}
use Rattle.import_session.specs.Stream.{last_checkpoint}
use Rattle.import_session.specs.Sound.{IsSound}
use Rattle.service_steps.specs.declared.answer.Answer.TheVariants as answer
use Rattle.tenant_stream.specs.declared.stream_error.StreamError.{StreamError}
use Rattle.tenant_stream.specs.declared.stream_error.StreamError.TheVariants as stop
use Rattle.tenant_stream.specs.Carrying.{Feeds, Held, StreamView, held_with}
use Rattle.tenant_service.specs.declared.opened.Opened.{Opened}
use Rattle.tenant_service.specs.declared.tenant.OpenStream.TheVariants as phase
use Rattle.tenant_service.specs.declared.tenant.Tenant.{Tenant}
use Rattle.tenant_service.specs.Alone.{Feed, out_of_memory}
use Rattle.tenant_service.specs.HeldSteps.{step_held}
use Rattle.tenant_service.specs.OneStep.{Takes}
use Rattle.tenant_service.specs.Opening.{CommittedStay, opened_in}
use Rattle.tenant_service.specs.Soundness.{IsSoundTenantState}
use Rattle.tenant_service.specs.TenantState.{Busy}
use Rattle.tenant_service.specs.Tenants.{Stands, holding_in, kept_tail, standing_in}
use Rattle.tenant_service.proofs.OpenedLemmas.{committed-stay, fed-keeps, is-within, opened-stays, rolled-stay, stopped-keeps}
use Rattle.tenant_service.proofs.SoundLemmas.{sound-running}
use Rattle.tenant_service.proofs.TenantLemmas.{took-fed, took-refused, took-stopped}

module _ (digest : List ℕ → List ℕ) (p : Cells) (t : Tenant) (o : Opened) (s : StreamView)
    (is : t.phase ≡ phase.Running o s) (stands : Stands digest p t)
    (within : t.table.committed ≤ length t.table.entries)
    (sound : IsSoundTenantState digest (holding_in p t)) (piece out : List ℕ) where
  -- what the stream held
  abbrev before : Held
  before = held_with s p t.table t.refs out

  -- what came of the piece
  abbrev Fed : Result Unit StreamError → Held → Type 0
  Fed result after = IsSound digest before.running.workspace → Feeds digest before piece result after

  known : IsSound digest before.running.workspace
  known = sound-running digest t.phase o s p t.table t.refs is sound

  was-opened : o.objects ≤ t.table.committed
  was-opened = rw is at stands.opened

  -- it was taken
  module _ (s' : StreamView) (q : Cells) (u : View) (v : RefStore) (out' : List ℕ)
      (fed : Fed (Ok tt) (held_with s' q u v out')) where
    stay : CommittedStay p t.table q u
    stay =
        committed-stay s p t.table t.refs within s' q u v
        (fed-keeps digest before piece (held_with s' q u v out')
        (is-within s p t.table t.refs within) (fed known))

    pub fed-opened : o.objects ≤ u.committed
    fed-opened = le_trans was-opened stay.committed

    pub fed-own : Takes (step_held digest (Feed piece) None (holding_in p t)) answer.Ok out out'
        (Busy (opened_in o q u) (standing_in s' q u v))
    unfolding kept_tail
    fed-own =
        rw (is, opened-stays o p q t.table u was-opened stay)
        (took-fed digest (opened_in o p t.table) before piece (held_with s' q u v out') (fed known))

  -- the stream stopped and died, and the tenant was rolled back
  module _ (e : StreamError) (after : Held) (fed : Fed (Err e) after) (q : Cells) (new : Tenant)
      (settled : new.table.committed ≡ length new.table.entries)
      (left : repository_in q new.table new.refs ≡ last_checkpoint after.running.workspace) where
    rolled : CommittedStay p t.table q new.table
    rolled =
        rolled-stay s p t.table t.refs within after.running.workspace q new.table new.refs
        (stopped-keeps digest before piece after (is-within s p t.table t.refs within) e
        (fed known)) left settled

    pub dead-stands : (code : ℕ) → new.phase ≡ phase.Dead o code
        → IsBackedBy digest q new.table.entries → new.chain ≡ [] → Stands digest q new
    dead-stands code dead entries none = record {
      entries = entries;
      settled = rw dead settled;
      opened = rw dead (le_trans was-opened rolled.committed);
      files = rw dead tt;
      chain = rw none tt;
    }

    same : opened_in o q new.table ≡ opened_in o p t.table
    same = opened-stays o p q t.table new.table was-opened rolled

    pub refused-own : (code : ℕ) → new.phase ≡ phase.Dead o code → e ≡ stop.Fault code
        → Takes (step_held digest (Feed piece) None (holding_in p t)) (answer.Fault code) out
        after.out (holding_in q new)
    unfolding kept_tail
    refused-own code dead refused =
        rw (is, dead, same, left)
        (took-refused digest (opened_in o p t.table) before piece code after
        (rw refused at (fed known)))

    pub stopped-own : (count : ℕ) → new.phase ≡ phase.Dead o out_of_memory
        → e ≡ stop.Memory count
        → Takes (step_held digest (Feed piece) (Some count) (holding_in p t)) (answer.Memory count)
        out after.out (holding_in q new)
    unfolding kept_tail
    stopped-own count dead ran_out =
        rw (is, dead, same, left)
        (took-stopped digest (opened_in o p t.table) before piece count after
        (rw ran_out at (fed known)))
