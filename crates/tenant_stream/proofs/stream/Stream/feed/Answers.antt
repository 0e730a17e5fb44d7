use Rattle.std.proofs.Common.{refl, sym, ap, ◌∙◌}
use Rattle.std.proofs.lemmas.Bool.{false≢true}
use Rattle.session_laws.proofs.SoundLemmas.{checkpoint_is_sound}
use Rattle.tenant_stream.specs.Carrying.{StreamView}
use Rattle.tenant_stream.proofs.CarryLemmas.{unfed_feeds}
use Rattle.tenant_stream.proofs.SoundLemmas.{carries_sound, sound_as}
use Rattle.tenant_stream.proofs.stream.Stream.feed.Goals as goal

pub returns-then-is_done-clause-feeds : goal.returns-then-is_done-clause-feeds
returns-then-is_done-clause-feeds g c sound = record {
  ignored = λ done. (refl, refl);
  taken = λ running.
      absurd (false≢true (sym running ∙ sym c.is_done.ensures ∙ c.if-is_done.true));
}

pub returns-in-Err-clause-feeds : goal.returns-in-Err-clause-feeds
returns-in-Err-clause-feeds g c =
    let running = ap (λ (b : StreamView). b.session.is_done) c.self.view_is
    ∙ sym c.is_done.ensures ∙ c.if-is_done.false in
    rw (c.unfed.ensures, ← c.self.view_is)
    (λ sound. unfed_feeds _ _ _ _ _ running c.in-Err.ensures.fault)

pub returns-in-Err-clause-sound : goal.returns-in-Err-clause-sound
returns-in-Err-clause-sound g c sound =
    checkpoint_is_sound _ _ (sound_as _ _ _ _ _ _ c.self.view_is sound)

pub returns-clause-feeds : goal.returns-clause-feeds
returns-clause-feeds g c =
    let running = ap (λ (b : StreamView). b.session.is_done) c.self.view_is
    ∙ sym c.is_done.ensures ∙ c.if-is_done.false in
    rw (← c.self.view_is)
    (λ sound. record {
      ignored = λ done. absurd (false≢true (sym running ∙ done));
      taken = λ _. rw (← c.in_default.ensures.ok) (c.carry.ensures.carries sound);
    })

pub returns-clause-sound : goal.returns-clause-sound
returns-clause-sound g c sound =
    let inside = sound_as _ _ _ c.args.pool.now c.args.table.now c.args.refs.now c.self.view_is sound in
    carries_sound _ g.met.N.Naming.answers_names _ _ _ (c.carry.ensures.carries inside) inside
