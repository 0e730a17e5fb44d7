use Rattle.std.proofs.Common.{sym, subst}
use Rattle.git_model.specs.Repository.{Repository}
use Rattle.import_session.specs.Sound.{IsSoundRepository}
use Rattle.tenant_stream.proofs.SoundLemmas.{ended_sound, sound_as}
use Rattle.tenant_stream.proofs.stream.Stream.finish.Goals as goal

pub returns-clause-ended : goal.returns-clause-ended
returns-clause-ended g c =
    rw (← c.stream.view_is, c.abandon.ensures.left) c.end-ended.ensures.ended

pub returns-clause-sound : goal.returns-clause-sound
returns-clause-sound g c sound =
    let inside = sound_as _ _ _ c.args.pool.now c.args.table.now c.args.refs.now c.stream.view_is sound in
    subst (λ (r : Repository). IsSoundRepository g.N.Naming.digest_of r) (sym c.abandon.ensures.left)
    (ended_sound _ g.met.N.Naming.answers_names _ _ _ _ (c.end-ended.ensures.ended inside) inside)
