use Rattle.std.proofs.Common.{subst, sym, rules}
use Rattle.stream_commands.specs.Held.{FilesStand}
use Rattle.stream_commands.specs.State.{workspace_in}
use Rattle.import_session.specs.Session.{SessionView}
use Rattle.import_session.specs.Sound.{IsSound}
use Rattle.import_session.specs.Stream.{session_end}
use Rattle.import_session.proofs.session.Session.finish.Goals as goal

pub save_at_end-requires-clause-held : goal.save_at_end-requires-clause-held
save_at_end-requires-clause-held g c =
    subst (λ (k : SessionView). FilesStand g.N.Naming.digest_of k.state c.args.pool.now c.args.table.now)
    (sym c.self.view_is) c.requires.held

pub returns-clause-ended : goal.returns-clause-ended
unfolding session_end
returns-clause-ended g c sound =
    let here = subst (λ (k : SessionView). IsSound g.N.Naming.digest_of
    (workspace_in k.state c.args.pool.now c.args.table.now c.args.refs.now)) (sym c.self.view_is)
    sound in
    let saved = c.save_at_end.ensures.saved here in
    search rules

pub returns-then-self-2-clause-ended : goal.returns-then-self-2-clause-ended
unfolding session_end
returns-then-self-2-clause-ended g c sound = search rules
