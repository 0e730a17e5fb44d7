use Rattle.stream_commands.specs.State.{state_shown}
use Rattle.stream_commands.proofs.HeldLemmas.{still_held}
use Rattle.stream_commands.proofs.refs.carry_out_ref.Goals as goal

pub returns-in-Reset-clause-done : goal.returns-in-Reset-clause-done
returns-in-Reset-clause-done g c out committed good =
    rw c.in-Reset.is (c.reset.ensures.done c.args.objects.now committed out)

pub returns-in-Reset-clause-held : goal.returns-in-Reset-clause-held
returns-in-Reset-clause-held g c =
    still_held c.reset.result g.N.Naming.digest_of c.args.objects.now (state_shown c.args.state.now)
    (state_shown c.reset.new.state) c.reset.ensures.files c.requires.held

pub returns-in-ResetFrom-clause-done : goal.returns-in-ResetFrom-clause-done
returns-in-ResetFrom-clause-done g c out committed good =
    rw c.in-ResetFrom.is (c.reset_to.ensures.done out committed good)

pub returns-in-Alias-clause-done : goal.returns-in-Alias-clause-done
returns-in-Alias-clause-done g c out committed good =
    rw c.in-Alias.is (c.alias.ensures.done out committed good)
