use Rattle.tenant_tables.specs.Objects.{objects}
use Rattle.stream_commands.specs.State.{state_shown}
use Rattle.stream_commands.proofs.HeldLemmas.{still_held}
use Rattle.stream_commands.proofs.objects.carry_out_object.Goals as goal

pub returns-in-Blob-clause-done : goal.returns-in-Blob-clause-done
returns-in-Blob-clause-done g c out good =
    rw c.in-Blob.is (c.store_marked.ensures.done (state_shown c.args.state.now) c.args.refs.now out
    c.requires.held)

pub returns-in-Blob-clause-held : goal.returns-in-Blob-clause-held
returns-in-Blob-clause-held g c =
    let state = state_shown c.args.state.now in
    still_held c.store_marked.result g.N.Naming.digest_of
    (objects c.store_marked.new.pool c.store_marked.new.table.entries) state _
    (λ digest os holds. record { command = holds.command; kept = holds.kept; chain = holds.chain }) (c.store_marked.ensures.held state c.requires.held)

pub returns-in-BeginTag-clause-held : goal.returns-in-BeginTag-clause-held
returns-in-BeginTag-clause-held g c =
    still_held c.begin_tag.result g.N.Naming.digest_of (objects c.args.pool.now c.args.table.now.entries)
    (state_shown c.args.state.now) (state_shown c.begin_tag.new.state) c.begin_tag.ensures.files c.requires.held

pub returns-in-TagTarget-clause-held : goal.returns-in-TagTarget-clause-held
returns-in-TagTarget-clause-held g c =
    still_held c.say_target.result g.N.Naming.digest_of (objects c.args.pool.now c.args.table.now.entries)
    (state_shown c.args.state.now) (state_shown c.say_target.new.state) c.say_target.ensures.files c.requires.held

pub returns-in-Tagger-clause-held : goal.returns-in-Tagger-clause-held
returns-in-Tagger-clause-held g c =
    still_held c.say_tagger.result g.N.Naming.digest_of (objects c.args.pool.now c.args.table.now.entries)
    (state_shown c.args.state.now) (state_shown c.say_tagger.new.state) c.say_tagger.ensures.files c.requires.held

pub returns-in-BeginTag-clause-done : goal.returns-in-BeginTag-clause-done
returns-in-BeginTag-clause-done g c out good =
    rw c.in-BeginTag.is (c.begin_tag.ensures.done g.N.Naming.digest_of c.args.pool.now c.args.table.now out)

pub returns-in-TagTarget-clause-done : goal.returns-in-TagTarget-clause-done
returns-in-TagTarget-clause-done g c out good =
    rw c.in-TagTarget.is (c.say_target.ensures.done g.N.Naming.digest_of c.args.pool.now c.args.table.now out)

pub returns-in-Tagger-clause-done : goal.returns-in-Tagger-clause-done
returns-in-Tagger-clause-done g c out good =
    rw c.in-Tagger.is (c.say_tagger.ensures.done g.N.Naming.digest_of c.args.pool.now c.args.table.now out)

pub returns-in-Tag-clause-done : goal.returns-in-Tag-clause-done
returns-in-Tag-clause-done g c out good = rw c.in-Tag.is (c.store_tag.ensures.done out good)
