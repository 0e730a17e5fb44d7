use Rattle.std.proofs.Common.{◌≡◌, ap, subst, sym, true, ◌∙◌, rules}
use Rattle.std.specs.Prelude.{is_ok}
use Rattle.git_model.specs.Content.{name_by}
use Rattle.tenant_tables.specs.Objects.{objects}
use Rattle.stream_parts.specs.OpenCommand.{Nothing}
use Rattle.stream_parts.specs.Tags.{tag_content}
use Rattle.stream_commands.specs.declared.open_command.OpenCommand.{OpenCommand as LentCommand}
use Rattle.stream_commands.specs.Held.{HoldsFiles}
use Rattle.stream_commands.specs.Objects.{object_stored}
use Rattle.stream_commands.specs.State.{command_shown, state_shown, state_with, workspace_in}
use Rattle.stream_commands.proofs.HeldLemmas.{files_grown}
use Rattle.stream_commands.proofs.TagLemmas.{tag_kept, tag_left, tag_not_stored, tag_refused}
use Rattle.stream_commands.proofs.tags.store_tag.Goals as goal

pub returns-in-Err-clause-done : goal.returns-in-Err-clause-done
unfolding object_stored
returns-in-Err-clause-done g c out good =
    let w = workspace_in (state_shown c.args.state.now) c.args.pool.now c.args.table.now
    c.args.refs.now in
    rw (sym c.take.ensures.taken, c.in-Tag.is)
    (tag_refused g.N.Naming.digest_of c.args.mark c.args.message.now c.in-Tag.header w
    (workspace_in (state_shown c.tagged.new.state) c.args.pool.now c.args.table.now c.args.refs.now) out
    c.in-Err.fault ((rw c.of-objects.ensures at c.in-Err.ensures.tagged) c.args.table.now.committed good))

pub returns-in-Err-stored-clause-done : goal.returns-in-Err-stored-clause-done
unfolding object_stored
returns-in-Err-stored-clause-done g c out good =
    let w = workspace_in (state_shown c.args.state.now) c.args.pool.now c.args.table.now
    c.args.refs.now in
    rw (sym c.take.ensures.taken, c.in-Tag.is)
    (tag_not_stored g.N.Naming.digest_of c.args.mark c.args.message.now c.in-Tag.header w
    (workspace_in (state_shown c.tagged.new.state) c.store_written-stored.new.pool
    c.store_written-stored.new.table c.args.refs.now) out c.in-Err-stored.fault c.in-Ok.tagged.0 c.in-Ok.tagged.1
    ((rw c.of-objects.ensures at c.in-Ok.ensures.tagged) c.args.table.now.committed good) c.in-Err-stored.ensures.stores.refused)

pub returns-clause-done : goal.returns-clause-done
unfolding object_stored
returns-clause-done g c out good =
    let digest = g.N.Naming.digest_of in
    let state = state_shown c.args.state.now in
    let header = c.in-Tag.header in
    let w = workspace_in state c.args.pool.now c.args.table.now c.args.refs.now in
    let pool = c.store_written-stored.new.pool in
    let table = c.store_written-stored.new.table in
    let target = c.in-Ok.tagged.0 in
    let kind = c.in-Ok.tagged.1 in
    let tag = tag_content header c.args.message.now target kind in
    let stored = c.in-Ok-stored.ensures.stores in
    let now = record state { chain = c.tagged.new.state.chain } in
    let left : state_shown c.tagged.new.state ≡ state_with now Nothing =
    c.tagged.ensures.same
    ∙ ap (λ (command : LentCommand). state_with now (command_shown command)) c.take.ensures.after in
    let pushed : is_ok c.push.result ≡ true = search rules in
    let tags = rw pushed at c.push.ensures.items in
    rw (sym c.take.ensures.taken, c.in-Tag.is)
    (tag_kept digest c.args.mark c.args.message.now header w _ out target kind
    (objects pool table.entries) ((rw c.of-objects.ensures at c.in-Ok.ensures.tagged) c.args.table.now.committed good) stored.objects
    (tag_left now (state_shown c.tagged.new.state) c.args.mark header.ref_name c.in-Ok-stored.id
    (name_by digest tag) c.set.new.marks.entries c.push.new.self.items c.args.pool.now
    c.args.table.now pool table c.args.refs.now left c.set.ensures tags
    stored.name stored.committed))

pub returns-clause-held : goal.returns-clause-held
returns-clause-held g c =
    let state = state_shown c.args.state.now in
    let more = objects c.store_written-stored.new.pool c.store_written-stored.new.table.entries in
    let tag = tag_content c.in-Tag.header c.args.message.now c.in-Ok.tagged.0 c.in-Ok.tagged.1 in
    let now = record state { chain = c.tagged.new.state.chain } in
    let left : state_shown c.tagged.new.state ≡ state_with now Nothing =
    c.tagged.ensures.same
    ∙ ap (λ (command : LentCommand). state_with now (command_shown command)) c.take.ensures.after in
    let grown = files_grown g.N.Naming.digest_of tag
    (objects c.args.pool.now c.args.table.now.entries) more c.in-Ok-stored.ensures.stores.objects
    (state_with now Nothing)
    (record { command = tt; kept = c.requires.held.kept; chain = rw c.of-objects.ensures at c.tagged.ensures.chain }) in
    let stands = subst (HoldsFiles g.N.Naming.digest_of more) (sym left) grown in
    record { command = stands.command; kept = stands.kept; chain = stands.chain }
