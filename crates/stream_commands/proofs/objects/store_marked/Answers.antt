use Rattle.std.proofs.Common.{ap, ◌∙◌}
use Rattle.git_model.specs.declared.kind.Kind.TheVariants as kind
use Rattle.git_model.specs.Content.{content_from}
use Rattle.tenant_tables.specs.Objects.{objects}
use Rattle.stream_parts.specs.Marks.{Marks, with_mark}
use Rattle.stream_commands.specs.Objects.{object_stored}
use Rattle.stream_commands.proofs.ActLemmas.{blob_carried}
use Rattle.stream_commands.proofs.HeldLemmas.{files_grown}
use Rattle.stream_commands.proofs.objects.store_marked.Goals as goal

pub returns-clause-done : goal.returns-clause-done
unfolding object_stored
returns-clause-done g c state refs out holds =
    blob_carried g.N.Naming.digest_of (content_from kind.Blob c.args.contents.now) c.args.mark
    c.in_ok-id.id state c.args.marks.now.entries c.set.new.marks.entries c.args.pool.now
    c.args.table.now c.store.new.pool c.store.new.table refs out c.in_ok-make_room.ensures.room
    c.in_ok-id.ensures.stores
    (c.set.ensures ∙ ap (λ (marks : Marks). with_mark marks c.args.mark kind.Blob c.in_ok-id.id)
    c.make_room.ensures.same) holds

pub returns-clause-held : goal.returns-clause-held
returns-clause-held g c state holds =
    files_grown g.N.Naming.digest_of (content_from kind.Blob c.args.contents.now)
    (objects c.args.pool.now c.args.table.now.entries)
    (objects c.store.new.pool c.store.new.table.entries) c.in_ok-id.ensures.stores.objects state holds
