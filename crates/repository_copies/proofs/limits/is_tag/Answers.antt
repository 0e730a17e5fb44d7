use Rattle.std.proofs.Common.{sym, ap, ◌∙◌}
use Rattle.git_model.specs.Content.{content_from}
use Rattle.commit_walk.proofs.CommitsAt.{nothing_told, object_told}
use Rattle.export_text.specs.Reached.{is_tag}
use Rattle.repository_copies.proofs.limits.is_tag.Goals as goal

pub returns-in-Some : goal.returns-in-Some
returns-in-Some g c lt =
    c.is_tag_kind.ensures
    ∙ sym (ap is_tag (object_told c.args.objects.now c.args.place
    (record { id = c.in-Some.field-0-0; content = content_from c.in-Some.kind c.in-Some.field-0-2.now }) c.in-Some.ensures))

pub returns-in-None : goal.returns-in-None
returns-in-None g c lt = absurd (nothing_told c.args.objects.now c.args.place c.in-None.ensures lt)
