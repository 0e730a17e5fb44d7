use Rattle.std.proofs.Common.{◌++◌, [], ◌∷◌, ap, ◌∙◌}
use Rattle.git_objects.specs.Parts.{commit_of}
use Rattle.export_text.proofs.Standing.{commit-names}
use Rattle.export_text.proofs.referring.names_in_commit.Goals as goal

pub returns : goal.returns
returns c = λ readable.
    c.in_ok-extend_from_slice.ensures.items
    ∙ ap (λ ids. ids ++ c.deref.result.now) (c.in_ok-push.ensures.items ∙ ap (λ ids. ids ++ c.in-Some.parts.tree ∷ []) c.new-ids.ensures.items)
    ∙ ap (λ ids. c.in-Some.parts.tree ∷ ids) c.deref.ensures.value
    ∙ commit-names (commit_of c.in-Some.parts) c.args.contents.now (rw c.in-Some.is at c.in_ok-parts.ensures).1
