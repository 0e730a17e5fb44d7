use Rattle.std.proofs.Common.{◌≡◌, ℕ, List, slice_get, ap, ◌∙◌}
use Rattle.git_model.specs.Commit.{Commit}
use Rattle.git_model.specs.CommitReading.{commit_read}
use Rattle.git_objects.specs.Parts.{commit_of}
use Rattle.revisions.proofs.contents.parent_in.Goals as goal

pub returns-then-position-eq0 : goal.returns-then-position-eq0
returns-then-position-eq0 c = λ readable.
    rw c.if-position-eq0.true (c.first_parent_in.ensures readable)

pub returns-in-Some : goal.returns-in-Some
returns-in-Some c = λ readable.
    let read : commit_of c.in-Some.parts ≡ commit_read c.args.contents.now =
    (rw c.in-Some.is at c.in_ok-parts.ensures).1 in
    c.name_at.ensures ∙ ap (λ (names : List (List ℕ)). slice_get names c.args.position) c.deref.ensures.value
    ∙ ap (λ (told : Commit). slice_get told.parents c.args.position) read

pub returns-in-None : goal.returns-in-None
returns-in-None c = λ readable. absurd ((rw c.in-None.is at c.in_ok-parts.ensures) readable)
