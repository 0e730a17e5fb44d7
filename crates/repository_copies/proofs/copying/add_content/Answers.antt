use Rattle.std.proofs.Common.{ap, ◌∙◌}
use Rattle.git_model.specs.declared.kind.Kind.{Kind}
use Rattle.git_model.specs.Content.{content_from}
use Rattle.repository_copies.proofs.copying.add_content.Goals as goal

pub returns-in-Blob : goal.returns-in-Blob
returns-in-Blob g c good lt told are whole =
    rw c.in-Blob.is (c.add.ensures g.N.Naming.digest_of c.args.objects.now good lt are)

pub returns-in-Tag : goal.returns-in-Tag
returns-in-Tag g c good lt told are whole =
    rw c.in-Tag.is (c.add-in-Tag.ensures g.N.Naming.digest_of c.args.objects.now good lt are)

pub returns-in-Commit : goal.returns-in-Commit
returns-in-Commit g c good lt told are whole =
    rw c.in-Commit.is (c.add_commit.ensures good lt
    (told ∙ ap (λ (kind : Kind). content_from kind c.args.contents.now) c.in-Commit.is) are whole)
