use Rattle.std.proofs.Common.{◌≡◌, ◌++◌, Some, sym, subst}
use Rattle.std.specs.Prelude.{OnOk}
use Rattle.git_model.specs.declared.kind.Kind.TheVariants as kind
use Rattle.git_model.specs.Commit.{Commit}
use Rattle.git_model.specs.CommitReading.{commit_read}
use Rattle.git_model.specs.References.{kind_named}
use Rattle.git_objects.specs.Parts.{commit_of}
use Rattle.export_text.specs.ItemText.{items_text}
use Rattle.export_text.specs.ExportItems.{commit_items}
use Rattle.export_text.proofs.commit_text.append_commit.Goals as goal

pub returns-in-Some-clause-written : goal.returns-in-Some-clause-written
returns-in-Some-clause-written g c = λ good told commit writable is k.
    let read : commit_of c.in-Some.parts ≡ commit_read c.args.contents.now = rw c.in-Some.is at c.in_ok-parts.ensures.read in
    subst (λ (x : Commit). OnOk c.append_parts_of_commit.result (c.append_parts_of_commit.new.out.items
    ≡ c.args.out.now.items ++ items_text (commit_items c.args.objects.now c.args.id.now x))) read
    (c.append_parts_of_commit.ensures.written good told
    (subst (λ (x : Commit). kind_named x.tree c.args.objects.now ≡ Some kind.Tree) (sym read) k))
