use Rattle.std.proofs.Common.{◌≡◌, ◌++◌, sym, subst}
use Rattle.std.specs.Prelude.{All, OnOk}
use Rattle.std.proofs.lemmas.List.Elements.{All-head}
use Rattle.git_model.specs.declared.kind.Kind.{Kind}
use Rattle.git_model.specs.declared.kind.Kind.TheVariants as kind
use Rattle.git_model.specs.CommitReading.{commit_read}
use Rattle.git_model.specs.GoodRepository.{IsValid, StandsBefore}
use Rattle.git_model.specs.References.{reference, references_of}
use Rattle.export_text.specs.ItemText.{items_text}
use Rattle.export_text.specs.ExportItems.{items_of}
use Rattle.export_text.proofs.Again.{on-ok, still-told}
use Rattle.export_text.proofs.object_text.append_content.Goals as goal

pub returns-in-Commit-clause-written : goal.returns-in-Commit-clause-written
returns-in-Commit-clause-written g c = λ place good told valid connected.
    let v : IsValid c.args.objects.now kind.Commit c.args.contents.now =
    subst (λ (k : Kind). IsValid c.args.objects.now k c.args.contents.now) c.in-Commit.is valid in
    let all : All (StandsBefore c.args.objects.now place) (references_of kind.Commit c.args.contents.now) =
    subst (λ (k : Kind). All (StandsBefore c.args.objects.now place) (references_of k c.args.contents.now)) c.in-Commit.is connected in
    subst (λ (k : Kind). OnOk c.append_commit.result (c.append_commit.new.out.items
    ≡ c.args.out.now.items ++ items_text (items_of c.args.objects.now c.args.id k c.args.contents.now))) (sym c.in-Commit.is)
    (c.append_commit.ensures.written good told v.0 v.1.writable v.1.contents
    (All-head (StandsBefore c.args.objects.now place) (reference kind.Tree (commit_read c.args.contents.now).tree) _ all).kind)

pub returns-in-Blob-clause-in_mind : goal.returns-in-Blob-clause-in_mind
returns-in-Blob-clause-in_mind g c = λ good told.
    on-ok c.append_blob.result (still-told c.args.objects.now c.args.out.now.items c.append_blob.new.out.items c.args.told.now
    c.append_blob.ensures.kept told)

pub returns-in-Tag-clause-in_mind : goal.returns-in-Tag-clause-in_mind
returns-in-Tag-clause-in_mind g c = λ good told.
    on-ok c.append_tag.result (still-told c.args.objects.now c.args.out.now.items c.append_tag.new.out.items c.args.told.now
    c.append_tag.ensures.kept told)
