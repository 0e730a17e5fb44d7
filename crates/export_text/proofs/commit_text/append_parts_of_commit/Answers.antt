use Rattle.std.proofs.Common.{[], ◌∷◌, ◌++◌, ap, ◌∙◌}
use Rattle.std.proofs.lemmas.Result.{on_ok_weaker}
use Rattle.stream_lex.specs.Items.{Data, Blank}
use Rattle.git_objects.specs.Parts.{commit_of}
use Rattle.export_text.specs.ItemText.{items_text}
use Rattle.export_text.specs.ExportItems.{commit_head, file_items, parent_items}
use Rattle.export_text.proofs.Again.{still-told}
use Rattle.export_text.proofs.Pieces.{five, kept_thrice, kept_five, kept_four, kept_twice}
use Rattle.export_text.proofs.commit_text.append_parts_of_commit.Goals as goal

pub returns-clause-written : goal.returns-clause-written
returns-clause-written g c = λ good told is.
    on_ok_weaker c.append_blank.result
    (λ last. five c.args.out.now.items c.append_head.new.out.items c.append_data.new.out.items c.append_parents.new.out.items
    c.append_all_files.new.out.items c.append_blank.new.out.items
    (commit_head c.args.objects.now c.args.id.now (commit_of c.args.parts.now)) (Data c.args.parts.now.message.now ∷ [])
    (parent_items c.args.objects.now c.args.parts.now.ancestors.items) (file_items c.args.objects.now c.args.parts.now.tree) (Blank ∷ [])
    c.in_ok-append_head.ensures.written c.in_ok-append_data.ensures.written
    (c.in_ok-append_parents.ensures.written
    ∙ ap (λ ps. c.append_data.new.out.items ++ items_text (parent_items c.args.objects.now ps)) c.deref.ensures.value)
    (c.in_ok-append_all_files.ensures.written good
    (still-told c.args.objects.now c.args.out.now.items c.append_parents.new.out.items c.args.told.now
    (kept_thrice c.args.out.now.items c.append_head.new.out.items c.append_data.new.out.items c.append_parents.new.out.items
    c.in_ok-append_head.ensures.kept c.in_ok-append_data.ensures.kept c.in_ok-append_parents.ensures.kept) told) is) last)
    c.append_blank.ensures.written

pub returns-clause-in_mind : goal.returns-clause-in_mind
returns-clause-in_mind g c = λ good told.
    on_ok_weaker c.append_blank.result
    (λ _. still-told c.args.objects.now c.append_all_files.new.out.items c.append_blank.new.out.items
    c.append_all_files.new.told c.append_blank.ensures.kept
    (c.in_ok-append_all_files.ensures.in_mind good
    (still-told c.args.objects.now c.args.out.now.items c.append_parents.new.out.items c.args.told.now
    (kept_thrice c.args.out.now.items c.append_head.new.out.items c.append_data.new.out.items c.append_parents.new.out.items
    c.in_ok-append_head.ensures.kept c.in_ok-append_data.ensures.kept c.in_ok-append_parents.ensures.kept) told)))
    c.append_blank.ensures.written
