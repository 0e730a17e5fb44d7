use Rattle.std.proofs.Common.{[], ◌∷◌, ◌++◌, codes, ap, ◌∙◌}
use Rattle.std.specs.Option.{option_copied}
use Rattle.std.proofs.lemmas.Result.{on_ok_weaker}
use Rattle.stream_lex.specs.Items.{Line}
use Rattle.export_text.specs.ItemText.{items_text}
use Rattle.export_text.specs.ExportItems.{fresh_branch, line_if, marked, scratch}
use Rattle.export_text.proofs.Pieces.{two, five, kept_five, kept_four, kept_six, kept_thrice, kept_twice}
use Rattle.export_text.proofs.commit_text.append_head.Goals as goal

pub returns-clause-written : goal.returns-clause-written
returns-clause-written g c =
    let parts = c.args.parts.now in
    on_ok_weaker c.append_line_if.result
    (λ last. two c.args.out.now.items c.append_fresh_branch.new.out.items c.append_line_if.new.out.items
    (fresh_branch c.args.parts.now.ancestors.items)
    (Line (codes "commit " ++ scratch) ∷ marked c.args.objects.now (codes "mark ") c.args.id.now
    ∷ Line (codes "author " ++ c.args.parts.now.author.now) ∷ Line (codes "committer " ++ c.args.parts.now.committer.now)
    ∷ line_if (codes "encoding ") (option_copied c.args.parts.now.encoding))
    (c.in_ok-append_fresh_branch.ensures.written
    ∙ ap (λ ps. c.args.out.now.items ++ items_text (fresh_branch ps)) c.deref.ensures.value)
    (five c.append_fresh_branch.new.out.items c.append_line.new.out.items c.append_marked.new.out.items
    c.append_line-2.new.out.items c.append_line-3.new.out.items c.append_line_if.new.out.items
    (Line (codes "commit " ++ scratch) ∷ []) (marked c.args.objects.now (codes "mark ") c.args.id.now ∷ [])
    (Line (codes "author " ++ c.args.parts.now.author.now) ∷ []) (Line (codes "committer " ++ c.args.parts.now.committer.now) ∷ [])
    (line_if (codes "encoding ") (option_copied c.args.parts.now.encoding))
    c.in_ok-append_line.ensures.written c.in_ok-append_marked.ensures.written c.in_ok-append_line-2.ensures.written
    c.in_ok-append_line-3.ensures.written last))
    c.append_line_if.ensures.written
