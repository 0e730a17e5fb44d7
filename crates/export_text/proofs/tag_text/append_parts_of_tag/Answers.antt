use Rattle.std.proofs.Common.{[], ◌∷◌, ◌++◌, codes}
use Rattle.std.specs.Option.{option_copied}
use Rattle.std.proofs.lemmas.Result.{on_ok_weaker}
use Rattle.stream_lex.specs.Items.{Line, Data}
use Rattle.export_text.specs.ExportItems.{line_if, mark_if, marked}
use Rattle.export_text.proofs.Pieces.{five, kept_five, kept_four, kept_thrice, kept_twice}
use Rattle.export_text.proofs.tag_text.append_parts_of_tag.Goals as goal

pub returns-clause-written : goal.returns-clause-written
returns-clause-written g c =
    on_ok_weaker c.append_data.result
    (λ last. five c.args.out.now.items c.append_line.new.out.items c.append_mark_if.new.out.items
    c.append_marked.new.out.items c.append_line_if.new.out.items c.append_data.new.out.items
    (Line (codes "tag " ++ c.args.parts.now.name.now) ∷ []) (mark_if c.args.objects.now c.args.id)
    (marked c.args.objects.now (codes "from ") c.args.parts.now.target ∷ [])
    (line_if (codes "tagger ") (option_copied c.args.parts.now.tagger)) (Data c.args.parts.now.message.now ∷ [])
    c.in_ok-append_line.ensures.written c.in_ok-append_mark_if.ensures.written c.in_ok-append_marked.ensures.written
    c.in_ok-append_line_if.ensures.written last)
    c.append_data.ensures.written
