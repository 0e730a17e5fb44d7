use Rattle.std.proofs.Common.{[], ◌∷◌, ◌++◌, ap, ◌∙◌, codes}
use Rattle.std.proofs.lemmas.Result.{on_ok_weaker}
use Rattle.stream_lex.specs.Items.{Line}
use Rattle.export_text.specs.ItemText.{items_text}
use Rattle.export_text.specs.Export.{head_items}
use Rattle.export_text.proofs.Pieces.{two, kept_twice}
use Rattle.export_text.proofs.export.append_opening.Goals as goal

pub returns-clause-written : goal.returns-clause-written
returns-clause-written c =
    on_ok_weaker c.append_head.result
    (λ last. two c.args.out.now.items c.append_line.new.out.items c.append_head.new.out.items
    (Line (codes "feature force") ∷ []) (head_items c.args.refs.now.head) c.in_ok-append_line.ensures.written
    (last ∙ ap (λ head. c.append_line.new.out.items ++ items_text (head_items head)) c.head.ensures.head))
    c.append_head.ensures.written
