use Rattle.std.proofs.Common.{codes, ap, ◌∙◌, ◌∷◌, ◌++◌}
use Rattle.std.specs.Option.{option_copied}
use Rattle.std.proofs.lemmas.Result.{on_ok_weaker}
use Rattle.git_model.specs.Kind.{kind_word}
use Rattle.git_model.specs.Commit.{line, name_line, optional_line}
use Rattle.git_objects.proofs.Kept.{five_appended}
use Rattle.git_objects.proofs.tag.append_tag.Goals as goal

pub returns-clause-written : goal.returns-clause-written
returns-clause-written c =
    on_ok_weaker c.append_end.result
    (λ last. five_appended
    c.args.contents.now.items c.append_name_line.new.contents.items c.append_line.new.contents.items c.append_line-2.new.contents.items c.append_end.new.contents.items
    (name_line (codes "object ") c.args.parts.now.target) (line (codes "type ") (kind_word c.args.parts.now.kind)) (line (codes "tag ") c.args.parts.now.name.now) (optional_line (codes "tagger ") (option_copied c.args.parts.now.tagger)) (10 ∷ c.args.parts.now.message.now)
    c.in_ok-append_name_line.ensures.written (c.in_ok-append_line.ensures.written ∙ ap (λ word. c.append_name_line.new.contents.items ++ line (codes "type ") word) c.kind_word.ensures) c.in_ok-append_line-2.ensures.written last)
    c.append_end.ensures.written
