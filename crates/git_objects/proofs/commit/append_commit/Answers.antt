use Rattle.std.proofs.Common.{codes, ap, ◌∙◌, ◌∷◌, ◌++◌}
use Rattle.std.specs.List.{flat_map}
use Rattle.std.specs.Option.{option_copied}
use Rattle.std.proofs.lemmas.Result.{on_ok_weaker}
use Rattle.git_model.specs.Commit.{line, name_line, optional_line}
use Rattle.git_objects.proofs.Kept.{six_appended}
use Rattle.git_objects.proofs.commit.append_commit.Goals as goal

pub returns-clause-written : goal.returns-clause-written
returns-clause-written c =
    on_ok_weaker c.append_end.result
    (λ last. six_appended
    c.args.contents.now.items c.append_name_line.new.contents.items c.append_parents.new.contents.items c.append_line.new.contents.items c.append_line-2.new.contents.items c.append_end.new.contents.items
    (name_line (codes "tree ") c.args.parts.now.tree) (flat_map (name_line (codes "parent ")) c.args.parts.now.ancestors.items) (line (codes "author ") c.args.parts.now.author.now) (line (codes "committer ") c.args.parts.now.committer.now) (optional_line (codes "encoding ") (option_copied c.args.parts.now.encoding)) (10 ∷ c.args.parts.now.message.now)
    c.in_ok-append_name_line.ensures.written (c.in_ok-append_parents.ensures.written ∙ ap (λ ps. c.append_name_line.new.contents.items ++ flat_map (name_line (codes "parent ")) ps) c.deref.ensures.value) c.in_ok-append_line.ensures.written c.in_ok-append_line-2.ensures.written last)
    c.append_end.ensures.written
