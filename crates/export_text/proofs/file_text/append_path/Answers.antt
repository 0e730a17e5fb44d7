use Rattle.std.proofs.Common.{List, ℕ, ◌++◌, take, sym, ap, ◌∙◌}
use Rattle.std.proofs.lemmas.List.{take_at}
use Rattle.git_paths.specs.Quoting.{quoted}
use Rattle.export_text.proofs.file_text.append_path.Goals as goal

pub returns-clause-written : goal.returns-clause-written
returns-clause-written c =
    c.in_ok-quote_into.ensures.ok
    ∙ ap (λ (path : List ℕ). c.args.out.now.items ++ quoted path)
    (c.deref.ensures.value ∙ c.in_ok-extend_from_slice.ensures.items)

pub returns-clause-prefix : goal.returns-clause-prefix
returns-clause-prefix c =
    c.truncate.ensures.items ∙ ap (take c.len-above.result) c.in_ok-extend_from_slice.ensures.items
    ∙ take_at c.args.prefix.now.items c.args.name.now c.len-above.result
    (sym (c.len-above.ensures ∙ c.args.prefix.now.ok.0))
