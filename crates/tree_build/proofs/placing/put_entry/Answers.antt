use Rattle.std.proofs.Common.{ℕ, List, sym, ap, ◌∙◌}
use Rattle.std.proofs.lemmas.Result.{on_ok_weaker}
use Rattle.tree_build.specs.Nodes.{held, shape_of}
use Rattle.tree_build.specs.Editing.{inserted}
use Rattle.tree_build.proofs.Named.{name_lacks}
use Rattle.tree_build.proofs.placing.put_entry.Goals as goal

pub returns-in_ok-new-in-None : goal.returns-in_ok-new-in-None
returns-in_ok-new-in-None c =
    let es = c.args.entries.now.items in
    let lacks = name_lacks c.args.name.now es (sym c.place_of.ensures ∙ c.in-None.is) in
    on_ok_weaker c.insert.result
    (λ is. is ∙ ap (λ (x : List ℕ). inserted x (held c.args.node) (shape_of es)) c.in_ok-new-in-None.ensures
    ∙ ap (inserted c.args.name.now (held c.args.node)) (sym lacks.1))
    c.insert.ensures
