use Rattle.std.proofs.Common.{ℕ, ap, ◌∙◌, sym}
use Rattle.std.specs.List.{remove}
use Rattle.tree_build.specs.Nodes.{shape_of}
use Rattle.tree_build.proofs.Named.{IsFound, shape_remove, entry_found, name_lacks}
use Rattle.tree_build.proofs.names.remove.Goals as goal
use Rattle.tree_build.proofs.names.remove.Goals.{After-remove}

-- the entry of the name
entry : (c : After-remove) → IsFound c.args.name.now c.args.entries.now.items c.in-Some.place c.remove.result
entry c =
    entry_found c.args.name.now c.args.entries.now.items c.in-Some.place (sym c.place_of.ensures ∙ c.in-Some.is)
    c.remove.result c.remove.ensures.value

pub returns-in-Some-clause-entries : goal.returns-in-Some-clause-entries
returns-in-Some-clause-entries c =
    ap shape_of c.remove.ensures.items
    ∙ ap (λ (k : ℕ). shape_of (remove c.args.entries.now.items k)) (sym (entry (goal.at.returns-in-Some-clause-entries c).After-remove).first)
    ∙ shape_remove c.args.name.now c.args.entries.now.items

pub returns-in-Some-clause-node : goal.returns-in-Some-clause-node
returns-in-Some-clause-node c = sym (entry (goal.at.returns-in-Some-clause-node c).After-remove).stands

pub returns-in-None-clause-entries : goal.returns-in-None-clause-entries
returns-in-None-clause-entries c =
    sym (name_lacks c.args.name.now c.args.entries.now.items (sym c.place_of.ensures ∙ c.in-None.is)).1

pub returns-in-None-clause-node : goal.returns-in-None-clause-node
returns-in-None-clause-node c =
    sym (name_lacks c.args.name.now c.args.entries.now.items (sym c.place_of.ensures ∙ c.in-None.is)).0
