use Rattle.std.proofs.Common.{◌≡◌, sym, ap, ◌∙◌}
use Rattle.std.specs.Prelude.{Some, position}
use Rattle.tree_build.specs.declared.dir.Node.{Node}
use Rattle.tree_build.specs.Nodes.{held, has_name}
use Rattle.tree_build.specs.Editing.{has_opened, is_opened}
use Rattle.tree_build.proofs.Named.{entry_found, name_lacks, not_opened}
use Rattle.tree_build.proofs.placing.opened_place.Goals as goal

pub returns-in-Opened : goal.returns-in-Opened
returns-in-Opened c =
    let at : position (has_name c.args.name.now) c.args.entries.now.items ≡ Some c.in-Some.at = sym c.place_of.ensures ∙ c.in-Some.is in
    let found = entry_found c.args.name.now c.args.entries.now.items c.in-Some.at at c.at.result.now c.at.ensures in
    (at, ap has_opened found.stands ∙ ap (λ (n : Node). is_opened (held n).what) c.in-Opened.is)

pub returns-in_default : goal.returns-in_default
returns-in_default c =
    let found = entry_found c.args.name.now c.args.entries.now.items c.in-Some.at (sym c.place_of.ensures ∙ c.in-Some.is)
    c.at.result.now c.at.ensures in
    ap has_opened found.stands ∙ not_opened _ c.in_default.not-Opened

pub returns-in-None : goal.returns-in-None
returns-in-None c =
    ap has_opened (name_lacks c.args.name.now c.args.entries.now.items (sym c.place_of.ensures ∙ c.in-None.is)).0
