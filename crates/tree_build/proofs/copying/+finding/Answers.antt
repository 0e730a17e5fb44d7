use Rattle.std.proofs.Common.{arith, sym, ap, ◌∙◌}
use Rattle.std.specs.Prelude.{Some}
use Rattle.file_maps.specs.FileMap.{Path}
use Rattle.tree_build.specs.Nodes.{held}
use Rattle.tree_build.specs.Moving.{standing}
use Rattle.tree_build.proofs.Copies.{nothing_stands, none_below}
use Rattle.tree_build.proofs.Named.{entry_found, name_lacks}
use Rattle.tree_build.proofs.Searched.{ordered_at}
use Rattle.tree_build.proofs.copying.+finding.Goals as goal

pub find_at-returns-in_default-node : goal.find_at-returns-in_default-node
find_at-returns-in_default-node t c =
    sym (ap (λ (p : Path). standing p (Some (held c.args.node.now))) c.in-Some.ensures
    ∙ none_below c.args.node.now c.in_default-node.not-Opened c.in-Some.name.now c.in-Some.rest)

pub find_below-find_at-requires : goal.find_below-find_at-requires
find_below-find_at-requires t c =
    let d = c.decreases in
    let found = entry_found c.args.name.now c.args.entries.now.items c.in-Some.place (sym c.place_of.ensures ∙ c.in-Some.is)
    c.at.result.now c.at.ensures in
    (omega arith, ordered_at c.args.entries.now.items c.in-Some.place c.at.result.now found.is found.within c.requires)

pub find_below-returns-in-Some : goal.find_below-returns-in-Some
find_below-returns-in-Some t c =
    let found = entry_found c.args.name.now c.args.entries.now.items c.in-Some.place (sym c.place_of.ensures ∙ c.in-Some.is)
    c.at.result.now c.at.ensures in
    c.find_at.ensures ∙ ap (standing c.args.rest.now) (sym found.stands)

pub find_below-returns-in-None : goal.find_below-returns-in-None
find_below-returns-in-None t c =
    let lacks = name_lacks c.args.name.now c.args.entries.now.items (sym c.place_of.ensures ∙ c.in-None.is) in
    sym (ap (standing c.args.rest.now) lacks.0 ∙ nothing_stands c.args.rest.now)
