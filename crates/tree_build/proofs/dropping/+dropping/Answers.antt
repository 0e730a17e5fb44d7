use Rattle.std.proofs.Common.{rules, ℕ, Bool, true, false, cond, ◌≡◌, sym, ap, ◌∙◌}
use Rattle.std.specs.Prelude.{Option, None, Some}
use Rattle.std.specs.List.{remove}
use Rattle.file_maps.specs.FileMap.{Path}
use Rattle.tree_build.specs.Shape.{Held}
use Rattle.tree_build.specs.Nodes.{held, shape_of}
use Rattle.tree_build.specs.Editing.{child, entries_in, left, put_back, dropped}
use Rattle.tree_build.specs.Moving.{standing}
use Rattle.tree_build.proofs.Copies.{nothing_stands, stands_nowhere}
use Rattle.tree_build.proofs.Named.{entry_here, node_found, name_lacks, shape_remove, none_left}
use Rattle.tree_build.proofs.Searched.{ordered_at, removed_set}
use Rattle.tree_build.proofs.dropping.+dropping.Goals as goal
use Rattle.tree_build.proofs.dropping.+dropping.Goals.{take_below-After-take_inside-taken}

-- what is left of what stands under a name
abbrev leaves : Bool → Path → Option Held → Option Held
leaves clear rest o = left clear rest o (dropped clear rest (entries_in o))

pub take_below-take_inside-taken-requires : goal.take_below-take_inside-taken-requires
take_below-take_inside-taken-requires t c =
    let found = node_found c.args.name.now c.args.entries.now.items c.in-Some.at (sym c.place_of.ensures ∙ c.in-Some.is) c.node_mut.result.now c.node_mut.ensures.value in
    (search rules, (ordered_at c.args.entries.now.items c.in-Some.at _ found.is found.within c.requires, search rules))

pub take_below-returns-in_default-clause-entries : goal.take_below-returns-in_default-clause-entries
take_below-returns-in_default-clause-entries t c =
    let s = shape_of c.args.entries.now.items in
    let lacks = name_lacks c.args.name.now c.args.entries.now.items (sym c.place_of.ensures ∙ c.in_default.is) in
    sym lacks.1
    ∙ ap (put_back s c.args.name.now)
    (sym (ap (leaves c.args.clear c.args.rest.now) lacks.0
    ∙ none_left c.args.clear c.args.rest.now (dropped c.args.clear c.args.rest.now (entries_in None))))

pub take_below-returns-in_default-clause-node : goal.take_below-returns-in_default-clause-node
take_below-returns-in_default-clause-node t c =
    let lacks = name_lacks c.args.name.now c.args.entries.now.items (sym c.place_of.ensures ∙ c.in_default.is) in
    sym (ap (standing c.args.rest.now) lacks.0 ∙ nothing_stands c.args.rest.now)

-- what stands under the name
here : (t : ℕ) (c : take_below-After-take_inside-taken t)
    → child (shape_of c.args.entries.now.items) c.args.name.now ≡ Some (held c.node_mut.result.now)
here t c = (node_found c.args.name.now c.args.entries.now.items c.in-Some.at (sym c.place_of.ensures ∙ c.in-Some.is) c.node_mut.result.now c.node_mut.ensures.value).stands

-- what is left of it
rest : (t : ℕ) (c : take_below-After-take_inside-taken t) (goes : Bool) → c.take_inside-taken.result.1 ≡ goes → cond goes None (Some (held c.take_inside-taken.new.node))
    ≡ leaves c.args.clear c.args.rest.now (child (shape_of c.args.entries.now.items) c.args.name.now)
rest t c goes is =
    sym (ap (leaves c.args.clear c.args.rest.now) (here t c) ∙ c.take_inside-taken.ensures.left
    ∙ ap (λ (b : Bool). cond b None (Some (held c.take_inside-taken.new.node))) is)

pub take_below-returns-then-goes-clause-entries : goal.take_below-returns-then-goes-clause-entries
take_below-returns-then-goes-clause-entries t c =
    let s = shape_of c.args.entries.now.items in
    let found = node_found c.args.name.now c.args.entries.now.items c.in-Some.at (sym c.place_of.ensures ∙ c.in-Some.is) c.node_mut.result.now c.node_mut.ensures.value in
    ap shape_of c.remove-then-goes.ensures.items
    ∙ ap shape_of (removed_set c.args.entries.now.items c.in-Some.at ((entry_here c.args.entries.now.items c.in-Some.at c.node_mut.result.now).0, c.take_inside-taken.new.node))
    ∙ ap (λ (k : ℕ). shape_of (remove c.args.entries.now.items k))
    (sym found.first)
    ∙ shape_remove c.args.name.now c.args.entries.now.items
    ∙ ap (put_back s c.args.name.now) (rest t (goal.at.take_below-returns-then-goes-clause-entries t c).After-take_inside-taken true c.if-goes.true)

pub take_below-returns-then-goes-clause-node : goal.take_below-returns-then-goes-clause-node
take_below-returns-then-goes-clause-node t c =
    c.take_inside-taken.ensures.node ∙ ap (standing c.args.rest.now) (sym (here t (goal.at.take_below-returns-then-goes-clause-node t c).After-take_inside-taken))

pub take_below-returns-else-goes-clause-entries : goal.take_below-returns-else-goes-clause-entries
take_below-returns-else-goes-clause-entries t c =
    let found = node_found c.args.name.now c.args.entries.now.items c.in-Some.at (sym c.place_of.ensures ∙ c.in-Some.is) c.node_mut.result.now c.node_mut.ensures.value in
    found.set c.take_inside-taken.new.node
    ∙ ap (put_back (shape_of c.args.entries.now.items) c.args.name.now) (rest t (goal.at.take_below-returns-else-goes-clause-entries t c).After-take_inside-taken false c.if-goes.false)

pub take_below-returns-else-goes-clause-node : goal.take_below-returns-else-goes-clause-node
take_below-returns-else-goes-clause-node t c =
    c.take_inside-taken.ensures.node ∙ ap (standing c.args.rest.now) (sym (here t (goal.at.take_below-returns-else-goes-clause-node t c).After-take_inside-taken))

pub take_inside-returns-in-File-clause-node : goal.take_inside-returns-in-File-clause-node
take_inside-returns-in-File-clause-node t c =
    sym (stands_nowhere c.args.node.now (λ d e. cc (sym c.in-File.is ∙ e)) c.args.rest.now c.requires.rest)

pub take_inside-returns-in-Unopened-clause-node :
    goal.take_inside-returns-in-Unopened-clause-node
take_inside-returns-in-Unopened-clause-node t c =
    sym (stands_nowhere c.args.node.now (λ d e. cc (sym c.in-Unopened.is ∙ e)) c.args.rest.now c.requires.rest)

-- a directory goes with its last entry
pub take_inside-returns-in-Opened-clause-left : goal.take_inside-returns-in-Opened-clause-left
take_inside-returns-in-Opened-clause-left t c = search rules
