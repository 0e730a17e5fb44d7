use Rattle.std.proofs.Common.{◌≡◌, ◌<◌, ℕ, List, length, sym, ap, ◌∙◌, subst, rules}
use denote.Enum.Bare.{same_true}
use Rattle.std.proofs.lemmas.List.{get_or_default}
use Rattle.std.proofs.lemmas.List.Sums.{passes_at_first}
use Rattle.std.proofs.lemmas.Result.{on_ok_weaker}
use Rattle.std.specs.Prelude.{slice_index_or}
use Rattle.std.specs.List.{remove}
use Rattle.git_model.specs.contracts.file_mode.FileMode.{the_type}
use Rattle.git_model.specs.Tree.{slash_of}
use Rattle.tree_build.specs.declared.dir.Node.{Node}
use Rattle.tree_build.specs.Branch.{slash_after}
use Rattle.tree_build.specs.Nodes.{held, shape_of, has_name}
use Rattle.tree_build.specs.Editing.{removed, inserted}
use Rattle.tree_build.specs.Searches.{AreOrdered}
use Rattle.tree_build.proofs.Look.{is_bytes}
use Rattle.tree_build.proofs.Named.{entry_here, node_found, entry_found, IsFound, shape_remove}
use Rattle.tree_build.proofs.Searched.{ordered_removed, put_alike}
use Rattle.tree_build.proofs.placing.put_instead.Goals as goal
use Rattle.tree_build.proofs.placing.put_instead.Goals.{After-remove-owned}

pub returns-then-eq : goal.returns-then-eq
returns-then-eq c =
    let es = c.args.entries.now.items in
    let found = node_found c.args.name.now es c.args.at c.requires.there c.node_mut.result.now c.node_mut.ensures.value in
    let modes = same_true the_type (search rules) _ _ (sym c.eq.ensures ∙ c.if-eq.true) in
    let alike = sym c.order_mode-2.ensures ∙ ap slash_of (sym modes) ∙ c.order_mode.ensures
    ∙ ap (λ (e : List ℕ × Node). slash_after (held e.1).what)
    (c.at.ensures ∙ get_or_default es c.args.at c.at.result.now (entry_here es c.args.at c.node_mut.result.now) found.within ∙ sym found.is) in
    found.set c.args.node
    ∙ put_alike (shape_of es) c.args.name.now (held c.args.node) (held c.node_mut.result.now) c.requires.ordered found.stands alike

-- the entry that goes
owned : (c : After-remove-owned) → IsFound c.args.name.now c.args.entries.now.items c.args.at c.remove-owned.result
owned c = entry_found c.args.name.now c.args.entries.now.items c.args.at c.requires.there c.remove-owned.result c.remove-owned.ensures.value

left : (c : After-remove-owned) → shape_of c.remove-owned.new.self.items ≡ removed (shape_of c.args.entries.now.items) c.args.name.now
left c =
    ap shape_of c.remove-owned.ensures.items
    ∙ ap (λ (k : ℕ). shape_of (remove c.args.entries.now.items k)) (sym (owned c).first)
    ∙ shape_remove c.args.name.now c.args.entries.now.items

pub insert-requires : goal.insert-requires
insert-requires c =
    subst AreOrdered (sym (left (goal.at.insert-requires c).After-remove-owned))
    (ordered_removed (shape_of c.args.entries.now.items) c.args.name.now c.requires.ordered)

pub returns : goal.returns
returns c =
    let es = c.args.entries.now.items in
    let at = (goal.at.returns c).After-remove-owned in
    let found = owned at in
    let named = passes_at_first (has_name c.args.name.now) es c.remove-owned.result (subst (λ (k : ℕ). k < length es) (sym found.first) found.within) in
    let name = is_bytes c.remove-owned.result.0 c.args.name.now
    (ap (has_name c.args.name.now) (found.is ∙ ap (λ (k : ℕ). slice_index_or es k c.remove-owned.result) (sym found.first)) ∙ named) in
    on_ok_weaker c.insert.result
    (λ is. is ∙ ap (λ (x : List ℕ). inserted x (held c.args.node) (shape_of c.remove-owned.new.self.items)) name
    ∙ ap (inserted c.args.name.now (held c.args.node)) (left at))
    c.insert.ensures
