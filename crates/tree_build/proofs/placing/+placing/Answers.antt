use Rattle.std.proofs.Common.{◌≡◌, ℕ, List, [], ◌∷◌, sym, ap, ◌∙◌, subst, rules, arith}
use Rattle.std.specs.Prelude.{length}
use Rattle.std.proofs.lemmas.List.Elements.{All-head}
use Rattle.std.proofs.lemmas.Result.{on_ok_weaker}
use Rattle.git_paths.specs.Paths.{IsComponent, IsPath}
use Rattle.tree_build.specs.Nodes.{held, shape_of}
use Rattle.tree_build.specs.Editing.{changed, has_opened}
use Rattle.tree_build.proofs.Named.{node_found, put_in_place}
use Rattle.file_maps.specs.FileMap.{Path}
use Rattle.tree_build.specs.Shape.{Directory}
use Rattle.tree_build.specs.Searches.{AreOrdered}
use Rattle.tree_build.proofs.Searched.{ordered_at}
use Rattle.tree_build.proofs.placing.+placing.Goals as goal

not_empty : {c : List ℕ} {p : Path} → [] ≡ c ∷ p → ⊥
not_empty e = cc e

pub place-place_below-requires : goal.place-place_below-requires
place-place_below-requires t c =
    let d = c.decreases in
    let n = ap (λ (p : List (List ℕ)). length p) c.in-Some.ensures in (
      omega arith,
      (
        All-head IsComponent c.in-Some.name.now c.in-Some.rest
            (subst IsPath c.in-Some.ensures c.has_components.ensures),
        (
          subst (λ (d : Directory). AreOrdered d.entries) (sym c.dir.view_is) c.requires,
          λ e. not_empty (sym e ∙ c.in-Some-split_first.ensures),
        ),
      ),
    )

pub place-put_entry-requires-clause-name : goal.place-put_entry-requires-clause-name
place-put_entry-requires-clause-name t c =
    All-head IsComponent c.in-Some.name.now c.in-Some.rest (subst IsPath c.in-Some.ensures c.has_components.ensures)

-- the directory is no stored tree any more
pub place-returns-in-Some-split_first-clause-tree : goal.place-returns-in-Some-split_first-clause-tree
place-returns-in-Some-split_first-clause-tree t c = search rules

pub place-returns-in-None-clause-tree : goal.place-returns-in-None-clause-tree
place-returns-in-None-clause-tree t c = search rules

pub place_below-place_inside-requires : goal.place_below-place_inside-requires
place_below-place_inside-requires t c =
    let d = c.decreases in
    let found = node_found c.args.name.now c.args.entries.now.items c.in-Some.at c.in-Some.ensures.0 c.node_mut.result.now c.node_mut.ensures.value in (
      omega arith,
      (
        sym (ap has_opened found.stands) ∙ c.in-Some.ensures.1,
        (
          ordered_at c.args.entries.now.items c.in-Some.at _ found.is found.within c.requires.ordered,
          c.requires.rest,
        ),
      ),
    )

pub place_below-place-requires : goal.place_below-place-requires
place_below-place-requires t c =
    let d = c.decreases in (omega arith, subst AreOrdered (sym c.empty-below.ensures.entries) tt)

pub place_below-returns-in-Some : goal.place_below-returns-in-Some
place_below-returns-in-Some t c =
    let found = node_found c.args.name.now c.args.entries.now.items c.in-Some.at c.in-Some.ensures.0 c.node_mut.result.now c.node_mut.ensures.value in
    on_ok_weaker c.place_inside.result
    (λ is. found.set c.place_inside.new.at
    ∙ ap (changed (shape_of c.args.entries.now.items) c.args.name.now) is
    ∙ put_in_place (shape_of c.args.entries.now.items) c.args.name.now c.args.rest.now (held c.args.node)
    (held c.node_mut.result.now) c.requires.rest found.stands c.in-Some.ensures.1)
    c.place_inside.ensures
