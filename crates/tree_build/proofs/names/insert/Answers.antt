use Rattle.std.proofs.Common.{ℕ, List, ◌++◌, sym, ap, ◌∙◌, subst}
use Rattle.std.proofs.lemmas.Result.{on_ok_weaker}
use Rattle.std.specs.List.{insert}
use Rattle.git_model.specs.Tree.{slash_of}
use Rattle.tree_build.specs.Branch.{key_of}
use Rattle.tree_build.specs.Nodes.{held, shape_of}
use Rattle.tree_build.specs.Searches.{IsPlaceAfter}
use Rattle.tree_build.proofs.Named.{shape_insert}
use Rattle.tree_build.proofs.Searched.{place_is}
use Rattle.tree_build.proofs.names.insert.Goals as goal

pub returns : goal.returns
returns c =
    let xs = c.args.entries.now.items in
    let place = c.place_after-place.result in
    let key = c.ordered.ensures ∙ ap (λ (x : List ℕ). x ++ slash_of c.order_mode.result) c.as_bytes.ensures.bytes
    ∙ ap (λ (x : List ℕ). c.args.name ++ x) c.order_mode.ensures in
    let point = subst (λ (k : List ℕ). IsPlaceAfter k xs place) key c.place_after-place.ensures.point in
    on_ok_weaker c.insert.result
    (λ is. ap shape_of is
    ∙ ap (λ (k : ℕ). shape_of (insert xs k (c.args.name, c.args.node)))
    (sym (place_is (key_of c.args.name (held c.args.node).what) xs place c.place_after-place.ensures.within point))
    ∙ shape_insert c.args.name c.args.node xs)
    c.insert.ensures
