use Rattle.std.proofs.Common.{◌≡◌, List, [], ◌∷◌, ◌++◌, take, sym, ap, ◌∙◌, subst, ℕ, ◌<◌}
use Rattle.std.specs.List.{AllByRecursion}
use Rattle.git_model.specs.ObjectName.{IsObjectName}
use Rattle.git_model.specs.Tree.{TreeEntry, tree_contents}
use Rattle.git_objects.specs.Parts.{entry_of}
use Rattle.file_maps.proofs.Listing.{all-append}
use Rattle.tree_build.specs.Nodes.{shape_of}
use Rattle.tree_build.specs.Stores.{entries_of_shape}
use Rattle.tree_build.proofs.Places.{rows-more, named-at}
use Rattle.tree_build.proofs.Begun.{read-more}
use Rattle.tree_build.proofs.matching.lists.Goals as goal

pub row_of-row-requires : goal.row_of-row-requires
row_of-row-requires c =
    named-at c.args.entries.now.items c.loop-place.place c.at-entry.result.now (subst (λ (n : ℕ). c.loop-place.place < n) c.len-place-end.ensures c.loop-place-test.true) c.at-entry.ensures c.requires

pub loop-place-preserved : goal.loop-place-preserved
loop-place-preserved c =
    let es = entries_of_shape (shape_of (take c.loop-place.place c.args.entries.now.items)) in
    let more = rows-more c.args.entries.now.items c.loop-place.place c.at-entry.result.now (subst (λ (n : ℕ). c.loop-place.place < n) c.len-place-end.ensures c.loop-place-test.true) c.at-entry.ensures
    ∙ ap (λ (t : TreeEntry). es ++ t ∷ []) (sym c.row_of-row.ensures) in record {
      read =
          subst (λ (l : List TreeEntry). c.args.contents.now ≡ tree_contents l ++ c.in-Some.more.now) (sym more)
          (read-more c.args.contents.now c.loop-place.rest.now c.in-Some.more.now es (entry_of c.row_of-row.result)
          c.loop-place.invariant.read c.in-Some.ensures);
      ids = subst (AllByRecursion (λ e. IsObjectName e.id)) (sym more)
          (all-append (λ (t : TreeEntry). IsObjectName t.id) es (entry_of c.row_of-row.result ∷ [])
          c.loop-place.invariant.ids (c.has_twenty_bytes.ensures, tt));
    }
