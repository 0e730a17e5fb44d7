use Rattle.std.proofs.Common.{◌+◌, List, [], ◌++◌, take, sym, ap, ◌∙◌, subst}
use Rattle.std.specs.List.{AllByRecursion}
use Rattle.git_model.specs.ObjectName.{IsObjectName}
use Rattle.git_model.specs.Tree.{TreeEntry, tree_contents}
use Rattle.file_maps.proofs.Listing.{all-append}
use Rattle.tree_build.specs.Chunks.{all}
use Rattle.tree_build.specs.Nodes.{shape_of}
use Rattle.tree_build.specs.Stores.{entries_of_shape, AreNamed}
use Rattle.tree_build.proofs.Spots.{Row}
use Rattle.tree_build.proofs.Chunked.{chunk-named, chunks-more, contents-more}
use Rattle.tree_build.proofs.writing.contents_of.Goals as goal

pub append_chunk-requires : goal.append_chunk-requires
append_chunk-requires c =
    subst (λ (l : List Row). AreNamed (shape_of l)) (sym c.deref.ensures.value)
    (chunk-named c.args.chunks.now c.loop-chunk.chunk-index c.chunk-item.result c.loop-chunk-test.true c.chunk-item.is c.requires)

pub loop-chunk-preserved : goal.loop-chunk-preserved
loop-chunk-preserved c =
    let own = entries_of_shape (shape_of c.chunk-item.result.entries.items) in
    let before = entries_of_shape (shape_of (all (take c.loop-chunk.chunk-index c.args.chunks.now))) in
    let more = chunks-more c.args.chunks.now c.loop-chunk.chunk-index c.chunk-item.result c.loop-chunk-test.true c.chunk-item.is in record {
      written =
          contents-more [] c.loop-chunk.contents.items c.append_chunk.new.contents.items before own
          (entries_of_shape (shape_of (all (take (c.loop-chunk.chunk-index + 1) c.args.chunks.now)))) c.loop-chunk.invariant.written
          (c.in_ok-append_chunk.ensures.written
          ∙ ap (λ (l : List Row). c.loop-chunk.contents.items ++ tree_contents (entries_of_shape (shape_of l))) c.deref.ensures.value) more;
      ids =
          subst (AllByRecursion (λ e. IsObjectName e.id)) (sym more)
          (all-append (λ (t : TreeEntry). IsObjectName t.id) before own c.loop-chunk.invariant.ids
          (subst (λ (l : List Row). AllByRecursion (λ e. IsObjectName e.id) (entries_of_shape (shape_of l))) c.deref.ensures.value
          c.in_ok-append_chunk.ensures.ids));
    }
