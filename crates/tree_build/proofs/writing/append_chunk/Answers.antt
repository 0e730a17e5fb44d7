use Rattle.std.proofs.Common.{ℕ, ◌+◌, List, [], ◌∷◌, ◌++◌, take, sym, ap, ◌∙◌, subst}
use Rattle.std.specs.List.{AllByRecursion}
use Rattle.git_model.specs.ObjectName.{IsObjectName}
use Rattle.git_model.specs.Tree.{TreeEntry}
use Rattle.file_maps.proofs.Listing.{all-append}
use Rattle.tree_build.specs.Nodes.{held, shape_of}
use Rattle.tree_build.specs.Stores.{entry_of_what, entries_of_shape}
use Rattle.tree_build.proofs.Chunked.{contents-more, one-text}
use Rattle.tree_build.proofs.Places.{rows-more, named-at}
use Rattle.tree_build.proofs.writing.append_chunk.Goals as goal

pub append_entry-requires : goal.append_entry-requires
append_entry-requires c =
    named-at c.args.chunk.now c.loop-entry.entry-index c.entry-item.result c.loop-entry-test.true c.entry-item.is c.requires

pub loop-entry-preserved : goal.loop-entry-preserved
loop-entry-preserved c =
    let one = entry_of_what c.entry-item.result.0 (held c.entry-item.result.1).what in
    let before = entries_of_shape (shape_of (take c.loop-entry.entry-index c.args.chunk.now)) in
    let more = rows-more c.args.chunk.now c.loop-entry.entry-index c.entry-item.result c.loop-entry-test.true c.entry-item.is in record {
      written =
          contents-more c.args.contents.now.items c.loop-entry.contents.items c.append_entry.new.contents.items before (one ∷ [])
          (entries_of_shape (shape_of (take (c.loop-entry.entry-index + 1) c.args.chunk.now))) c.loop-entry.invariant.written
          (c.in_ok-append_entry.ensures.written ∙ ap (λ (l : List ℕ). c.loop-entry.contents.items ++ l) (one-text one)) more;
      ids =
          subst (AllByRecursion (λ e. IsObjectName e.id)) (sym more)
          (all-append (λ (t : TreeEntry). IsObjectName t.id) before (one ∷ [])
          c.loop-entry.invariant.ids (c.in_ok-append_entry.ensures.id, tt));
    }
