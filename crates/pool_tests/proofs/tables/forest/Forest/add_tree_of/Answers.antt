use Rattle.std.proofs.Common.{ℕ, List, ◌++◌, ap, ◌∙◌}
use Rattle.git_model.specs.Tree.{tree_contents}
use Rattle.git_objects.specs.Parts.{entries_of}
use Rattle.pool_tests.proofs.TwoTables.{Share-room, Share-first, added_summary}
use Rattle.pool_tests.proofs.tables.forest.Forest.add_tree_of.Goals as goal

pub add_tree-requires : goal.add_tree-requires
add_tree-requires g c = record {
  stands = c.self.invariant.first;
  room = Share-room _ _ _ _ c.self.invariant;
  tree = (
    _,
    record {
      writable = c.requires.writable;
      contents = c.as_slice.ensures.value ∙ c.in_ok-write_tree.ensures.written
          ∙ ap
          (λ (xs : List ℕ). xs ++ tree_contents (entries_of c.args.entries.now)) c.new-contents.ensures.items;
      directories = rw c.self.view_is c.requires.directories;
      sums = rw c.self.view_is c.requires.sums;
      within = c.requires.within;
    },
  );
}

pub invariant_of-self : goal.invariant_of-self
invariant_of-self g c =
    Share-first _ _ _ _ _ _ c.self.invariant c.add_tree.ensures.stands c.add_tree.ensures.others

pub returns : goal.returns
returns g c = added_summary _ _ _ _ _ _ _ _ _ c.add_tree.ensures.answer c.add_tree.ensures.ok
