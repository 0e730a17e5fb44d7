use Rattle.std.proofs.Common.{rules}
use Rattle.std.proofs.lemmas.Bool.{false≢true}
use Rattle.std.proofs.lemmas.Fn.{always_returns_same}
use Rattle.git_model.specs.Tree.{tree_cmp}
use Rattle.git_objects.specs.Parts.{entry_of, entries_of}
use Rattle.git_objects.proofs.TreeGrowth.{no_twin_below}
use Rattle.git_objects.proofs.TreeOrder.{twin_answer, file_of}
use Rattle.git_objects.proofs.tree.has_twin.Goals as goal

pub returns-in-Directory : goal.returns-in-Directory
returns-in-Directory c o =
    let answer =
    twin_answer entry_of c.args.entries.now
    (entry_of c.args.entry.now) c.binary_search_by.result c.in-Directory.is c.binary_search_by.ensures.bound
    (c.binary_search_by.ensures.position (λ y. tree_cmp (entry_of y) (file_of (entry_of c.args.entry.now))) (always_returns_same _ _ _ (λ a r f h. (search rules, search rules)))) o in
    rw c.is_ok.ensures.value answer

pub returns-in_default : goal.returns-in_default
returns-in_default c o = (
  λ no. absurd (false≢true no),
  λ twin. absurd (no_twin_below (entries_of c.args.entries.now) (entry_of c.args.entry.now) ((c.comes_after.ensures o).0 c.if-not-comes_after.false) twin),
)
