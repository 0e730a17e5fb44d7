-- A tree's contents are those of one list of entries.
use Rattle.std.proofs.Common.{◌≡◌, List, sym, ap, ◌∙◌}
use Rattle.git_model.specs.Tree.{TreeEntry, CanWriteTree, tree_contents}
use Rattle.git_model.specs.TreeReading.{tree_read}
use Rattle.git_model.proofs.TreeReadings.{tree_back}

pub tree_contents-injective : (es fs : List TreeEntry) → CanWriteTree es → CanWriteTree fs
    → tree_contents es ≡ tree_contents fs → es ≡ fs
tree_contents-injective es fs h g eq = sym (tree_back es h) ∙ ap tree_read eq ∙ tree_back fs g
