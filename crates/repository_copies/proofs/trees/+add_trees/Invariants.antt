use Rattle.std.proofs.Common.{◌≡◌, ℕ, List, Some, take}
use Rattle.git_model.specs.declared.kind.Kind.TheVariants as kind
use Rattle.git_model.specs.GoodRepository.{AreObjects}
use Rattle.git_model.specs.References.{kind_named, place_of}
use Rattle.git_objects.specs.Parts.{entries_of}
use Rattle.export_laws.specs.Order.{AreWhole}
use Rattle.repository_copies.specs.Found.{AreFound, found_objects}
use Rattle.repository_copies.proofs.TreeSteps.{AreVisited}
use Rattle.repository_copies.proofs.trees.+add_trees.Given as goal

abbrev pub decreases-add_trees : goal.decreases-add_trees
decreases-add_trees g l = l.place

abbrev pub invariant-loop-entry : goal.invariant-loop-entry
invariant-loop-entry g l = AreObjects g.N.Naming.digest_of l.objects → (tree : List ℕ)
    → kind_named tree l.objects ≡ Some kind.Tree → place_of tree l.objects ≡ l.place
    → AreFound l.objects l.initial.found → AreWhole l.objects (found_objects l.objects l.initial.found)
    → AreVisited l.objects (entries_of (take l.entry-index l.entry-items)) l.initial.found l.found
