-- The trees of a reached tree's files, stored in turn, are those of the tree by their names.
use Rattle.std.proofs.Common.{◌≡◌, ℕ, List, [], ◌∷◌, length, map, refl, ap, ◌∙◌, arith}
use Rattle.std.specs.List.{AllByRecursion}
use Rattle.git_model.specs.GoodRepository.{AreObjects}
use Rattle.git_model.specs.References.{place_of}
use Rattle.git_model.specs.Repository.{Object, Repository}
use Rattle.git_model.specs.Tree.{TreeEntry}
use Rattle.git_model.proofs.Places.{stands_at}
use Rattle.file_maps.specs.FileMap.{Listed}
use Rattle.file_maps.specs.StoredTree.{ListsTree}
use Rattle.file_maps.specs.Storing.{with_trees}
use Rattle.file_maps.specs.Trees.{depth_of, nested_trees, tree_content, tree_name}
use Rattle.file_maps.proofs.GoodObjects.{falls, good-trees}
use Rattle.export_laws.specs.Order.{trees_of, with_named}
use Rattle.export_laws.proofs.CloseTrees.{IsReachedTree}
use Rattle.export_laws.proofs.OrderNames.{added-named}
use Rattle.export_laws.proofs.OrderTrees.{trees-named}

module _ (digest : List ℕ → List ℕ) (repository : Repository) where
  abbrev os : List Object
  os = repository.objects

  added-trees : (trees : List (List TreeEntry)) (held : List Object)
      → AllByRecursion (IsReachedTree digest repository) trees
      → with_trees digest trees held ≡ with_named os (map (tree_name digest) trees) held
  added-trees [] held h = refl
  added-trees (es ∷ trees) held h =
      ap (with_trees digest trees) (added-named os (tree_name digest es) (tree_content es) held h.0.named)
      ∙ added-trees trees (with_named os (tree_name digest es ∷ []) held) h.1

  pub stored-trees : AreObjects digest os → (id : List ℕ) (fs : Listed) → ListsTree os id fs
      → AllByRecursion (IsReachedTree digest repository) (nested_trees digest fs) → (held : List Object)
      → with_trees digest (nested_trees digest fs) held ≡ with_named os (trees_of os id) held
  stored-trees good id fs t reached held =
      added-trees (nested_trees digest fs) held reached
      ∙ ap (λ (ids : List (List ℕ)). with_named os ids held)
      (trees-named digest os (good-trees digest os good) (λ k. place_of k os) (falls digest os good)
      id fs t (depth_of fs) (length os) (omega arith) (stands_at id os (tree_content t.direct) t.tree.content).within)
