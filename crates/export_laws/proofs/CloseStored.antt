-- Reached trees are stored one after another among objects of their repository.
use Rattle.std.proofs.Common.{◌≡◌, ℕ, ◌≤◌, List, [], ◌∷◌, length, Option, None, Some, refl, ap, ◌∙◌}
use Rattle.std.specs.List.{AllByRecursion}
use Rattle.git_model.specs.Content.{Content}
use Rattle.git_model.specs.Repository.{Object, Repository, object_named, with_object}
use Rattle.git_model.specs.Tree.{TreeEntry}
use Rattle.tenant_tables.specs.declared.fault.Fault.{Fault as TableFault}
use Rattle.tenant_tables.specs.declared.table.TheConstants.{OBJECTS_LIMIT}
use Rattle.file_maps.specs.Storing.{or_later, trees_fault, with_trees}
use Rattle.file_maps.specs.Trees.{tree_content, tree_name}
use Rattle.export_laws.specs.Told.{AreOf}
use Rattle.export_laws.proofs.CloseTrees.{IsReachedTree}
use Rattle.export_laws.proofs.Storing.{stored}

-- What storing trees of the repository leaves.
pub record AreStored (digest : List ℕ → List ℕ) (repository : Repository) (trees : List (List TreeEntry))
    (held : List Object) : Type 0 where
  pub unrefused : trees_fault digest trees held ≡ None
  pub of : AreOf repository (with_trees digest trees held)
  pub kept : (x : List ℕ) (d : Content) → object_named x held ≡ Some d
      → object_named x (with_trees digest trees held) ≡ Some d

module _ (digest : List ℕ → List ℕ) (repository : Repository)
    (few : length repository.objects ≤ OBJECTS_LIMIT) where
  pub trees-stored : (trees : List (List TreeEntry)) (held : List Object)
      → AllByRecursion (IsReachedTree digest repository) trees → AreOf repository held
      → AreStored digest repository trees held
  trees-stored [] held h of = record { unrefused = refl; of = of; kept = λ x d is. is }
  trees-stored (es ∷ trees) held h of =
      let next = with_object (tree_name digest es) (tree_content es) held in
      let one =
      stored repository held of few (tree_name digest es) (tree_content es) h.0.named h.0.reached h.0.short in
      let rest = trees-stored trees next h.1 one.of in record {
        unrefused =
            ap (λ (f : Option TableFault). or_later f (trees_fault digest trees next)) one.unrefused
            ∙ rest.unrefused;
        of = rest.of;
        kept = λ x d is. rest.kept x d (one.kept x d is);
      }
