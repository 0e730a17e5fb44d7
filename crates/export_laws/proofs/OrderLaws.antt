-- The trees of a good repository, in the order in which a copy stores them.
use Rattle.std.proofs.Common.{◌≡◌, ℕ, suc, ◌<◌, List, [], ◌∷◌, ◌++◌, length, Some, refl, sym, ap, ◌∙◌, arith}
use Rattle.std.specs.List.{flat_map}
use Rattle.std.proofs.lemmas.List.Elements.{recursion_from_All}
use Rattle.git_model.specs.declared.kind.Kind.TheVariants as kind
use Rattle.git_model.specs.GoodRepository.{AreObjects}
use Rattle.git_model.specs.References.{kind_named, place_of}
use Rattle.git_model.specs.Repository.{Object, object_named}
use Rattle.git_model.specs.StoredPath.{entries_of}
use Rattle.git_model.specs.Tree.{TreeEntry}
use Rattle.git_model.proofs.Places.{stands_at}
use Rattle.file_maps.specs.StoredTree.{HasTree}
use Rattle.file_maps.specs.Trees.{tree_content}
use Rattle.file_maps.proofs.GoodObjects.{falls, good-trees, tree-from}
use Rattle.file_maps.proofs.StoredFiles.{entries-at}
use Rattle.export_laws.specs.Order.{AreWhole, HasDirectories, IsTreeAdded, trees_by, trees_of, with_named}
use Rattle.export_laws.proofs.OrderTrees.{same-trees, trees-level, trees_at}
use Rattle.export_laws.proofs.OrderWhole.{comes, once, one-more}

module _ (digest : List ℕ → List ℕ) (os : List Object) (good : AreObjects digest os)
    (tree : List ℕ) (is : kind_named tree os ≡ Some kind.Tree) where
  has : (es : List TreeEntry) × HasTree os tree es
  has = tree-from digest os good tree (object_named tree os) refl is

  place : place_of tree os < length os
  place = (stands_at tree os (tree_content has.0) has.1.content).within

  -- the trees of its directories come before it, in its order
  pub unrolled : trees_of os tree
      ≡ flat_map (λ e. trees_by e.mode (trees_of os e.id)) (entries_of os tree) ++ tree ∷ []
  unrolled =
      same-trees digest os (good-trees digest os good) (λ k. place_of k os) (falls digest os good)
      (length os) (suc (length os)) tree has.0 has.1 place (let lt = place in omega (arith, lt))
      ∙ trees-level os (length os) tree has.0 has.1
      ∙ ap (λ (es : List TreeEntry). trees_at os (length os) es ++ tree ∷ [])
      (sym (entries-at os tree has.0 has.1))

  pub tree-added : (held : List Object) → AreWhole os held → IsTreeAdded os held tree
  tree-added held whole =
      let added = comes digest os (good-trees digest os good) (λ k. place_of k os) (falls digest os good)
      (length os) tree has.0 has.1 place held whole in
      record {
        once = once digest os (good-trees digest os good) (λ k. place_of k os) (falls digest os good)
            (length os) tree has.0 has.1 place held whole;
        there = added.there;
        whole = added.whole;
      }

-- an object is added whose directories are there
pub object-added : (os held : List Object) (id : List ℕ) → AreWhole os held
    → HasDirectories held (entries_of os id) → AreWhole os (with_named os (id ∷ []) held)
object-added os held id whole here =
    one-more os id held whole (recursion_from_All _ (entries_of os id) here)
