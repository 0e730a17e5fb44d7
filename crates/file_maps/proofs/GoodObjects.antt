-- The trees of good objects: each lists just the files that the function gives.
use Rattle.std.proofs.Common.{◌≡◌, ◌≢◌, ℕ, ◌<◌, List, [], ◌∷◌, length, All, Option, None, Some, refl, sym, ap, ◌∙◌, subst}
use Rattle.std.specs.Prelude.{unwrap_or}
use Rattle.std.specs.Option.{option_map}
use Rattle.std.specs.List.{AllByRecursion}
use Rattle.std.proofs.lemmas.List.Elements.{All-from_recursion, recursion_from_All}
use Rattle.git_model.specs.declared.file_mode.FileMode.TheVariants as mode
use Rattle.git_model.specs.declared.kind.Kind.{Kind}
use Rattle.git_model.specs.declared.kind.Kind.TheVariants as kind
use Rattle.git_model.specs.Content.{Content, no_content}
use Rattle.git_model.specs.Tree.{TreeEntry, tree_contents}
use Rattle.git_model.specs.TreeReading.{tree_read}
use Rattle.git_model.specs.Repository.{Object, object_named}
use Rattle.git_model.specs.References.{reference, tree_references, references_in, kind_named, place_of}
use Rattle.git_model.specs.GoodRepository.{IsTree, IsValid, IsObject, StandsBefore, AreObjects}
use Rattle.git_model.proofs.Places.{stands_at, at_place, of_entries}
use Rattle.git_model.proofs.TreeReadings.{tree_back}
use Rattle.file_maps.specs.FileMap.{Listed}
use Rattle.file_maps.specs.Trees.{tree_content}
use Rattle.file_maps.specs.StoredTree.{HasTree, ListsTree, AreFilesOf}
use Rattle.file_maps.specs.StoredFiles.{stored_files}
use Rattle.file_maps.specs.StoredAgain.{Every, IsFilled, AreTreesGood}
use Rattle.file_maps.proofs.Apart.{all-weaker}
use Rattle.file_maps.proofs.StoredFiles.{RanksBelow, tree-within, lists-within}

module _ (digest : List ℕ → List ℕ) (os : List Object) (good : AreObjects digest os) where
  -- ---- the object of a name

  is-object : (id : List ℕ) (c : Content) → object_named id os ≡ Some c
      → IsObject digest os (record { id = id; content = c })
  is-object id c e =
      let at = stands_at id os c e in
      subst (IsObject digest os) at.object
      (at_place (IsObject digest os) os (place_of id os) good.each at.within)

  pub refers-before : (id : List ℕ) (c : Content) → object_named id os ≡ Some c
      → All (StandsBefore os (place_of id os)) (references_in c)
  refers-before id c e =
      let at = stands_at id os c e in
      subst (λ (o : Object). All (StandsBefore os (place_of id os))
      (references_in o.content)) at.object (good.connected (place_of id os) at.within)

  -- what each directory names is a tree that stands before
  abbrev Stands : ℕ → TreeEntry → Type 0
  Stands place e = e.mode ≡ mode.Directory → StandsBefore os place (reference kind.Tree e.id)

  directories : (id : List ℕ) (es : List TreeEntry) → HasTree os id es
      → AllByRecursion (Stands (place_of id os)) es
  directories id es h =
      of_entries (StandsBefore os (place_of id os)) es
      (subst (λ (xs : List TreeEntry). All (StandsBefore os (place_of id os)) (tree_references xs))
      (tree_back es h.entries) (refers-before id (tree_content es) h.content))

  pub falls : (id : List ℕ) (es : List TreeEntry) → HasTree os id es
      → RanksBelow (λ k. place_of k os) (place_of id os) es
  falls id es h =
      all-weaker (Stands (place_of id os))
      (λ (e : TreeEntry). e.mode ≡ mode.Directory → place_of e.id os < place_of id os)
      (λ e s is. (s is).before) es (directories id es h)

  pub tree-from : (id : List ℕ) (o : Option Content) → object_named id os ≡ o
      → option_map (λ (c : Content). c.kind) o ≡ Some kind.Tree
      → (es : List TreeEntry) × HasTree os id es
  tree-from id None e k = cc
  tree-from id (Some c) e k =
      let is : c.kind ≡ kind.Tree = cc in
      let valid : IsValid os kind.Tree c.bytes = subst (λ (x : Kind). IsValid os x c.bytes) is
      (is-object id c e).valid in
      let contents = valid.1.contents in (
        valid.0,
        record {
          content = e ∙ ap (λ (x : Content). Some x)
              (λ i. record { kind = is i; bytes = contents i });
          entries = valid.1.writable;
        },
      )

  has-tree : (id : List ℕ) → kind_named id os ≡ Some kind.Tree
      → (es : List TreeEntry) × HasTree os id es
  has-tree id k = tree-from id (object_named id os) refl k

  trees : (id : List ℕ) (es : List TreeEntry) → HasTree os id es
      → AllByRecursion
      (λ e. e.mode ≡ mode.Directory → (inside : List TreeEntry) × HasTree os e.id inside) es
  trees id es h =
      all-weaker (Stands (place_of id os))
      (λ (e : TreeEntry). e.mode ≡ mode.Directory →
      (inside : List TreeEntry) × HasTree os e.id inside) (λ e s is. has-tree e.id
      (s is).kind) es (directories id es h)

  -- ---- the files of a tree

  pub listed-stored : (id : List ℕ) (fs : Listed) → ListsTree os id fs → stored_files os id ≡ fs
  listed-stored id fs t =
      tree-within os (λ k. place_of k os) falls id fs t (length os)
      (stands_at id os (tree_content t.direct) t.tree.content).within

  pub files-of : (id : List ℕ) → kind_named id os ≡ Some kind.Tree
      → AreFilesOf os id (stored_files os id)
  files-of id k =
      let has = has-tree id k in record {
        listed = lists-within os (λ m. place_of m os) falls trees (length os) id has.0 has.1
            (stands_at id os (tree_content has.0) has.1.content).within;
        only = λ others t. sym (listed-stored id others t);
      }

  -- ---- the trees are good

  none-empty : (id : List ℕ) (es : List TreeEntry) → HasTree os id es
      → IsTree os (tree_contents es) es
  none-empty id es h =
      let t = (is-object id (tree_content es) h.content).valid in
      let same : t.0 ≡ es = sym (tree_back t.0 t.1.writable) ∙ ap tree_read (sym t.1.contents)
      ∙ tree_back es h.entries in
      subst (IsTree os (tree_contents es)) same t.1

  filled : (place : ℕ) (es : List TreeEntry) → AllByRecursion (Stands place) es
      → AllByRecursion
      (λ e. e.mode ≡ mode.Directory → (unwrap_or (object_named e.id os) no_content).bytes ≢ []) es
      → AllByRecursion (IsFilled os Every) es
  filled place [] s n = tt
  filled place (e ∷ es) s n = (
    λ is.
        let has = has-tree e.id (s.0 is).kind in record {
          inside = has.0;
          tree = has.1;
          some = λ empty.
              n.0 is (ap (λ (o : Option Content). (unwrap_or o no_content).bytes) has.1.content
              ∙ ap tree_contents empty);
          meant = tt;
        },
    filled place es s.1 n.1,
  )

  pub good-trees : AreTreesGood digest os Every
  good-trees = record {
    named = λ id es h. (is-object id (tree_content es) h.content).named;
    short = λ id es h. (is-object id (tree_content es) h.content).short;
    filled = λ id es h meant.
        All-from_recursion (IsFilled os Every) es
        (filled (place_of id os) es (directories id es h)
        (recursion_from_All _ es (none-empty id es h).none_empty));
  }
