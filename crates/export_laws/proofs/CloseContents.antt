-- A reached commit that is told ends as itself: its trees and its contents are those that it had.
use Rattle.std.proofs.Common.{◌≡◌, ℕ, true, List, [], ◌∷◌, Option, None, Some, Result, Ok, sym, ap, ◌∙◌}
use Rattle.std.specs.Option.{option_map}
use Rattle.git_model.specs.declared.kind.Kind.TheVariants as kind
use Rattle.git_model.specs.Commit.{Commit, commit_contents}
use Rattle.git_model.specs.CommitReading.{commit_read}
use Rattle.git_model.specs.Content.{Content, content_from, name_by}
use Rattle.git_model.specs.GoodRepository.{AreObjects, IsValid}
use Rattle.git_model.specs.Reach.{is_referred_to}
use Rattle.git_model.specs.References.{kind_named, reference}
use Rattle.git_model.specs.Repository.{Object, Repository, object_named, with_object}
use Rattle.git_model.proofs.CommitReadings.{commit_back}
use Rattle.tenant_tables.specs.declared.fault.Fault.{Fault as TableFault}
use Rattle.tenant_tables.specs.Adding.{store_fault}
use Rattle.file_maps.specs.declared.fault.Fault.{Fault as FilesFault}
use Rattle.file_maps.specs.FileMap.{Listed, listed}
use Rattle.file_maps.specs.StoredFiles.{stored_files, stored_map}
use Rattle.file_maps.specs.StoredTree.{ListsTree}
use Rattle.file_maps.specs.Storing.{trees_fault, with_trees}
use Rattle.file_maps.specs.Trees.{nested_trees, tree_id}
use Rattle.file_maps.specs.StoredAgain.{Every}
use Rattle.file_maps.proofs.GoodObjects.{files-of, good-trees}
use Rattle.file_maps.proofs.StoredAgain.{stored-already}
use Rattle.open_commits.specs.declared.fault.Fault.{Fault}
use Rattle.open_commits.specs.Ends.{Closed, closed, commit_content, commit_of}
use Rattle.git_model.specs.Results.{and_then}
use Rattle.open_commits.specs.OpenCommit.{OpenCommit}
use Rattle.open_commits.specs.Storing.{stored as stored_by, stored_or, trees_or, trees_stored}
use Rattle.export_laws.specs.Commits.{commit_told}
use Rattle.export_laws.specs.Order.{names_with, trees_of, with_named}
use Rattle.export_laws.specs.Told.{AreOf}
use Rattle.export_laws.proofs.CloseStored.{AreStored, trees-stored}
use Rattle.export_laws.proofs.CloseTrees.{trees-reached}
use Rattle.export_laws.proofs.Known.{IsEarlier, IsKnown, reached-on}
use Rattle.export_laws.proofs.OpenTrees.{files-listed}
use Rattle.export_laws.proofs.OrderNames.{added-named, named-both}
use Rattle.export_laws.proofs.OrderStored.{stored-trees}
use Rattle.export_laws.proofs.Storing.{IsStored, object_of, stored}

-- the bytes of a commit are those of what they read as
commit-written : (os : List Object) (bytes : List ℕ) → IsValid os kind.Commit bytes
    → bytes ≡ commit_contents (commit_read bytes)
commit-written os bytes (c, is) =
    let back : c ≡ commit_read bytes = sym (ap commit_read is.contents ∙ commit_back c is.writable) in
    is.contents ∙ ap commit_contents back

-- ---- an end that is not refused

module _ (digest : List ℕ → List ℕ) (held : List Object) where
  abbrev ended : Listed → Content → Result Closed Fault
  ended fs content =
      and_then (trees_stored digest fs held) (λ with_all.
      and_then (stored_by digest content with_all) (λ more.
      Ok (record { id = name_by digest content; objects = more })))

  module _ (fs : Listed) (id : List ℕ) (content : Content) (named : id ≡ name_by digest content) where
    abbrev with_all : List Object
    with_all = with_trees digest (nested_trees digest fs) held

    ends-well : trees_fault digest (nested_trees digest fs) held ≡ None
        → store_fault id content with_all ≡ None
        → ended fs content ≡ Ok (record { id = id; objects = with_object id content with_all })
    ends-well trees own =
        ap (λ (f : Option FilesFault).
        and_then (trees_or digest (nested_trees digest fs) held f) (λ all.
        and_then (stored_by digest content all) (λ more.
        Ok (record { id = name_by digest content; objects = more })))) trees
        ∙ ap (λ (f : Option TableFault).
        and_then (stored_or (name_by digest content) content with_all f) (λ more.
        Ok (record { id = name_by digest content; objects = more })))
        (ap (λ (n : List ℕ). store_fault n content with_all) (sym named) ∙ own)
        ∙ ap (λ (n : List ℕ). Ok (record { id = n; objects = with_object n content with_all })) (sym named)

    closes : (commit : OpenCommit) → listed commit.files ≡ fs
        → commit_content digest commit ≡ content
        → trees_fault digest (nested_trees digest fs) held ≡ None
        → store_fault id content with_all ≡ None
        → closed digest held commit ≡ Ok (record { id = id; objects = with_object id content with_all })
    closes commit files is trees own =
        ap (λ (l : Listed). ended l (commit_content digest commit)) files
        ∙ ap (ended fs) is ∙ ends-well trees own

-- ---- that of a reached commit

-- the objects then: its trees come first
abbrev pub left : (List ℕ → List ℕ) → List Object → List ℕ → List ℕ → List Object → List Object
left digest os id bytes held =
    with_object id (content_from kind.Commit bytes)
    (with_trees digest (nested_trees digest (stored_files os (commit_read bytes).tree)) held)

module _ (digest : List ℕ → List ℕ) (repository : Repository) (good : AreObjects digest repository.objects)
    (first : List Object) (id bytes : List ℕ)
    (what : IsKnown digest repository.objects first (object_of id (content_from kind.Commit bytes)))
    (reached : is_referred_to repository id ≡ true) where
  abbrev os : List Object
  os = repository.objects

  abbrev c : Commit
  c = commit_read bytes

  abbrev fs : Listed
  fs = stored_files os c.tree

  tree : IsEarlier os first (reference kind.Tree c.tree)
  tree = what.refers.0

  tree-kind : kind_named c.tree os ≡ Some kind.Tree
  tree-kind = ap (option_map (λ (x : Content). x.kind)) tree.here ∙ ap Some tree.kind

  lists : ListsTree os c.tree fs
  lists = (files-of digest os good c.tree tree-kind).listed

  of-tree : listed (stored_map os c.tree) ≡ fs
  of-tree = files-listed digest os good c.tree tree-kind

  same-tree : tree_id digest (listed (stored_map os c.tree)) ≡ c.tree
  same-tree =
      ap (tree_id digest) of-tree
      ∙ (stored-already digest os Every (good-trees digest os good) c.tree fs lists tt).name

  content-is : commit_content digest (commit_told os id c) ≡ content_from kind.Commit bytes
  content-is =
      ap (λ (t : List ℕ). content_from kind.Commit (commit_contents (commit_of t (commit_told os id c)))) same-tree
      ∙ ap (content_from kind.Commit) (sym (commit-written os bytes what.is.valid))

  tree-reached : is_referred_to repository c.tree ≡ true
  tree-reached = (reached-on digest repository good id (content_from kind.Commit bytes) what.named reached).0

  module _ (held : List Object) (of : AreOf repository held) where
    abbrev with_its_trees : List Object
    with_its_trees = with_trees digest (nested_trees digest fs) held

    abbrev more : List Object
    more = left digest os id bytes held

    trees : AreStored digest repository (nested_trees digest fs) held
    trees =
        trees-stored digest repository good.few (nested_trees digest fs) held
        (trees-reached digest repository good c.tree fs tree-reached lists) of

    now : IsStored repository with_its_trees id (content_from kind.Commit bytes)
    now =
        stored repository with_its_trees trees.of good.few id (content_from kind.Commit bytes) what.named
        reached what.is.short

    pub closed-itself : closed digest held (commit_told os id c) ≡ Ok (record { id = id; objects = more })
    closed-itself =
        closes digest held fs id (content_from kind.Commit bytes) what.is.named (commit_told os id c)
        of-tree content-is trees.unrefused now.unrefused

    pub left-of : AreOf repository more
    left-of = now.of

    -- in which order they came
    pub left-order : more ≡ with_named os (names_with os (object_of id (content_from kind.Commit bytes))) held
    left-order =
        ap (with_object id (content_from kind.Commit bytes))
        (stored-trees digest repository good c.tree fs lists
        (trees-reached digest repository good c.tree fs tree-reached lists) held)
        ∙ added-named os id (content_from kind.Commit bytes) (with_named os (trees_of os c.tree) held) what.named
        ∙ sym (named-both os (trees_of os c.tree) (id ∷ []) held)

    pub left-has : object_named id more ≡ Some (content_from kind.Commit bytes)
    left-has = now.named

    pub left-kept : (x : List ℕ) (d : Content) → object_named x held ≡ Some d
        → object_named x more ≡ Some d
    left-kept x d is = now.kept x d (trees.kept x d is)
