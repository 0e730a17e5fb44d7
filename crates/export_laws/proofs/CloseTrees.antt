-- The trees of a reached commit are objects of the repository, and reached too.
use Rattle.std.proofs.Common.{◌≡◌, ℕ, ◌≤◌, Bool, true, List, [], ◌∷◌, length, filter, Some, refl, sym, ap, ◌∙◌, subst, inl, inr, arith}
use Rattle.std.specs.List.{AllByRecursion}
use Rattle.std.specs.Str.{bytes_eq}
use Rattle.std.proofs.lemmas.Bool.{cases_Bool}
use Rattle.std.proofs.lemmas.Slice.Eq.{bytes_eq-Decides}
use Rattle.std.proofs.lemmas.List.Elements.{All-from_recursion, recursion_from_All}
use Rattle.git_model.specs.declared.file_mode.FileMode.TheVariants as mode
use Rattle.git_model.specs.Content.{Content}
use Rattle.git_model.specs.GoodRepository.{AreObjects}
use Rattle.git_model.specs.Reach.{is_referred_to}
use Rattle.git_model.specs.References.{Reference, tree_references}
use Rattle.git_model.specs.Repository.{Object, Repository, object_named}
use Rattle.git_model.specs.Tree.{TreeEntry, tree_contents}
use Rattle.git_model.proofs.Places.{first_named, later_named, nothing_named, of_entries}
use Rattle.git_model.proofs.TreeReadings.{tree_back}
use Rattle.tenant_tables.specs.declared.table.TheConstants.{CONTENTS_LIMIT}
use Rattle.file_maps.specs.FileMap.{Listed}
use Rattle.file_maps.specs.StoredAgain.{AreTreesGood, Every, IsFilled}
use Rattle.file_maps.specs.StoredTree.{HasTree, Lists, nothing, first_file, first_directory, ListsTree}
use Rattle.file_maps.specs.Trees.{depth_of, nested_trees, tree_content, tree_name}
use Rattle.file_maps.proofs.GoodObjects.{good-trees}
use Rattle.file_maps.proofs.StoredAgain.{trees-held}
use Rattle.export_text.specs.Reached.{reached_objects}
use Rattle.export_laws.proofs.Known.{reached-on}

-- ---- objects whose names are in a set

module _ (set : List ℕ → Bool) where
  abbrev within : List Object → List Object
  within os = filter (λ (o : Object). set o.id) os

  found-within : (id : List ℕ) (os : List Object) → set id ≡ true
      → object_named id (within os) ≡ object_named id os
  found-within id [] in_set = refl
  found-within id (o ∷ os) in_set = elim (cases_Bool (bytes_eq id o.id)) [
    | inl yea ↦
        let has : set o.id ≡ true = ap set (sym ((bytes_eq-Decides id o.id).0 yea)) ∙ in_set in
        rw has (first_named id o (within os) yea ∙ sym (first_named id o os yea))
    | inr nay ↦ elim (cases_Bool (set o.id)) [
      | inl has ↦ rw has (later_named id o (within os) nay ∙ found-within id os in_set ∙ sym (later_named id o os nay))
      | inr not ↦ rw not (found-within id os in_set ∙ sym (later_named id o os nay))
    ]
  ]

  in-set : (id : List ℕ) (os : List Object) (c : Content) → object_named id (within os) ≡ Some c
      → set id ≡ true
  in-set id [] c is = let none = nothing_named id in cc
  in-set id (o ∷ os) c is = elim (cases_Bool (set o.id)) [
    | inl has ↦ elim (cases_Bool (bytes_eq id o.id)) [
      | inl yea ↦ ap set ((bytes_eq-Decides id o.id).0 yea) ∙ has
      | inr nay ↦ in-set id os c (sym (later_named id o (within os) nay) ∙ (rw has at is))
    ]
    | inr not ↦ in-set id os c (rw not at is)
  ]

-- What is asked of a tree that is to be stored among objects of a repository.
pub record IsReachedTree (digest : List ℕ → List ℕ) (repository : Repository) (es : List TreeEntry) : Type 0 where
  pub named : object_named (tree_name digest es) repository.objects ≡ Some (tree_content es)
  pub reached : is_referred_to repository (tree_name digest es) ≡ true
  pub short : length (tree_contents es) ≤ CONTENTS_LIMIT

module _ (digest : List ℕ → List ℕ) (repository : Repository) (good : AreObjects digest repository.objects) where
  abbrev os : List Object
  os = repository.objects

  abbrev reached : List Object
  reached = reached_objects repository

  to-reached : (id : List ℕ) (es : List TreeEntry) → is_referred_to repository id ≡ true
      → HasTree os id es → HasTree reached id es
  to-reached id es h has = record {
    content = found-within (is_referred_to repository) id os h ∙ has.content;
    entries = has.entries;
  }

  is-reached : (id : List ℕ) (es : List TreeEntry) → HasTree reached id es
      → is_referred_to repository id ≡ true
  is-reached id es has = in-set (is_referred_to repository) id os (tree_content es) has.content

  from-reached : (id : List ℕ) (es : List TreeEntry) → HasTree reached id es → HasTree os id es
  from-reached id es has = record {
    content = sym (found-within (is_referred_to repository) id os (is-reached id es has)) ∙ has.content;
    entries = has.entries;
  }

  -- the trees of the directories of a reached tree are reached
  abbrev DirectoriesReached : List TreeEntry → Type 0
  DirectoriesReached es =
      AllByRecursion (λ (e : TreeEntry). e.mode ≡ mode.Directory → is_referred_to repository e.id ≡ true) es

  directories-reached : (id : List ℕ) (es : List TreeEntry) → HasTree os id es
      → is_referred_to repository id ≡ true → DirectoriesReached es
  directories-reached id es has h =
      of_entries (λ (r : Reference). is_referred_to repository r.id ≡ true) es
      (All-from_recursion (λ (r : Reference). is_referred_to repository r.id ≡ true) (tree_references es)
      (subst (λ (ds : List TreeEntry). AllByRecursion (λ (r : Reference). is_referred_to repository r.id ≡ true) (tree_references ds))
      (tree_back es has.entries)
      (reached-on digest repository good id (tree_content es) has.content h)))

  -- ---- reached trees among themselves

  filled-reached : (es : List TreeEntry) → AllByRecursion (IsFilled os Every) es → DirectoriesReached es
      → AllByRecursion (IsFilled reached Every) es
  filled-reached [] full h = tt
  filled-reached (e ∷ es) full h = (first, filled-reached es full.1 h.1)
    where
      first : IsFilled reached Every e
      first is =
          let t = full.0 is in record {
            inside = t.inside;
            tree = to-reached e.id t.inside (h.0 is) t.tree;
            some = t.some;
            meant = tt;
          }

  good-reached : AreTreesGood digest reached Every
  good-reached = record {
    named = λ id es has. (good-trees digest os good).named id es (from-reached id es has);
    short = λ id es has. (good-trees digest os good).short id es (from-reached id es has);
    filled = λ id es has meant.
        let there = from-reached id es has in
        All-from_recursion (IsFilled reached Every) es
        (filled-reached es
        (recursion_from_All (IsFilled os Every) es ((good-trees digest os good).filled id es there tt))
        (directories-reached id es there (is-reached id es has)));
  }

  lists-reached : {es : List TreeEntry} {fs : Listed} → Lists os es fs → DirectoriesReached es
      → Lists reached es fs
  lists-reached nothing h = nothing
  lists-reached (first_file e es files ne l) h = first_file e es files ne (lists-reached l h.1)
  lists-reached (first_directory e es inside below files is has sub l) h =
      first_directory e es inside below files is (to-reached e.id inside (h.0 is) has)
      (lists-reached sub (directories-reached e.id inside has (h.0 is))) (lists-reached l h.1)

  tree-reached : (id : List ℕ) (fs : Listed) → is_referred_to repository id ≡ true
      → ListsTree os id fs → ListsTree reached id fs
  tree-reached id fs h t = record {
    direct = t.direct;
    tree = to-reached id t.direct h t.tree;
    lists = lists-reached t.lists (directories-reached id t.direct t.tree h);
  }

  -- ---- all trees that the files of a reached tree make

  each-known : (trees : List (List TreeEntry))
      → AllByRecursion (λ (es : List TreeEntry). HasTree reached (tree_name digest es) es) trees
      → AllByRecursion (IsReachedTree digest repository) trees
  each-known [] h = tt
  each-known (es ∷ trees) h = (
    record {
      named = (from-reached (tree_name digest es) es h.0).content;
      reached = is-reached (tree_name digest es) es h.0;
      short = good-reached.short (tree_name digest es) es h.0;
    },
    each-known trees h.1,
  )

  pub trees-reached : (id : List ℕ) (fs : Listed) → is_referred_to repository id ≡ true
      → ListsTree os id fs → AllByRecursion (IsReachedTree digest repository) (nested_trees digest fs)
  trees-reached id fs h t =
      each-known (nested_trees digest fs)
      (trees-held digest reached Every good-reached id fs (tree-reached id fs h t) tt (depth_of fs) (omega arith))
