-- Trees that are in a table already need no call: what storing them says holds with nothing done.
-- So a part of a branch that was never opened is stored by its name.
use Rattle.std.proofs.Common.{◌≡◌, ◌≢◌, ℕ, ◌≤◌, List, [], ◌∷◌, None, refl, sym, ap, ◌∙◌}
use Rattle.std.specs.List.{AllByRecursion}
use Rattle.git_model.specs.Tree.{TreeEntry}
use Rattle.content_pool.specs.Pool.{Cells}
use Rattle.tenant_tables.specs.View.{View}
use Rattle.tenant_tables.specs.Objects.{objects}
use Rattle.tenant_tables.specs.IsBackedBy.{IsBackedBy}
use Rattle.tenant_tables.proofs.TableLemmas.{PreservesOthers-refl}
use Rattle.file_maps.specs.FileMap.{Listed}
use Rattle.file_maps.specs.Trees.{depth_of, tree_name, entries_within}
use Rattle.file_maps.specs.Below.{group_trees}
use Rattle.file_maps.specs.PlainTrees.{HasSummary, ListsPlain}
use Rattle.file_maps.specs.Storing.{AddsTrees, HasHoldsLeftBeside, trees_fault}
use Rattle.file_maps.proofs.Listing.{tree-sound}
use Rattle.file_maps.proofs.StandingGood.{trees-good}
use Rattle.file_maps.proofs.StoredAgain.{Held, entries-again, trees-held, kept-all, unrefused-all}

module _ (digest : List ℕ → List ℕ) (p : Cells) (v : View)
    (stands : IsBackedBy digest p v.entries) where
  abbrev Meant : List ℕ → Type 0
  Meant = HasSummary (objects p v.entries)

  pub adds-held : HasHoldsLeftBeside p v.entries → (trees : List (List TreeEntry))
      → AllByRecursion
      (Held digest (objects p v.entries) Meant (trees-good digest p v.entries stands)) trees
      → AddsTrees digest p v p v trees
  adds-held room trees held = record {
    stands = stands;
    room = room;
    others = PreservesOthers-refl p v.entries;
    objects = sym
        (kept-all digest (objects p v.entries) Meant (trees-good digest p v.entries stands) trees held);
    committed = refl;
    kept = λ id s h. h;
  }

  -- a directory that was not opened, in a tree of any depth
  unopened-held : (id c : List ℕ) (fs : Listed) → ListsPlain (objects p v.entries) id fs → fs ≢ []
      → (n : ℕ) → depth_of fs ≤ n
      → AllByRecursion (Held digest (objects p v.entries) Meant (trees-good digest p v.entries stands))
      (group_trees digest n (c, fs))
  unopened-held id c [] t some n deep = absurd (some refl)
  unopened-held id c (([], x) ∷ fs) t some n deep =
      absurd ((tree-sound (objects p v.entries) id (([], x) ∷ fs) t.tree).0.below_the_root refl)
  unopened-held id c (((d ∷ q), x) ∷ fs) t some n deep =
      trees-held digest (objects p v.entries) Meant (trees-good digest p v.entries stands) id
      (((d ∷ q), x) ∷ fs) t.tree t.plain n deep

  pub adds-unopened : HasHoldsLeftBeside p v.entries → (id c : List ℕ) (fs : Listed)
      → ListsPlain (objects p v.entries) id fs → fs ≢ [] → (n : ℕ) → depth_of fs ≤ n
      → AddsTrees digest p v p v (group_trees digest n (c, fs)) ×
      (trees_fault digest (group_trees digest n (c, fs)) (objects p v.entries) ≡ None)
  adds-unopened room id c fs t some n deep =
      let held = unopened-held id c fs t some n deep in (
        adds-held room (group_trees digest n (c, fs)) held,
        unrefused-all digest (objects p v.entries) Meant (trees-good digest p v.entries stands)
            (group_trees digest n (c, fs)) held,
      )

  -- its name in the tree above
  pub name-unopened : (id : List ℕ) (fs : Listed) → ListsPlain (objects p v.entries) id fs → (n : ℕ)
      → depth_of fs ≤ n → tree_name digest (entries_within digest n fs) ≡ id
  name-unopened id fs t n deep =
      let good = trees-good digest p v.entries stands in
      ap (tree_name digest) (entries-again digest (objects p v.entries) Meant good id fs t.tree t.plain n deep)
      ∙ sym (good.named id t.tree.direct t.tree.tree)
