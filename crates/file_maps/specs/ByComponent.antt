-- What stands below a path by the component that comes next: git-ls-tree(1) without -r.
use Rattle.std.specs.Prelude.{◌≡◌, ◌≢◌, ◌↔◌, ℕ, List, [], ◌∷◌, ◌++◌, Contains, AllPairs, IsSorted}
use Rattle.std.specs.Prelude.{Some, map, codes, ◌⊎◌}
use Rattle.std.specs.Ordering.{nat_cmp}
use Rattle.std.specs.Cmp.Lexicographic.{slice_cmp}
use Rattle.std.specs.declared.cmp.Ordering.TheVariants.{Less}
use Rattle.git_model.specs.Tree.{TreeEntry, tree_cmp}
use Rattle.file_maps.specs.declared.entry.Entry.{Entry}
use Rattle.file_maps.specs.FileMap.{Path, Listed, FileMap}
use Rattle.file_maps.specs.Edits.{files_at}
use Rattle.file_maps.specs.Trees.{Groups, tree_entries, directory, entry_at}

-- A component has a group exactly where files are at or below it, and the group is all of these, in
-- order. No component has two groups.
pub record IsByFirstComponent (m : FileMap) (top : Path) (groups : Groups) : Type 0 where
  pub files : (c : List ℕ) (files : Listed)
      → Contains groups (c, files) ↔ ((files ≡ files_at m (top ++ c ∷ [])) × (files ≢ []))
  pub once : AllPairs (λ g h. g.0 ≢ h.0) groups

-- A tree's entry without its name.
abbrev pub what : TreeEntry → Entry
what t = record { mode = t.mode; name = t.id }

-- The tree of a path lists what stands one component below it: each name once, in Git's order.
pub record IsTreeByComponent (digest : List ℕ → List ℕ) (m : FileMap) (top : Path)
    (es : List TreeEntry)
    : Type 0 where
  pub entries : (t : TreeEntry)
      → Contains es t ↔ (entry_at digest m (top ++ t.name ∷ []) ≡ Some (what t))
  pub once : AllPairs (λ a b. a.name ≢ b.name) es
  pub in_order : IsSorted tree_cmp es

-- ---- the trees of a directory and of all those below it, as git-write-tree(1) stores them

-- Children first: a directory comes before the one that it is below. Two directories of one tree,
-- and all that is below them, come in the tree's order, each name with a slash after it.
abbrev pub ComesBefore : Path → Path → Type 0
ComesBefore [] q = ⊥
ComesBefore (c ∷ p) [] = Unit {0}
ComesBefore (c ∷ p) (d ∷ q) =
    (c ≡ d → ComesBefore p q)
    × (c ≢ d → slice_cmp nat_cmp (c ++ codes "/") (d ++ codes "/") ≡ Less)

-- These are the tree of a path and those of all directories below it: of each directory once,
-- children first. So the last one is that of the path.
pub record AreByDirectory (digest : List ℕ → List ℕ) (m : FileMap) (top : Path)
    (trees : List (List TreeEntry)) : Type 0 where
  pub paths : List Path
  pub are : trees ≡ map (λ p. tree_entries digest (files_at m (top ++ p))) paths
  pub directories : (p : Path) → Contains paths p ↔ ((p ≡ [])
      ⊎ (entry_at digest m (top ++ p) ≡ Some (directory digest (files_at m (top ++ p)))))
  pub in_order : AllPairs ComesBefore paths
