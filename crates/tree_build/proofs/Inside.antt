-- The trees of a directory are those of its entries, and then its own.
use Rattle.std.proofs.Common.{◌≡◌, ℕ, List, [], ◌∷◌, ◌++◌, map, None, Result, Ok, refl, sym, ap, ◌∙◌, subst}
use Rattle.git_model.specs.Repository.{Object}
use Rattle.git_model.specs.Tree.{TreeEntry}
use Rattle.content_pool.specs.Pool.{Cells}
use Rattle.tenant_tables.specs.View.{View}
use Rattle.tenant_tables.specs.Objects.{objects}
use Rattle.tenant_tables.specs.IsBackedBy.{IsBackedBy}
use Rattle.file_maps.specs.declared.fault.Fault.{Fault}
use Rattle.file_maps.specs.FileMap.{Listed}
use Rattle.file_maps.specs.Edits.{moved}
use Rattle.file_maps.specs.Trees.{Groups, file_of, tree_name, tree_id, tree_entries, nested_trees}
use Rattle.file_maps.specs.StoredFiles.{stored_files}
use Rattle.file_maps.specs.PlainTrees.{ListsPlain}
use Rattle.file_maps.specs.Storing.{StoresTrees, AddsSome, HasHoldsLeftBeside}
use Rattle.file_maps.proofs.StandingGood.{trees-good}
use Rattle.file_maps.proofs.Stored.{adds-none, some-then}
use Rattle.file_maps.proofs.Turns.{stores-last}
use Rattle.file_maps.proofs.TreeOf.{entry_of}
use Rattle.tree_build.specs.Shape.{Shape, none, row, Known, what_files, shape_files}
use Rattle.tree_build.specs.Branch.{IsShape}
use Rattle.tree_build.specs.Stores.{bare, parts_of, entries_of_shape, AreNamed, trees_of_parts}
use Rattle.tree_build.proofs.Held.{spread-parts, are-parts, have-parts, same-files, same-parts, adds-stored}
use Rattle.tree_build.proofs.Later.{Grows, parts-later, files-later}
use Rattle.tree_build.proofs.Rows.{rows-again, id-again}
use Rattle.tree_build.proofs.Spread.{nested-parts, entries-parts}

-- no file of a directory stands at its root
pub no-root : (k : Known) (s : Shape) → file_of (shape_files k s) ≡ None
no-root k none = refl
no-root k (row c w inside rest) = by (what_files k w (shape_files k inside)) (no-root k rest)
  where
    by : (fs : Listed) → file_of (shape_files k rest) ≡ None
        → file_of (moved (c ∷ []) fs ++ shape_files k rest) ≡ None
    by [] later = later
    by (f ∷ fs) later = refl

module _ (digest : List ℕ → List ℕ) (os : List Object) (s : Shape) (sound : IsShape os s) where
  abbrev parts : Groups
  parts = parts_of (stored_files os) s

  abbrev files : Listed
  files = shape_files (stored_files os) s

  pub nested-inside : nested_trees digest files ≡ trees_of_parts digest parts ++ map (entry_of digest) parts ∷ []
  nested-inside =
      ap (nested_trees digest) (spread-parts (stored_files os) s)
      ∙ nested-parts digest parts (are-parts os s sound)

  pub entries-inside : tree_entries digest files ≡ map (entry_of digest) parts
  entries-inside =
      ap (tree_entries digest) (spread-parts (stored_files os) s)
      ∙ entries-parts digest parts (are-parts os s sound)

-- what is the same but for names, in a table that has grown
module _ (os after : List Object) (grows : Grows os after) (s new : Shape) (sound : IsShape os s)
    (same : bare new ≡ bare s) where
  pub parts-stay : parts_of (stored_files after) new ≡ parts_of (stored_files os) s
  parts-stay = same-parts (stored_files after) new s same ∙ parts-later os after grows s sound

  pub files-stay : shape_files (stored_files after) new ≡ shape_files (stored_files os) s
  files-stay = same-files (stored_files after) new s same ∙ files-later os after grows s sound

-- the same once each of them is stored
module _ (digest : List ℕ → List ℕ) (p q : Cells) (u v : View) (s new : Shape)
    (sound : IsShape (objects p u.entries) s) (grows : Grows (objects p u.entries) (objects q v.entries))
    (same : bare new ≡ bare s) (after : IsShape (objects q v.entries) new) (named : AreNamed new)
    (stands : IsBackedBy digest q v.entries) where
  rows-are : map (entry_of digest) (parts_of (stored_files (objects p u.entries)) s) ≡ entries_of_shape new
  rows-are =
      ap (map (entry_of digest)) (sym (parts-stay (objects p u.entries) (objects q v.entries) grows s new sound same))
      ∙ rows-again digest (objects q v.entries) (trees-good digest q v.entries stands) (entries_of_shape new)
      (parts_of (stored_files (objects q v.entries)) new) (have-parts (objects q v.entries) new after named)

  nested-after : nested_trees digest (shape_files (stored_files (objects p u.entries)) s)
      ≡ trees_of_parts digest (parts_of (stored_files (objects p u.entries)) s) ++ entries_of_shape new ∷ []
  nested-after =
      nested-inside digest (objects p u.entries) s sound
      ∙ ap (λ (es : List TreeEntry). trees_of_parts digest (parts_of (stored_files (objects p u.entries)) s) ++ es ∷ []) rows-are

  id-after : tree_name digest (entries_of_shape new) ≡ tree_id digest (shape_files (stored_files (objects p u.entries)) s)
  id-after =
      ap (tree_name digest) (sym rows-are ∙ sym (entries-inside digest (objects p u.entries) s sound))

  -- then its own
  pub stores-own : (r : Cells) (w : View) (answer : Result (List ℕ) Fault)
      → StoresTrees {name = Unit {0}} (Ok (tt {0})) digest p u q v (trees_of_parts digest (parts_of (stored_files (objects p u.entries)) s)) (tt {0})
      → StoresTrees answer digest q v r w (entries_of_shape new ∷ []) (tree_name digest (entries_of_shape new))
      → StoresTrees answer digest p u r w (nested_trees digest (shape_files (stored_files (objects p u.entries)) s))
      (tree_id digest (shape_files (stored_files (objects p u.entries)) s))
  stores-own r w answer inside own =
      subst (StoresTrees answer digest p u r w (nested_trees digest (shape_files (stored_files (objects p u.entries)) s))) id-after
      (stores-last digest 0 answer p q r u v w (nested_trees digest (shape_files (stored_files (objects p u.entries)) s))
      (trees_of_parts digest (parts_of (stored_files (objects p u.entries)) s)) (entries_of_shape new)
      (tree_name digest (entries_of_shape new)) inside.2 inside.1 nested-after own)

-- a refusal inside
pub refused-inside : (digest : List ℕ → List ℕ) (p q : Cells) (u v : View) (s : Shape)
    → IsShape (objects p u.entries) s → IsBackedBy digest p u.entries → HasHoldsLeftBeside p u.entries
    → (e : Fault) → AddsSome digest p u q v (trees_of_parts digest (parts_of (stored_files (objects p u.entries)) s)) e
    → AddsSome digest p u q v (nested_trees digest (shape_files (stored_files (objects p u.entries)) s)) e
refused-inside digest p q u v s sound stands room e h =
    some-then digest p p q u u v (nested_trees digest (shape_files (stored_files (objects p u.entries)) s)) []
    (trees_of_parts digest (parts_of (stored_files (objects p u.entries)) s))
    (map (entry_of digest) (parts_of (stored_files (objects p u.entries)) s) ∷ []) e
    (adds-none digest p u stands room) refl h (nested-inside digest (objects p u.entries) s sound)

-- a directory that has its name already
pub stores-known : (digest : List ℕ → List ℕ) (p : Cells) (u : View) (id : List ℕ) (fs : Listed)
    → IsBackedBy digest p u.entries → HasHoldsLeftBeside p u.entries → ListsPlain (objects p u.entries) id fs
    → StoresTrees (Ok id) digest p u p u (nested_trees digest fs) (tree_id digest fs)
stores-known digest p u id fs stands room t =
    let adds = adds-stored digest p u stands room id fs t in
    (sym (id-again digest (objects p u.entries) (trees-good digest p u.entries stands) id fs t), adds.1, adds.0)
