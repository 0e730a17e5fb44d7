-- Entries whose directories are stored fit a table, with the summary of their files; and once their
-- tree is added, it lists these files.
use Rattle.std.proofs.Common.{◌≡◌, ℕ, ◌≤◌, List, [], ◌∷◌, map, Option, Some, None, refl, sym, ap, ◌∙◌, subst, arith}
use Rattle.std.specs.List.{AllByRecursion}
use Rattle.git_model.specs.ObjectName.{IsObjectName}
use Rattle.git_model.specs.Repository.{Object, object_named, with_object}
use Rattle.git_model.specs.Tree.{TreeEntry, CanWriteTree, tree_contents}
use Rattle.content_pool.specs.Pool.{Cells}
use Rattle.tenant_tables.specs.declared.fault.Fault.{Fault as TableFault}
use Rattle.tenant_tables.specs.View.{View, Entries, summary_of}
use Rattle.tenant_tables.specs.Objects.{objects}
use Rattle.tenant_tables.specs.IsBackedBy.{IsBackedBy}
use Rattle.tenant_tables.specs.Trees.{IsTreeOf}
use Rattle.tenant_tables.specs.Adding.{store_fault}
use Rattle.tenant_tables.proofs.SumsIn.{table-sums}
use Rattle.file_maps.specs.declared.entry.Entry.{Entry}
use Rattle.file_maps.specs.FileMap.{Listed}
use Rattle.file_maps.specs.Trees.{Groups, grouped, direct, depth_of, tree_content, tree_name, entries_within}
use Rattle.file_maps.specs.StoredTree.{ListsTree}
use Rattle.file_maps.specs.Storing.{AddsTrees, trees_fault, or_later}
use Rattle.file_maps.specs.Storable.{AreStorable, files_summary}
use Rattle.file_maps.proofs.Nested.{direct_of}
use Rattle.file_maps.proofs.Sums.{IsKnown, is-tree}
use Rattle.file_maps.proofs.ListedLater.{lists-later}
use Rattle.file_maps.proofs.KnownTrees.{plain-sum}
use Rattle.file_maps.proofs.StoringHeld.{name-unopened}
use Rattle.file_maps.proofs.ListedLater.{named-added}
use Rattle.file_maps.proofs.TreeOf.{depth-groups}
use Rattle.tree_build.specs.Parts.{spread, AreParts}
use Rattle.tree_build.specs.Rows.{IsPart, a_file, a_directory, HaveParts}
use Rattle.tree_build.proofs.Spread.{grouped-spread}
use Rattle.tree_build.proofs.Rows.{lists-parts, no_file}

module _ (digest : List ℕ → List ℕ) (pool : Cells) (entries : Entries) (stands : IsBackedBy digest pool entries) where
  abbrev os : List Object
  os = objects pool entries

  -- in trees of any depth
  row-within : (n : ℕ) {e : TreeEntry} {g : List ℕ × Listed} → IsPart os e g → depth_of g.1 ≤ n
      → direct_of digest n g ≡ e
  row-within n (a_file e ne) deep = refl
  row-within n (a_directory e fs is t some) deep =
      ap (λ (o : Option Entry). direct e.name o (tree_name digest (entries_within digest n fs)))
      (no_file os e.id fs t)
      ∙ (let name = name-unopened digest pool (record { entries = entries; committed = 0 }) stands e.id fs t n deep in
      let back = sym is in λ i. record { mode = back i; name = e.name; id = name i })

  rows-within : (n : ℕ) (es : List TreeEntry) (parts : Groups) → HaveParts os es parts
      → AllByRecursion (λ g. depth_of g.1 ≤ n) parts → map (direct_of digest n) parts ≡ es
  rows-within n [] [] h deep = refl
  rows-within n [] (g ∷ parts) h deep = absurd h
  rows-within n (e ∷ es) [] h deep = absurd h
  rows-within n (e ∷ es) (g ∷ parts) h deep =
      let one = row-within n h.0 deep.0 in let rest = rows-within n es parts h.1 deep.1 in
      λ i. one i ∷ rest i

  known-one : (n : ℕ) {e : TreeEntry} {g : List ℕ × Listed} → IsPart os e g → depth_of g.1 ≤ n
      → IsKnown digest n entries g
  known-one n (a_file e ne) deep = λ none. cc none
  known-one n (a_directory e fs is t some) deep = λ none.
      ap (λ (id : List ℕ). summary_of id entries)
      (name-unopened digest pool (record { entries = entries; committed = 0 }) stands e.id fs t n deep)
      ∙ table-sums digest pool entries stands e.id ∙ plain-sum os e.id fs t

  known-all : (n : ℕ) (es : List TreeEntry) (parts : Groups) → HaveParts os es parts
      → AllByRecursion (λ g. depth_of g.1 ≤ n) parts → AllByRecursion (IsKnown digest n entries) parts
  known-all n [] [] h deep = tt
  known-all n [] (g ∷ parts) h deep = absurd h
  known-all n (e ∷ es) [] h deep = absurd h
  known-all n (e ∷ es) (g ∷ parts) h deep =
      (known-one n h.0 deep.0, known-all n es parts h.1 deep.1)

  pub fits-rows : (es : List TreeEntry) (parts : Groups) → HaveParts os es parts → AreParts parts
      → AreStorable (spread parts) → AllByRecursion (λ e. IsObjectName e.id) es
      → IsTreeOf entries (tree_contents es) (files_summary (spread parts)) es
  fits-rows es parts h are storable ids =
      let fs = spread parts in
      let n = depth_of fs in
      let same : grouped fs ≡ parts = grouped-spread parts are in
      let deep : AllByRecursion (λ g. depth_of g.1 ≤ n) parts =
      subst (AllByRecursion (λ g. depth_of g.1 ≤ n)) same (depth-groups fs n (omega arith)) in
      let rows : map (direct_of digest n) (grouped fs) ≡ es =
      ap (map (direct_of digest n)) same ∙ rows-within n es parts h deep in
      let fits = is-tree digest n n entries fs (tree_contents es) refl storable
      (subst (AllByRecursion (IsKnown digest n entries)) (sym same) (known-all n es parts h deep))
      (subst (AllByRecursion (λ e. IsObjectName e.id)) (sym rows) ids)
      (ap tree_contents (sym rows)) in
      subst (IsTreeOf entries (tree_contents es) (files_summary fs)) rows fits

no_fault : (es : List TreeEntry) (id : List ℕ) (os : List Object) → or_later (store_fault id (tree_content es) os) None ≡ None
    → store_fault id (tree_content es) os ≡ None
no_fault es id os h = by (store_fault id (tree_content es) os) h
  where
    by : (f : Option TableFault) → or_later f None ≡ None → f ≡ None
    by (Some e) k = cc k
    by None k = refl

-- once it is added, a tree is there under its name
pub added-named : (digest : List ℕ → List ℕ) (p q : Cells) (u v : View) (es : List TreeEntry)
    → trees_fault digest (es ∷ []) (objects p u.entries) ≡ None → AddsTrees digest p u q v (es ∷ [])
    → object_named (tree_name digest es) (objects q v.entries) ≡ Some (tree_content es)
added-named digest p q u v es none adds =
    let os = objects p u.entries in
    ap (object_named (tree_name digest es)) adds.objects
    ∙ named-added (tree_name digest es) (tree_content es) os (no_fault es (tree_name digest es) os none)

-- and lists the files of its entries
pub added-lists : (digest : List ℕ → List ℕ) (p q : Cells) (u v : View) (es : List TreeEntry) (parts : Groups)
    → HaveParts (objects p u.entries) es parts → CanWriteTree es
    → trees_fault digest (es ∷ []) (objects p u.entries) ≡ None → AddsTrees digest p u q v (es ∷ [])
    → ListsTree (objects q v.entries) (tree_name digest es) (spread parts)
added-lists digest p q u v es parts h writable none adds =
    let os = objects p u.entries in
    let after = with_object (tree_name digest es) (tree_content es) os in
    subst (λ (os : List Object). ListsTree os (tree_name digest es) (spread parts)) (sym adds.objects)
    (record {
      direct = es;
      tree = record {
        content = named-added (tree_name digest es) (tree_content es) os
            (no_fault es (tree_name digest es) os none);
        entries = writable;
      };
      lists = lists-later (tree_name digest es) (tree_content es) (lists-parts os es parts h);
    })
