-- The tree of a directory in which each directory is stored.
use Rattle.std.proofs.Common.{◌≡◌, ℕ, List, [], ◌∷◌, Option, Result, Ok, Err, Some, IfOk, refl, sym, ap, ◌∙◌, subst}
use Rattle.std.specs.Prelude.{IsSome}
use Rattle.std.specs.List.{AllByRecursion}
use Rattle.git_model.specs.ObjectName.{IsObjectName}
use Rattle.git_model.specs.Repository.{object_named}
use Rattle.git_model.specs.Tree.{TreeEntry, tree_contents}
use Rattle.content_pool.specs.Pool.{Cells}
use Rattle.tenant_tables.specs.View.{View}
use Rattle.tenant_tables.specs.Objects.{objects}
use Rattle.tenant_tables.specs.IsBackedBy.{IsBackedBy}
use Rattle.tenant_tables.specs.Trees.{IsTreeOf, FitsTree, IsWithin, tree_summary}
use Rattle.tenant_tables.specs.declared.summary.Summary.{Summary}
use Rattle.tenant_tables.proofs.SumsIn.{table-sums}
use Rattle.file_maps.specs.declared.fault.Fault.{Fault}
use Rattle.file_maps.specs.FileMap.{Listed}
use Rattle.file_maps.specs.Trees.{tree_content, tree_name}
use Rattle.file_maps.specs.Storable.{AreStorable, files_summary}
use Rattle.file_maps.specs.StoredFiles.{stored_files}
use Rattle.file_maps.specs.PlainTrees.{HasSummary, ListsPlain}
use Rattle.file_maps.specs.StoredTree.{HasTree}
use Rattle.file_maps.specs.Storing.{AddsTrees, StoresTrees, HasHoldsLeftBeside}
use Rattle.file_maps.proofs.StandingGood.{trees-good}
use Rattle.file_maps.proofs.StoredTable.{fitting-summary}
use Rattle.file_maps.proofs.StoredAgain.{unrefused-all}
use Rattle.file_maps.proofs.StoringHeld.{adds-held}
use Rattle.file_maps.proofs.Stored.{depth-bound, longest-bound}
use Rattle.tree_build.specs.Branch.{IsShape}
use Rattle.tree_build.specs.Shape.{Shape, shape_files}
use Rattle.tree_build.specs.Rows.{HaveParts}
use Rattle.tree_build.specs.Stores.{entries_of_shape, AreNamed, parts_of}
use Rattle.tree_build.specs.Sums.{IsSmall}
use Rattle.tree_build.proofs.Fitting.{added-lists, added-named, fits-rows}
use Rattle.tree_build.proofs.Held.{spread-parts, are-parts, have-parts}

files-small : (fs : Listed) → AreStorable fs → IsSmall (files_summary fs)
files-small fs h = record { files = h.few; depth = depth-bound fs h.each; longest = longest-bound fs h.each }

module _ (digest : List ℕ → List ℕ) (p : Cells) (u : View) (stands : IsBackedBy digest p u.entries) (s : Shape)
    (sound : IsShape (objects p u.entries) s) (named : AreNamed s)
    (storable : AreStorable (shape_files (stored_files (objects p u.entries)) s)) where
  fs : Listed
  fs = shape_files (stored_files (objects p u.entries)) s

  parts : HaveParts (objects p u.entries) (entries_of_shape s) (parts_of (stored_files (objects p u.entries)) s)
  parts = have-parts (objects p u.entries) s sound named

  fits : AllByRecursion (λ e. IsObjectName e.id) (entries_of_shape s)
      → IsTreeOf u.entries (tree_contents (entries_of_shape s)) (files_summary (shape_files (stored_files (objects p u.entries)) s)) (entries_of_shape s)
  fits ids =
      let same = spread-parts (stored_files (objects p u.entries)) s in
      subst (λ (l : Listed). IsTreeOf u.entries (tree_contents (entries_of_shape s)) (files_summary l) (entries_of_shape s)) (sym same)
      (fits-rows digest p u.entries stands (entries_of_shape s) (parts_of (stored_files (objects p u.entries)) s) parts
      (are-parts (objects p u.entries) s sound) (subst AreStorable same storable) ids)

  module _ (rows : List TreeEntry) (is : rows ≡ entries_of_shape s) (ids : AllByRecursion (λ e. IsObjectName e.id) rows) where
    own : AllByRecursion (λ e. IsObjectName e.id) (entries_of_shape s)
    own = subst (AllByRecursion (λ e. IsObjectName e.id)) is ids

    pub rows-small : IsSmall (tree_summary u.entries rows)
    rows-small =
        subst (λ (es : List TreeEntry). IsSmall (tree_summary u.entries es)) (sym is)
        (subst IsSmall (fits own).sums (files-small _ storable))

    pub rows-fit : (sum : Summary) → sum ≡ tree_summary u.entries rows → FitsTree u.entries (tree_contents rows) sum
    rows-fit sum sums =
        subst (λ (es : List TreeEntry). FitsTree u.entries (tree_contents es) sum) (sym is) (
          entries_of_shape s,
          (let f = fits own in record {
            writable = f.writable;
            contents = f.contents;
            directories = f.directories;
            sums = sums ∙ ap (tree_summary u.entries) is;
            within =
                subst IsWithin (f.sums ∙ sym (sums ∙ ap (tree_summary u.entries) is)) f.within;
          }),
        )

    -- once it is added, it has its summary
    added-plain : (q : Cells) (v : View) → AddsTrees digest p u q v (entries_of_shape s ∷ []) → (id : List ℕ)
        → object_named id (objects q v.entries) ≡ Some (tree_content (entries_of_shape s))
        → HasSummary (objects q v.entries) id
    added-plain q v adds id there =
        let f = fits own in
        subst (λ (o : Option Summary). IsSome o)
        (sym (fitting-summary digest q v.entries adds.stands u.entries adds.kept (tree_contents (entries_of_shape s))
        (files_summary (shape_files (stored_files (objects p u.entries)) s)) (entries_of_shape s, f) id there)
        ∙ table-sums digest q v.entries adds.stands id) refl

    -- and lists the files
    pub rows-list : (q : Cells) (v : View) (answer : Result (List ℕ) Fault)
        → StoresTrees answer digest p u q v (entries_of_shape s ∷ []) (tree_name digest (entries_of_shape s))
        → IfOk answer (λ id. ListsPlain (objects q v.entries) id (shape_files (stored_files (objects p u.entries)) s))
    rows-list q v (Ok id) h =
        let t = added-lists digest p q u v (entries_of_shape s) (parts_of (stored_files (objects p u.entries)) s) parts (fits own).writable h.1 h.2 in
        subst (λ (x : List ℕ). ListsPlain (objects q v.entries) x (shape_files (stored_files (objects p u.entries)) s)) (sym h.0)
        (subst (ListsPlain (objects q v.entries) (tree_name digest (entries_of_shape s)))
        (sym (spread-parts (stored_files (objects p u.entries)) s)) (record {
          tree = t;
          plain = added-plain q v h.2 (tree_name digest (entries_of_shape s))
              (added-named digest p q u v (entries_of_shape s) h.1 h.2);
        }))
    rows-list q v (Err e) h = tt

  -- a tree that is there already is kept
  pub tree-kept : HasHoldsLeftBeside p u.entries → AllByRecursion (λ e. IsObjectName e.id) (entries_of_shape s) → (id : List ℕ)
      → object_named id (objects p u.entries) ≡ Some (tree_content (entries_of_shape s))
      → StoresTrees (Ok id) digest p u p u (entries_of_shape s ∷ []) (tree_name digest (entries_of_shape s))
  tree-kept room ids id there =
      let good = trees-good digest p u.entries stands in
      let tree : HasTree (objects p u.entries) id (entries_of_shape s) = record { content = there; entries = (fits ids).writable } in
      let name = good.named id (entries_of_shape s) tree in
      let own = subst (λ (x : List ℕ). HasTree (objects p u.entries) x (entries_of_shape s)) name tree in (
        name,
        unrefused-all digest (objects p u.entries) (HasSummary (objects p u.entries)) good (entries_of_shape s ∷ []) (own, tt),
        adds-held digest p u stands room (entries_of_shape s ∷ []) (own, tt),
      )
