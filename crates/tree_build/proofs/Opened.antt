-- A directory that is opened means what its stored tree lists.
use Rattle.std.proofs.Common.{◌≡◌, ◌≢◌, ℕ, List, [], ◌∷◌, ◌++◌, refl, sym, ap, ◌∙◌, subst}
use Rattle.std.specs.Prelude.{Some, map}
use Rattle.std.specs.List.{AllByRecursion}
use Rattle.std.specs.Ordering.{nat_cmp}
use Rattle.std.specs.Cmp.Lexicographic.{slice_cmp}
use Rattle.std.specs.declared.cmp.Ordering.{Ordering}
use Rattle.std.specs.declared.cmp.Ordering.TheVariants.{Less, Equal, Greater}
use Rattle.std.proofs.lemmas.List.Elements.{recursion_from_All}
use Rattle.git_model.specs.declared.file_mode.FileMode.{FileMode}
use Rattle.git_model.specs.declared.file_mode.FileMode.TheVariants as mode
use Rattle.git_model.specs.Repository.{Object}
use Rattle.git_model.specs.Tree.{TreeEntry, IsEntryName, CanWriteEntry, order_key, slash_of}
use Rattle.tenant_tables.specs.IsBackedBy.{AreBacked}
use Rattle.file_maps.specs.declared.entry.Entry.{Entry}
use Rattle.file_maps.specs.FileMap.{Listed}
use Rattle.file_maps.specs.Edits.{moved}
use Rattle.file_maps.specs.StoredFiles.{stored_files}
use Rattle.file_maps.specs.StoredAgain.{IsFilled, AreTreesGood}
use Rattle.file_maps.specs.PlainTrees.{HasSummary, ListsPlain}
use Rattle.file_maps.specs.StoredTree.{HasTree, file_from, Lists, nothing, first_file, first_directory}
use Rattle.file_maps.proofs.Listing.{Distinct, distinct, has-only}
use Rattle.file_maps.proofs.ListedOrder.{Rises, rises}
use Rattle.file_maps.proofs.StoredAgain.{filled-in, lists-some}
use Rattle.file_maps.proofs.Backed.{trees-good}
use Rattle.file_maps.proofs.KnownTrees.{has-files, plain-stored}
use Rattle.tree_build.specs.declared.dir.Node.{Node}
use Rattle.tree_build.specs.Shape.{What, file, Shape, none, Held, Directory, what_files, shape_files}
use Rattle.tree_build.specs.Branch.{slash_after, key_of, IsNodeBefore, IsBeforeAll, IsWhat, IsShape}
use Rattle.tree_build.specs.Nodes.{held, with_row, shape_of}
use Rattle.tree_build.specs.Opened.{what_by, entry_held, tree_shape, row_of, tree_row, IsOpening}
use Rattle.tree_build.proofs.Beside.{equal_keys}

-- ---- rows

shape_from : List (List ℕ × Held) → Shape
shape_from [] = none
shape_from (e ∷ es) = with_row e.0 e.1 (shape_from es)

of_rows : (xs : List (List ℕ × Node)) → shape_of xs ≡ shape_from (map row_of xs)
unfolding shape_from
of_rows [] = refl
of_rows (x ∷ xs) = ap (with_row x.0 (held x.1)) (of_rows xs)

of_tree : (es : List TreeEntry) → tree_shape es ≡ shape_from (map tree_row es)
unfolding shape_from
of_tree [] = refl
of_tree (e ∷ es) = ap (with_row e.name (entry_held e)) (of_tree es)

pub rows_shape : (xs : List (List ℕ × Node)) (es : List TreeEntry) → map row_of xs ≡ map tree_row es
    → shape_of xs ≡ tree_shape es
rows_shape xs es h = of_rows xs ∙ ap shape_from h ∙ sym (of_tree es)

-- ---- Git's order

what_file : (m : FileMode) (id : List ℕ) (x : Entry) → m ≢ mode.Directory → what_by m id x ≡ file x
what_file mode.Directory id x ne = absurd (ne refl)
what_file mode.Regular id x ne = refl
what_file mode.Executable id x ne = refl
what_file mode.Symlink id x ne = refl
what_file mode.Gitlink id x ne = refl

slash_by : (m : FileMode) (id : List ℕ) (x : Entry) → slash_after (what_by m id x) ≡ slash_of m
slash_by mode.Directory id x = refl
slash_by mode.Regular id x = refl
slash_by mode.Executable id x = refl
slash_by mode.Symlink id x = refl
slash_by mode.Gitlink id x = refl

key_by : (e : TreeEntry) → key_of e.name (entry_held e).what ≡ order_key e
key_by e = ap (λ (s : List ℕ). e.name ++ s) (slash_by e.mode e.id (record { mode = e.mode; name = e.id }))

not_later : (c d : List ℕ) (w v : What) → IsEntryName c → IsEntryName d → c ≢ d
    → slice_cmp nat_cmp (key_of c w) (key_of d v) ≢ Greater → IsNodeBefore c w d v
not_later c d w v ic id ne h = record { names = ne; order = by (slice_cmp nat_cmp (key_of c w) (key_of d v)) refl }
  where
    by : (r : Ordering) → slice_cmp nat_cmp (key_of c w) (key_of d v) ≡ r → slice_cmp nat_cmp (key_of c w) (key_of d v) ≡ Less
    by Less is = is
    by Equal is = absurd (ne (equal_keys c w d v ic id is))
    by Greater is = absurd (h is)

rows_before : (e : TreeEntry) → IsEntryName e.name → (es : List TreeEntry)
    → AllByRecursion (λ d. e.name ≢ d.name) es
    → AllByRecursion (λ d. slice_cmp nat_cmp (order_key e) (order_key d) ≢ Greater) es
    → AllByRecursion CanWriteEntry es
    → IsBeforeAll e.name (entry_held e).what (tree_shape es)
rows_before e c [] ne up cs = tt
rows_before e c (d ∷ es) ne up cs = (
  not_later e.name d.name (entry_held e).what (entry_held d).what c cs.0.name ne.0
      (λ g. up.0 (ap (λ (k : List ℕ). slice_cmp nat_cmp k (order_key d)) (sym (key_by e))
      ∙ ap (slice_cmp nat_cmp (key_of e.name (entry_held e).what)) (sym (key_by d)) ∙ g)),
  rows_before e c es ne.1 up.1 cs.1,
)

-- ---- what is listed

module _ (digest : List ℕ → List ℕ) (os : List Object) (backed : AreBacked digest os) where
  abbrev known : List ℕ → Listed
  known = stored_files os

  abbrev Filled : TreeEntry → Type 0
  Filled = IsFilled os (HasSummary os)

  abbrev good : AreTreesGood digest os (HasSummary os)
  good = trees-good digest os backed

  tree_files : {es : List TreeEntry} {fs : Listed} → Lists os es fs → AllByRecursion Filled es
      → shape_files known (tree_shape es) ≡ fs
  tree_files nothing f = refl
  tree_files (first_file e es files ne l) f =
      ap (λ (w : What). moved (e.name ∷ []) (what_files known w []) ++ shape_files known (tree_shape es))
      (what_file e.mode e.id (record { mode = e.mode; name = e.id }) ne)
      ∙ ap (λ (r : Listed). file_from e ∷ r) (tree_files l f.1)
  tree_files (first_directory e es inside under files is has sub l) f =
      ap (λ (m : FileMode). moved (e.name ∷ []) (what_files known (what_by m e.id (record { mode = e.mode; name = e.id })) []) ++ shape_files known (tree_shape es)) is
      ∙ ap (λ (u : Listed). moved (e.name ∷ []) u ++ shape_files known (tree_shape es))
      (plain-stored os e.id under
      (record { tree = record { direct = inside; tree = has; lists = sub }; plain = (f.0 is).meant }))
      ∙ ap (λ (r : Listed). moved (e.name ∷ []) under ++ r) (tree_files l f.1)

  entry_sound : (e : TreeEntry) → CanWriteEntry e → Filled e → (m : FileMode) → e.mode ≡ m
      → IsWhat os (what_by m e.id (record { mode = e.mode; name = e.id })) []
      × (what_files known (what_by m e.id (record { mode = e.mode; name = e.id })) [] ≢ [])
  entry_sound e w f mode.Directory is =
      let inside = f is in
      let lists = has-files os e.id inside.meant in (
        lists,
        some_listed lists inside.inside inside.tree inside.some,
      )
    where
      some_listed : (t : ListsPlain os e.id (known e.id)) (es : List TreeEntry) → HasTree os e.id es → es ≢ []
          → known e.id ≢ []
      some_listed t es has some =
          lists-some digest os (HasSummary os) good t.tree.lists
          (filled-in digest os (HasSummary os) good e.id t.tree.direct t.tree.tree t.plain)
          (λ no. some (has-only os e.id es t.tree.direct has t.tree.tree ∙ no))
  entry_sound e w f mode.Regular is = ((λ d. cc (sym is ∙ d), w.id), λ no. cc no)
  entry_sound e w f mode.Executable is = ((λ d. cc (sym is ∙ d), w.id), λ no. cc no)
  entry_sound e w f mode.Symlink is = ((λ d. cc (sym is ∙ d), w.id), λ no. cc no)
  entry_sound e w f mode.Gitlink is = ((λ d. cc (sym is ∙ d), w.id), λ no. cc no)

  tree_sound : (es : List TreeEntry) → Distinct es → Rises es → AllByRecursion CanWriteEntry es
      → AllByRecursion Filled es → IsShape os (tree_shape es)
  tree_sound [] d r w f = tt
  tree_sound (e ∷ es) d r w f =
      let here = entry_sound e w.0 f.0 e.mode refl in (
        record { name = w.0.name; sound = here.0; some = here.1 },
        rows_before e w.0.name es d.0 r.0 w.1,
        tt,
        tree_sound es d.1 r.1 w.1 f.1,
      )

  pub opens : (id : List ℕ) (es : List TreeEntry) → HasTree os id es → HasSummary os id
      → (s : Shape) → s ≡ tree_shape es
      → (d : Directory) → d.tree ≡ Some id → d.entries ≡ s → IsOpening os id d
  opens id es has plain s is d tree in_it =
      let t = (has-files os id plain).tree in
      let filled = filled-in digest os (HasSummary os) good id es has plain in
      let writable = recursion_from_All CanWriteEntry es has.entries.entries in
      let shape = tree_sound es (distinct es has.entries.names_are_distinct) (rises es has.entries.in_order) writable filled in
      let lists = subst (λ (x : List TreeEntry). Lists os x (known id)) (has-only os id t.direct es t.tree has) t.lists in
      record {
        tree = tree;
        sound = subst (IsShape os) (sym (in_it ∙ is)) shape;
        files = ap (shape_files known) (in_it ∙ is) ∙ tree_files lists filled;
      }
