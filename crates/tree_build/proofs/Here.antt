-- What is held at an entry, as an entry.
use Rattle.std.proofs.Common.{◌≡◌, ◌≢◌, ℕ, ◌+◌, zero, suc, false, ◌<◌, List, [], ◌∷◌, ◌++◌, length, map, take, get_or, Option, Some, None, refl, sym, ap, ◌∙◌, subst, arith}
use Rattle.std.proofs.lemmas.List.{map-append, take_more}
use Rattle.git_model.specs.declared.file_mode.FileMode.TheVariants as mode
use Rattle.git_model.specs.Repository.{Object}
use Rattle.git_model.specs.Tree.{TreeEntry}
use Rattle.git_paths.proofs.Cases.{some_is}
use Rattle.tenant_tables.specs.IsBackedBy.{AreBacked}
use Rattle.file_maps.specs.declared.entry.Entry.{Entry}
use Rattle.file_maps.specs.FileMap.{Listed}
use Rattle.file_maps.specs.Trees.{Groups, file_of, tree_id, entry_or, direct}
use Rattle.file_maps.specs.StoredFiles.{stored_files}
use Rattle.file_maps.specs.PlainTrees.{ListsPlain}
use Rattle.file_maps.proofs.ListedOrder.{cut-root}
use Rattle.file_maps.proofs.Backed.{trees-good}
use Rattle.file_maps.proofs.TreeOf.{entry_of}
use Rattle.tree_build.specs.declared.dir.Node.{Node}
use Rattle.tree_build.specs.declared.dir.Node.TheVariants as node
use Rattle.tree_build.specs.Shape.{Directory, opened, Known, shape_files, held_files}
use Rattle.tree_build.specs.Branch.{IsWhat, IsShape, IsHeld}
use Rattle.tree_build.specs.Nodes.{held, shape_of}
use Rattle.tree_build.specs.Standing.{stands_at}
use Rattle.tree_build.specs.Stores.{parts_of}
use Rattle.tree_build.proofs.Inside.{no-root}
use Rattle.tree_build.proofs.Places as places
use Rattle.tree_build.proofs.Rows.{no_file, id-again}
use Rattle.tree_build.proofs.StoredParts.{stands-here}

named-here : (digest : List ℕ → List ℕ) (fs : Listed) (id : List ℕ) (e : Entry) → fs ≢ [] → file_of fs ≡ None
    → id ≡ tree_id digest fs → e ≡ record { mode = mode.Directory; name = id } → Some e ≡ stands_at digest fs []
named-here digest fs id e some none name is =
    ap (λ (x : Entry). Some x) is
    ∙ ap (λ (n : List ℕ). Some (record { mode = mode.Directory; name = n })) name
    ∙ sym (stands-here digest fs some none)

pub here-opened : (digest : List ℕ → List ℕ) (k : Known) (n : Node) (d : Directory) (id : List ℕ) (e : Entry)
    → n ≡ node.Opened d → held_files k (held n) ≢ [] → id ≡ tree_id digest (shape_files k d.entries)
    → e ≡ record { mode = mode.Directory; name = id }
    → Some e ≡ stands_at digest (held_files k (held n)) []
here-opened digest k n d id e at some name is =
    let full = subst (λ (x : Node). held_files k (held x) ≢ []) at some in
    subst (λ (x : Node). Some e ≡ stands_at digest (held_files k (held x)) []) (sym at)
    (named-here digest (shape_files k d.entries) id e full (no-root k d.entries) name is)

module _ (digest : List ℕ → List ℕ) (os : List Object) (backed : AreBacked digest os) where
  abbrev k : Known
  k = stored_files os

  pub known-name : (id : List ℕ) (fs : Listed) → ListsPlain os id fs → id ≡ tree_id digest fs
  known-name id fs t = sym (id-again digest os (trees-good digest os backed) id fs t)

  pub here-unopened : (n : Node) (id : List ℕ) (e : Entry) → n ≡ node.Unopened id → IsHeld os (held n)
      → held_files k (held n) ≢ [] → e ≡ record { mode = mode.Directory; name = id }
      → Some e ≡ stands_at digest (held_files k (held n)) []
  here-unopened n id e at sound some is =
      let t = (subst (λ (x : Node). IsHeld os (held x)) at sound).0 in
      let full = subst (λ (x : Node). held_files k (held x) ≢ []) at some in
      subst (λ (x : Node). Some e ≡ stands_at digest (held_files k (held x)) []) (sym at)
      (named-here digest (k id) id e full (no_file os id (k id) t) (known-name id (k id) t) is)

  pub tree-known : (d : Directory) (id : List ℕ) → d.tree ≡ Some id
      → IsHeld os (record { what = opened d.tree; inside = d.entries })
      → id ≡ tree_id digest (shape_files k d.entries)
  tree-known d id is sound =
      known-name id (shape_files k d.entries)
      (subst (λ (o : Option (List ℕ)). IsWhat os (opened o) (shape_files k d.entries)) is sound.0)

-- ---- entries in a row

pub some-at : (os : List Object) (es : places.Entries) (i : ℕ) (x : List ℕ × Node) → i < length es → x ≡ get_or es i x
    → IsShape os (shape_of es) → held_files (stored_files os) (held x.1) ≢ []
some-at os [] i x lt at h = absurd (omega arith)
some-at os (e ∷ es) zero x lt at h =
    subst (λ (y : List ℕ × Node). held_files (stored_files os) (held y.1) ≢ []) (sym at) h.0.some
some-at os (e ∷ es) (suc i) x lt at h = some-at os es i x (omega arith) at h.3

parts-append : (k : Known) (xs ys : places.Entries)
    → parts_of k (shape_of (xs ++ ys)) ≡ parts_of k (shape_of xs) ++ parts_of k (shape_of ys)
parts-append k [] ys = refl
parts-append k (x ∷ xs) ys =
    ap (λ (gs : Groups). (x.0, held_files k (held x.1)) ∷ gs) (parts-append k xs ys)

module _ (digest : List ℕ → List ℕ) (k : Known) where
  rows : places.Entries → List TreeEntry
  rows es = map (entry_of digest) (parts_of k (shape_of es))

  -- what stands at an entry is the entry of its part
  described : (c : List ℕ) (fs : Listed) (e : Entry) → fs ≢ [] → Some e ≡ stands_at digest fs []
      → record { mode = e.mode; name = c; id = e.name } ≡ entry_of digest (c, fs)
  described c [] e some is = absurd (some refl)
  described c (f ∷ fs) e some is =
      by (file_of (f ∷ fs)) (is ∙ ap (λ (l : Listed). entry_or digest false l (file_of l)) (cut-root (f ∷ fs)))
    where
      by : (o : Option Entry) → Some e ≡ entry_or digest false (f ∷ fs) o
          → record { mode = e.mode; name = c; id = e.name } ≡ direct c o (tree_id digest (f ∷ fs))
      by (Some x) at = let same = some_is e x at in λ i. record { mode = (same i).mode; name = c; id = (same i).name }
      by None at = let same = some_is e _ at in λ i. record { mode = (same i).mode; name = c; id = (same i).name }

  pub one-row : (es : places.Entries) (i : ℕ) (x : List ℕ × Node) (e : Entry) (t : TreeEntry) → i < length es
      → x ≡ get_or es i x → held_files k (held x.1) ≢ []
      → Some e ≡ stands_at digest (held_files k (held x.1)) []
      → t ≡ record { mode = e.mode; name = x.0; id = e.name }
      → map (entry_of digest) (parts_of k (shape_of (take (i + 1) es)))
      ≡ map (entry_of digest) (parts_of k (shape_of (take i es))) ++ t ∷ []
  one-row es i x e t lt at some is same =
      ap (λ (l : places.Entries). map (entry_of digest) (parts_of k (shape_of l)))
      (take_more es i x lt ∙ ap (λ (y : List ℕ × Node). take i es ++ y ∷ []) (sym at))
      ∙ ap (map (entry_of digest)) (parts-append k (take i es) (x ∷ []))
      ∙ map-append (entry_of digest) (parts_of k (shape_of (take i es))) ((x.0, held_files k (held x.1)) ∷ [])
      ∙ ap (λ (y : TreeEntry). map (entry_of digest) (parts_of k (shape_of (take i es))) ++ y ∷ [])
      (sym (same ∙ described x.0 (held_files k (held x.1)) e some is))
