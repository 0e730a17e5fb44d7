-- Storing the trees at a path of a branch.
use Rattle.std.proofs.Common.{◌≡◌, ◌≢◌, ℕ, cond, length, get_or, List, [], ◌∷◌, Option, Some, None, Result, Ok, refl, sym, ap, ◌∙◌, subst}
use Rattle.std.specs.FinMap as finmap
use Rattle.std.specs.Str.{bytes_eq}
use Rattle.git_model.specs.declared.file_mode.FileMode.TheVariants as mode
use Rattle.git_model.specs.Repository.{Object}
use Rattle.git_model.specs.Tree.{TreeEntry}
use Rattle.content_pool.specs.Pool.{Cells}
use Rattle.tenant_tables.specs.View.{View}
use Rattle.tenant_tables.specs.Objects.{objects}
use Rattle.tenant_tables.specs.IsBackedBy.{IsBackedBy}
use Rattle.file_maps.specs.declared.entry.Entry.{Entry}
use Rattle.file_maps.specs.declared.fault.Fault.{Fault}
use Rattle.file_maps.specs.declared.fault.Fault.TheVariants as fault
use Rattle.file_maps.specs.FileMap.{Path, Listed, FileMap, AreFiles, listed}
use Rattle.file_maps.specs.Edits.{with_files}
use Rattle.file_maps.specs.Trees.{file_of, depth_of, tree_name, tree_id, nested_trees, trees_within}
use Rattle.file_maps.specs.Storable.{AreStorable}
use Rattle.file_maps.specs.StoredFiles.{stored_files}
use Rattle.file_maps.specs.PlainTrees.{ListsPlain}
use Rattle.file_maps.specs.Storing.{StoresTrees, AddsSome, HasHoldsLeftBeside}
use Rattle.file_maps.proofs.Cutting.{storable-cut, trees-none, entries-none}
use Rattle.file_maps.proofs.ListedOrder.{cut-root}
use Rattle.file_maps.proofs.Nested.{entries-nil}
use Rattle.file_maps.proofs.Stored.{adds-none, stopped}
use Rattle.std.specs.List.{position}
use Rattle.tree_build.specs.declared.dir.Node.{Node}
use Rattle.tree_build.specs.Nodes.{has_name, held, shape_of}
use Rattle.tree_build.proofs.Entries.{closed_child, closed_at}
use Rattle.tree_build.proofs.Named.{entry_found}
use Rattle.tree_build.proofs.Places.{Entries}
use Rattle.tree_build.specs.Branch.{Branch, IsDirectory, IsShape, IsHeld, IsBranch, files_in, root_files, closed_by, closed_along, closed_from}
use Rattle.tree_build.specs.Shape.{What, file, unopened, opened, Shape, none, row, Held}
use Rattle.tree_build.specs.Standing.{IsFoundAt}
use Rattle.tree_build.specs.Stores.{unnamed, bare, bare_held}
use Rattle.tree_build.proofs.Held.{same-held}
use Rattle.tree_build.proofs.Inside.{files-stay, stores-known}
use Rattle.tree_build.proofs.Later.{Grows, held-later}
use Rattle.tree_build.proofs.Looked.{root-file}
use Rattle.tree_build.proofs.Ordered.{branch_listed}
use Rattle.tree_build.proofs.StoredParts.{of_file, of_directory}

-- the trees of these files were stored
abbrev pub StoresFiles : (List ℕ → List ℕ) → Result (List ℕ) Fault → Cells → View → Cells → View → Listed → Type 0
StoresFiles digest answer p u q v fs = StoresTrees answer digest p u q v (nested_trees digest fs) (tree_id digest fs)

-- ---- no files

trees-empty : (digest : List ℕ → List ℕ) → trees_within digest 0 [] ≡ [] ∷ []
unfolding trees_within
trees-empty digest = refl

pub stores-none : (digest : List ℕ → List ℕ) (answer : Result (List ℕ) Fault) (p q : Cells) (u v : View) (fs : Listed)
    → depth_of fs ≡ 0 → StoresTrees answer digest p u q v ([] ∷ []) (tree_name digest [])
    → StoresTrees answer digest p u q v (nested_trees digest fs) (tree_id digest fs)
stores-none digest answer p q u v fs flat h =
    subst (λ (ts : List (List TreeEntry)). StoresTrees answer digest p u q v ts (tree_id digest fs))
    (sym (trees-empty digest) ∙ trees-none digest (depth_of fs) fs flat)
    (subst (λ (es : List TreeEntry). StoresTrees answer digest p u q v ([] ∷ []) (tree_name digest es))
    (sym (entries-nil digest 0 [] refl) ∙ entries-none digest (depth_of fs) fs flat) h)

-- no memory, before the first tree
pub stores-memory : (digest : List ℕ → List ℕ) (p : Cells) (u : View) (all : List (List TreeEntry))
    → IsBackedBy digest p u.entries → HasHoldsLeftBeside p u.entries → AddsSome digest p u p u all fault.Memory
stores-memory digest p u all stands room =
    stopped digest p p u u all [] all (adds-none digest p u stands room) refl refl

-- ---- what was found

module _ (digest : List ℕ → List ℕ) (p q : Cells) (u v : View) (answer : Result (List ℕ) Fault)
    (h : StoresTrees answer digest p u q v ([] ∷ []) (tree_name digest [])) where
  pub found-nothing : (o : Option Entry) (fs : Listed) → o ≡ None → IsFoundAt (objects p u.entries) o fs
      → StoresTrees answer digest p u q v (nested_trees digest fs) (tree_id digest fs)
  found-nothing o fs is found =
      let empty = subst (λ (x : Option Entry). IsFoundAt (objects p u.entries) x fs) is found in
      stores-none digest answer p q u v fs (ap depth_of empty) h

  pub found-file : (o : Option Entry) (e : Entry) (fs : Listed) → o ≡ Some e → e.mode ≢ mode.Directory
      → IsFoundAt (objects p u.entries) o fs
      → StoresTrees answer digest p u q v (nested_trees digest fs) (tree_id digest fs)
  found-file o e fs is ne found =
      let part = subst (λ (x : Option Entry). IsFoundAt (objects p u.entries) x fs) is found in
      stores-none digest answer p q u v fs (ap depth_of (of_file part ne)) h

pub found-tree : (digest : List ℕ → List ℕ) (p : Cells) (u : View) → IsBackedBy digest p u.entries
    → HasHoldsLeftBeside p u.entries → (o : Option Entry) (e : Entry) (fs : Listed) → o ≡ Some e → e.mode ≡ mode.Directory
    → IsFoundAt (objects p u.entries) o fs
    → StoresTrees (Ok e.name) digest p u p u (nested_trees digest fs) (tree_id digest fs)
found-tree digest p u stands room o e fs is dir found =
    let part = subst (λ (x : Option Entry). IsFoundAt (objects p u.entries) x fs) is found in
    stores-known digest p u e.name fs stands room (of_directory part dir).0

-- ---- what stays

-- an opened directory keeps its name where only names inside it change
pub opened-later : (os after : List Object) → Grows os after → (tree : Option (List ℕ)) (s new : Shape)
    → IsHeld os (record { what = opened tree; inside = s }) → bare new ≡ bare s → IsShape after new
    → IsHeld after (record { what = opened tree; inside = new })
opened-later os after grows None s new h same sound = (tt, sound)
opened-later os after grows (Some id) s new h same sound = (
  subst (ListsPlain after id) (sym (files-stay os after grows s new h.1 same)) (grows.stays id _ h.0),
  sound,
)

closed-what : (w : What) (a b n : ℕ) → a ≡ b → closed_by (unnamed w) a n ≡ closed_by w b n
closed-what (file e) a b n is = refl
closed-what (unopened id) a b n is = refl
closed-what (opened tree) a b n is = is

closed-bare : (s : Shape) (q : Path) → closed_along (bare s) q ≡ closed_along s q
closed-bare none q = refl
closed-bare (row c w inside rest) [] = refl
closed-bare (row c w inside rest) (d ∷ q) =
    let here = closed-what w _ _ (length q) (closed-bare inside q) in
    let later = closed-bare rest (d ∷ q) in
    λ i. cond (bytes_eq c d) (here i) (later i)

pub closed-same : (g h : Held) (q : Path) → bare_held g ≡ bare_held h → closed_from g q ≡ closed_from h q
closed-same g h q is =
    sym (closed-what g.what _ _ (length q) (closed-bare g.inside q))
    ∙ ap (λ (x : Held). closed_from x q) is
    ∙ closed-what h.what _ _ (length q) (closed-bare h.inside q)

pub closed-there : (es : Entries) (c : List ℕ) (rest : Path) (i : ℕ) (x : List ℕ × Node) → position (has_name c) es ≡ Some i
    → x ≡ get_or es i x → closed_along (shape_of es) (c ∷ rest) ≡ closed_from (held x.1) rest
closed-there es c rest i x is at =
    closed_at (shape_of es) c rest ∙ ap (λ (o : Option Held). closed_child o rest) (entry_found c es i is x at).stands

-- ---- a branch

module _ (os after : List Object) (grows : Grows os after) (b new : Branch) (branch : IsBranch os b)
    (same : bare_held new.root ≡ bare_held b.root) (sound : IsHeld after new.root) (files : new.files ≡ b.files) where
  root-stays : root_files after new ≡ root_files os b
  root-stays =
      same-held (stored_files after) new.root b.root same ∙ (held-later os after grows b.root branch.held).0

  files-kept : files_in after new ≡ files_in os b
  unfolding files_in
  files-kept = ap (with_files finmap.empty) root-stays

  directory-same : (v w : What) → unnamed v ≡ unnamed w → IsDirectory w → IsDirectory v
  directory-same v w is dir = own v (subst IsDirectory (sym is) (bare_one w dir))
    where
      bare_one : (x : What) → IsDirectory x → IsDirectory (unnamed x)
      bare_one (file e) d = d
      bare_one (unopened id) d = d
      bare_one (opened tree) d = d

      own : (x : What) → IsDirectory (unnamed x) → IsDirectory x
      own (file e) d = d
      own (unopened id) d = d
      own (opened tree) d = d

  pub branch-kept : IsBranch after new × (files_in after new ≡ files_in os b)
  branch-kept = (
    record {
      directory = directory-same new.root.what b.root.what (ap (λ (h : Held). h.what) same) branch.directory;
      held = sound;
      counted = files ∙ branch.counted ∙ ap (λ (l : Listed). length l) (sym root-stays);
      files = subst (λ (m : FileMap). AreFiles (listed m)) (sym files-kept) branch.files;
    },
    files-kept,
  )

pub root-storable : (os : List Object) (b : Branch) → IsBranch os b → AreStorable (root_files os b)
root-storable os b h =
    let is = branch_listed os b h.held in
    let flat = cut-root (root_files os b) in
    subst AreStorable flat
    (storable-cut [] (root_files os b) (subst AreFiles is h.files)
    (ap file_of flat ∙ root-file os b.root h.directory h.held))
