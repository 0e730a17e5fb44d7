-- What was copied from a path of a branch.
use Rattle.std.proofs.Common.{◌≡◌, ◌≢◌, ℕ, ◌≤◌, List, [], ◌∷◌, length, refl, sym, ap, ◌∙◌, subst, arith}
use Rattle.std.specs.Prelude.{Option, None, Some, Ok}
use Rattle.std.specs.Option.{option_map}
use Rattle.std.specs.FinMap as finmap
use Rattle.std.specs.FinMap.{len-entries}
use Rattle.git_paths.specs.Paths.{strip_prefix}
use Rattle.git_model.specs.Repository.{Object}
use Rattle.tenant_tables.specs.declared.summary.Summary.{Summary}
use Rattle.tenant_tables.specs.IsBackedBy.{AreBacked}
use Rattle.file_maps.specs.FileMap.{Path, Listed, FileMap, AreFiles, listed}
use Rattle.file_maps.specs.Edits.{cut, files_at, moved}
use Rattle.file_maps.specs.Storable.{files_summary}
use Rattle.file_maps.specs.StoredFiles.{stored_files}
use Rattle.tree_build.specs.declared.dir.Node.{Node}
use Rattle.tree_build.specs.Shape.{What, file, unopened, opened, Held, held_files, what_files, shape_files}
use Rattle.tree_build.specs.Branch.{Branch, files_in, IsWhat, IsDirectory, IsHeld, IsBranch, closed_from}
use Rattle.tree_build.specs.Nodes.{held}
use Rattle.tree_build.specs.Sums.{IsSmall}
use Rattle.tree_build.specs.Moving.{standing, files_of_held, copied_held, summary_fault, path_fault}
use Rattle.tree_build.specs.Replacing.{with_node_at, MayPut, PutsNode}
use Rattle.tree_build.proofs.Ordered.{branch_listed}
use Rattle.tree_build.proofs.Puts.{not_many}
use Rattle.tree_build.proofs.Grafted.{root_map}
use Rattle.tree_build.proofs.Stands.{standing-cut, standing-sound, held-copied, held-files-copied}
use Rattle.tree_build.proofs.Measured.{dir-below}
use Rattle.tree_build.proofs.Moves.{AreHere, one, many, fault-is, path-some, small-cut}

-- a node has a file, or files below it
pub here : (os : List Object) (h : Held) → IsHeld os h → AreHere (held_files (stored_files os) h)
here os h s = by h.what s.0
  where
    by : (w : What) → IsWhat os w (shape_files (stored_files os) h.inside)
        → AreHere (what_files (stored_files os) w (shape_files (stored_files os) h.inside))
    by (file e) k = one e
    by (unopened id) k = many (stored_files os id) (dir-below os (unopened id) h.inside k tt)
    by (opened tree) k = many (shape_files (stored_files os) h.inside)
        (dir-below os (opened tree) h.inside k tt)

-- What stands among the objects has these files, which are few and short enough to be moved.
pub record IsThere (os : List Object) (fs : Listed) (h : Held) : Type 0 where
  pub held : IsHeld os h
  pub files : held_files (stored_files os) h ≡ fs
  pub small : IsSmall (files_summary (held_files (stored_files os) h))

-- what was found, by what it was found from
pub of_some : {A : Type 0} (f : A → Held) (o : Option A) (x : A) (s : Option Held)
    → option_map f o ≡ s → o ≡ Some x → s ≡ Some (f x)
of_some f o x s e is = sym e ∙ ap (option_map f) is

pub of_none : {A : Type 0} (f : A → Held) (o : Option A) (s : Option Held)
    → option_map f o ≡ s → o ≡ None → s ≡ None
of_none f o s e is = sym e ∙ ap (option_map f) is

-- what stands at a path of a branch
module _ {os : List Object} {b : Branch} (branch : IsBranch os b) (path : Path) (shut : closed_from b.root path ≡ 0)
    {m : FileMap} (same : files_in os b ≡ m) {from : Path} (split : path ≡ from) where
  files-there : files_at m from ≡ files_of_held (stored_files os) (standing path (Some b.root))
  files-there =
      ap (files_at m) (sym split)
      ∙ ap (λ (x : FileMap). cut path (listed x)) (sym same)
      ∙ ap (cut path) (branch_listed os b branch.held)
      ∙ standing-cut os path b.root.what b.root.inside branch.held.0 branch.held.1 shut

  pub gone : standing path (Some b.root) ≡ None → files_at m from ≡ []
  gone is = files-there ∙ ap (files_of_held (stored_files os)) is

  pub stood : (k : Held) → standing path (Some b.root) ≡ Some k → IsThere os (files_at m from) k
  stood k is =
      let files : held_files (stored_files os) k ≡ files_at m from =
      sym (files-there ∙ ap (files_of_held (stored_files os)) is) in record {
        held = standing-sound os path b.root.what b.root.inside branch.held.0 branch.held.1 k is;
        files = files;
        small =
            subst (λ (l : Listed). IsSmall (files_summary l)) (sym files)
            (small-cut from (listed m) (subst (λ (x : FileMap). AreFiles (listed x)) same branch.files));
      }

-- a copy of it
uncopied : (s : Option Held) → None ≡ option_map copied_held s → s ≡ None
uncopied None e = refl
uncopied (Some k) e = cc e

one_of : (x y : Held) → Some x ≡ Some y → x ≡ y
one_of x y e = cc e

module _ (digest : List ℕ → List ℕ) (os : List Object) (backed : AreBacked digest os)
    {b : Branch} (branch : IsBranch os b) (path : Path) (shut : closed_from b.root path ≡ 0)
    {m : FileMap} (same : files_in os b ≡ m) {from : Path} (split : path ≡ from) where
  pub nothing-there : (o : Option Node) → o ≡ None
      → option_map held o ≡ option_map copied_held (standing path (Some b.root))
      → files_at m from ≡ []
  nothing-there o is at =
      gone branch path shut same split (uncopied (standing path (Some b.root)) (sym (ap (option_map held) is) ∙ at))

  pub found : (o : Option Node) (n : Node) → o ≡ Some n
      → option_map held o ≡ option_map copied_held (standing path (Some b.root))
      → IsThere os (files_at m from) (held n)
  found o n is at = by (standing path (Some b.root)) refl (sym (ap (option_map held) is) ∙ at)
    where
      by : (s : Option Held) → standing path (Some b.root) ≡ s
          → Some (held n) ≡ option_map copied_held s → IsThere os (files_at m from) (held n)
      by None at e = cc e
      by (Some k) at e =
          let there = stood branch path shut same split k at in
          let copy = one_of (held n) (copied_held k) e in
          let files : held_files (stored_files os) (held n) ≡ held_files (stored_files os) k =
          ap (held_files (stored_files os)) copy ∙ held-files-copied digest os backed k there.held in record {
            held = subst (λ (h : Held). IsHeld os h) (sym copy) (held-copied digest os backed k there.held);
            files = files ∙ there.files;
            small = subst (λ (l : Listed). IsSmall (files_summary l)) (sym files) there.small;
          }

-- what is put at the root is a directory
pub directory-there : {os : List Object} {fs : Listed} {h : Held} → IsThere os fs h
    → (to : Path) → path_fault (moved to fs) ≡ None → to ≡ [] → IsDirectory h.what
directory-there {os} {fs} {h} there to clean root =
    by h.what (ap (λ (p : Path). path_fault (moved p (held_files (stored_files os) h))) (sym root)
    ∙ ap (λ (l : Listed). path_fault (moved to l)) there.files ∙ clean)
  where
    by : (w : What)
        → path_fault (moved [] (what_files (stored_files os) w (shape_files (stored_files os) h.inside))) ≡ None
        → IsDirectory w
    by (file e) c = cc c
    by (unopened id) c = tt
    by (opened tree) c = tt

-- what is moved has files
pub full-there : {os : List Object} {fs : Listed} {h : Held} → IsThere os fs h
    → (to : Path) → path_fault (moved to fs) ≡ None → held_files (stored_files os) h ≢ []
full-there {os} {fs} there to clean none =
    path-some (moved to fs) clean (ap (moved to) (sym there.files ∙ none))

-- why it is refused
pub fault-there : {os : List Object} {fs : Listed} {h : Held} → IsThere os fs h → (to : Path)
    → (s : Summary) → s ≡ files_summary (held_files (stored_files os) h)
    → summary_fault to s ≡ path_fault (moved to fs)
fault-there {os} {fs} {h} there to s sum =
    ap (summary_fault to) sum
    ∙ fault-is to (held_files (stored_files os) h) (here os h there.held)
    ∙ ap (λ (l : Listed). path_fault (moved to l)) there.files

pub no_components : (p : Path) → length p ≡ 0 → p ≡ []
no_components [] h = refl
no_components (c ∷ p) h = absurd (omega arith)

-- ---- the place of all

module _ {os : List Object} {to : Path} {h : Held} {total : ℕ} {old : Branch} (may : MayPut os to h total old)
    (directory : IsDirectory h.what) (few : length (held_files (stored_files os) h) ≤ 1048576)
    (files : ℕ) (count : files ≡ length (held_files (stored_files os) h))
    (reads : ℕ) (same : reads ≡ old.reads) (root : to ≡ []) where
  abbrev new : Branch
  new = record { root = h; files = files; reads = reads }

  root_is : files_in os new ≡ with_node_at os to h old
  unfolding files_in
  root_is =
      sym (root_map (files_in os old) (held_files (stored_files os) h))
      ∙ ap (λ (p : Path). with_node_at os p h old) (sym root)

  root_few : finmap.len (with_node_at os to h old) ≤ 1048576
  root_few =
      let len = ap (λ (x : FileMap). finmap.len x) (sym root_is) ∙ len-entries (files_in os new)
      ∙ ap (λ (l : Listed). length l) (branch_listed os new may.held) in omega arith

  root_branch : IsBranch os new
  root_branch = record {
    directory = directory;
    held = may.held;
    counted = count;
    files = subst (λ (x : FileMap). AreFiles (listed x)) (sym root_is) (may.good root_few);
  }

  pub puts_root : PutsNode os (Ok tt) to h old new
  puts_root = record {
    edits = (not_many (finmap.len (with_node_at os to h old)) root_few, root_is);
    branch = root_branch;
    still = λ _ _. root_branch;
    reads = same;
    stays = λ q apart. absurd (let here : Some q ≡ None = ap (λ (p : Path). strip_prefix p q) (sym root) ∙ apart in cc here);
  }
