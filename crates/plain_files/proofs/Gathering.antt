-- The files of a stored tree, gathered entry by entry.
use Rattle.std.proofs.Common.{◌≡◌, ◌≢◌, ℕ, zero, suc, ◌+◌, ◌*◌, ◌<◌, ◌≤◌, true, Option, List, [], ◌∷◌, ◌++◌, length, take, get_or, refl, sym, ap, ◌∙◌, subst, append_assoc, arith}
use Rattle.std.specs.Prelude.{IsSome, OnOk, Result, Ok, Err}
use Rattle.std.specs.List.{AllByRecursion}
use Rattle.std.proofs.lemmas.List.{append-nil, map-append, take_more, take_all}
use Rattle.std.proofs.lemmas.Bool.{eqb-true}
use Rattle.std.proofs.lemmas.List.Elements.{recursion_from_All}
use Rattle.git_objects.specs.declared.tree_entry.TreeEntry as declared
use Rattle.git_objects.specs.Parts.{entry_of, entries_of}
use Rattle.git_model.specs.declared.file_mode.FileMode.{FileMode}
use Rattle.git_model.specs.declared.file_mode.FileMode.TheVariants as mode
use Rattle.git_model.specs.Repository.{Object}
use Rattle.git_model.specs.Tree.{TreeEntry, IsEntryName, CanWriteEntry}
use Rattle.content_pool.specs.Pool.{Cells}
use Rattle.tenant_tables.specs.declared.summary.Summary.{Summary}
use Rattle.tenant_tables.specs.View.{Entries, summary_of}
use Rattle.tenant_tables.specs.Objects.{objects}
use Rattle.tenant_tables.specs.IsBackedBy.{IsBackedBy}
use Rattle.tenant_tables.specs.Trees.{DirectoryStands}
use Rattle.tenant_tables.proofs.SummaryLemmas.{some_of}
use Rattle.tenant_tables.proofs.SumsIn.{table-sums}
use Rattle.file_maps.specs.declared.entry.Entry.{Entry}
use Rattle.file_maps.specs.FileMap.{Path, Listed}
use Rattle.file_maps.specs.Edits.{moved}
use Rattle.file_maps.specs.StoredTree.{HasTree, file_from, Lists, nothing}
use Rattle.plain_files.specs.Gathers.{has_none, Gathers, GathersEntry}
use Rattle.file_maps.specs.StoredFiles.{stored_files}
use Rattle.file_maps.proofs.KnownTrees.{known-files}
use Rattle.file_maps.proofs.Listing.{lists-append, lists-file, lists-directory}
use Rattle.file_maps.proofs.Standing.{position_of, stands-before, summary-all, the_summary, tree-placed}

-- Files were put after others: those of some direct entries, with a path put before each of theirs.
pub record GathersSome (os : List Object) (top : Path) (es : List TreeEntry) (old new : Listed) : Type 0 where
  pub files : Listed
  pub lists : Lists os es files
  pub appended : new ≡ old ++ moved top files

pub gathers-none : (os : List Object) (top : Path) (old : Listed) → GathersSome os top [] old old
gathers-none os top old = record { files = []; lists = nothing; appended = sym (append-nil old) }

-- a path and then a name before files
pub moved-twice : (top : Path) (c : List ℕ) (fs : Listed)
    → moved (top ++ c ∷ []) fs ≡ moved top (moved (c ∷ []) fs)
moved-twice top c [] = refl
moved-twice top c (f ∷ fs) =
    let here = append_assoc top (c ∷ []) f.0 in
    let rest = moved-twice top c fs in
    λ i. (here i, f.1) ∷ rest i

-- one entry more
gathers-more : (os : List Object) (top : Path) (es : List TreeEntry) (e : TreeEntry)
    (gs old mid new : Listed)
    → GathersSome os top es old mid
    → Lists os (e ∷ []) gs → new ≡ mid ++ moved top gs → GathersSome os top (es ++ e ∷ []) old new
gathers-more os top es e gs old mid new sofar one is = record {
  files = sofar.files ++ gs;
  lists = lists-append one sofar.lists;
  appended =
      is ∙ ap (λ (l : Listed). l ++ moved top gs) sofar.appended
      ∙ append_assoc old (moved top sofar.files) (moved top gs)
      ∙ ap (λ (l : Listed). old ++ l)
      (sym (map-append (λ (f : Path × Entry). (top ++ f.0, f.1)) sofar.files gs));
}

-- the entries that were read, and one more
next_entries : (xs : List declared.TreeEntry) (i : ℕ) (x : declared.TreeEntry) → i < length xs
    → x ≡ get_or xs i x
    → entries_of (take i xs) ++ entry_of x ∷ [] ≡ entries_of (take (i + 1) xs)
next_entries xs i x lt at =
    sym (map-append entry_of (take i xs) (x ∷ []))
    ∙ ap entries_of
    (sym (take_more xs i x lt ∙ ap (λ (y : declared.TreeEntry). take i xs ++ y ∷ []) (sym at)))

-- what an answer leaves, and what follows from it
pub on_ok : {A E P Q : Type 0} (r : Result A E) → (P → Q) → OnOk r P → OnOk r Q
on_ok (Ok a) follows h = follows h
on_ok (Err e) follows h = h

-- the files of one entry
pub file-gathered : (os : List Object) (top : Path) (e : TreeEntry) (path : Path) (old new : Listed)
    → e.mode ≢ mode.Directory → path ≡ top ++ e.name ∷ []
    → new ≡ old ++ (path, record { mode = e.mode; name = e.id }) ∷ []
    → GathersEntry os top e old new
file-gathered os top e path old new ne is pushed = record {
  files = file_from e ∷ [];
  lists = lists-file e ne;
  appended = pushed ∙ ap (λ (p : Path). old ++ (p, (file_from e).1) ∷ []) is;
}

pub directory-gathered : (os : List Object) (top : Path) (e : TreeEntry) (path : Path)
    (old new : Listed)
    → e.mode ≡ mode.Directory → path ≡ top ++ e.name ∷ [] → Gathers os path e.id old new
    → GathersEntry os top e old new
directory-gathered os top e path old new dir is inside = record {
  files = moved (e.name ∷ []) inside.files;
  lists = lists-directory e inside.files dir inside.listed;
  appended =
      inside.appended ∙ ap (λ (p : Path). old ++ moved p inside.files) is
      ∙ ap (λ (l : Listed). old ++ l) (moved-twice top e.name inside.files);
}

pub entry_turn : (os : List Object) (top : Path) (xs : List declared.TreeEntry) (i : ℕ)
    (x : declared.TreeEntry) (old mid new : Listed)
    → i < length xs → x ≡ get_or xs i x → GathersSome os top (entries_of (take i xs)) old mid
    → GathersEntry os top (entry_of x) mid new
    → GathersSome os top (entries_of (take (i + 1) xs)) old new
entry_turn os top xs i x old mid new lt at sofar one =
    subst (λ (es : List TreeEntry). GathersSome os top es old new) (next_entries xs i x lt at)
    (gathers-more os top (entries_of (take i xs)) (entry_of x) one.files old mid new sofar one.lists one.appended)

-- all entries
pub gathers-all : (os : List Object) (top : Path) (id : List ℕ) (xs : List declared.TreeEntry)
    (i : ℕ) (old new : Listed)
    → length xs ≤ i
    → HasTree os id (entries_of xs) → GathersSome os top (entries_of (take i xs)) old new
    → Gathers os top id old new
gathers-all os top id xs i old new done has sofar = record {
  files = sofar.files;
  listed = record { direct = entries_of xs; tree = has; lists = subst (λ (l : List declared.TreeEntry). Lists os (entries_of l) sofar.files) (take_all i xs done) sofar.lists };
  appended = sofar.appended;
}

-- ---- how deep a tree nests

-- of an entry: of its tree, if it is a directory
abbrev pub weight : FileMode → ℕ → ℕ
weight mode.Directory place = 2 * place + 3
weight mode.Regular place = 0
weight mode.Executable place = 0
weight mode.Symlink place = 0
weight mode.Gitlink place = 0

pub weighs_less : (m : FileMode) (place top : ℕ) → (m ≡ mode.Directory → place < top)
    → weight m place < 2 * top + 2
weighs_less mode.Directory place top h = let before = h refl in omega (arith, before)
weighs_less mode.Regular place top h = omega arith
weighs_less mode.Executable place top h = omega arith
weighs_less mode.Symlink place top h = omega arith
weighs_less mode.Gitlink place top h = omega arith

pub weighs_more : (m : FileMode) (place : ℕ) → m ≡ mode.Directory → 2 * place + 2 < weight m place
weighs_more m place is = subst (λ k. 2 * place + 2 < weight k place) (sym is) (omega arith)

-- ---- in a table

entry_at : (P : TreeEntry → Type 0) (xs : List declared.TreeEntry) (i : ℕ) (x : declared.TreeEntry)
    → AllByRecursion P (entries_of xs) → i < length xs → x ≡ get_or xs i x → P (entry_of x)
entry_at P [] i x h lt at = absurd (omega arith)
entry_at P (y ∷ ys) zero x h lt at = subst (λ (z : declared.TreeEntry). P (entry_of z)) (sym at) h.0
entry_at P (y ∷ ys) (suc i) x h lt at = entry_at P ys i x h.1 (omega arith) at

-- the entry that is read has a name of a path
pub component_at : (os : List Object) (id : List ℕ) (xs : List declared.TreeEntry) (i : ℕ)
    (x : declared.TreeEntry)
    → HasTree os id (entries_of xs) → i < length xs → x ≡ get_or xs i x
    → IsEntryName (entry_of x).name
component_at os id xs i x h lt at =
    (entry_at CanWriteEntry xs i x (recursion_from_All CanWriteEntry (entries_of xs) h.entries.entries) lt at).name

no_file : (top : Path) (old fs : Listed) → length fs ≡ 0 → old ≡ old ++ moved top fs
no_file top old [] h = sym (append-nil old)
no_file top old (f ∷ fs) h = absurd (omega arith)

module _ (digest : List ℕ → List ℕ) (pool : Cells) (entries : Entries) (stands : IsBackedBy digest pool entries) where
  -- a directory's tree stands before the tree
  pub inside_before : (id : List ℕ) (xs : List declared.TreeEntry) (i : ℕ) (x : declared.TreeEntry)
      → HasTree (objects pool entries) id (entries_of xs) → IsSome (summary_of id entries)
      → i < length xs → x ≡ get_or xs i x → (entry_of x).mode ≡ mode.Directory
      → (position_of (entry_of x).id entries < position_of id entries) × IsSome (summary_of (entry_of x).id entries)
  inside_before id xs i x h plain lt at dir =
      let p = tree-placed digest pool entries stands id (entries_of xs) h plain in
      let some = some_of (summary_of (entry_of x).id (take (position_of id entries) entries)) (λ s. s.files ≢ 0) (entry_at (DirectoryStands (take (position_of id entries) entries)) xs i x p.1.directories lt at dir) in (
        stands-before (entry_of x).id (position_of id entries) entries some,
        subst (λ (o : Option Summary). IsSome o)
            (summary-all (entry_of x).id (position_of id entries) entries some) some,
      )

  -- a tree without files
  pub gathers_nothing : (id : List ℕ) (top : Path) (old : Listed) → IsSome (summary_of id entries)
      → has_none (summary_of id entries) ≡ true → Gathers (objects pool entries) top id old old
  gathers_nothing id top old some none =
      let s = the_summary (summary_of id entries) some in
      let known = known-files (objects pool entries) id s.0 (sym (table-sums digest pool entries stands id) ∙ s.1) in
      let fs : Listed = stored_files (objects pool entries) id in
      let sum : s.0.files ≡ length fs = ap (λ (x : Summary). x.files) known.1 in
      let zero_files : s.0.files ≡ 0 = eqb-true s.0.files 0 (ap has_none (sym s.1) ∙ none) in
      record { files = fs; listed = known.0.listed; appended = no_file top old fs (sym sum ∙ zero_files) }
