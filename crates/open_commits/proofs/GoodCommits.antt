-- Open commits stay good, and keep good objects good.
use Rattle.std.proofs.Common.{◌≡◌, ◌≢◌, ℕ, ◌<◌, Bool, true, false, cond, List, [], ◌∷◌, ◌++◌, length, map, All, Option, None, Some, Result, Ok, Err, refl, sym, ap, ◌∙◌, subst, arith, length-append, append_assoc}
use Rattle.std.specs.Prelude.{nat_lt, unwrap_or, IfSome}
use Rattle.std.specs.List.{AllByRecursion}
use Rattle.std.specs.FinMap as finmap
use Rattle.std.specs.FinMap.{entries-from_sorted}
use Rattle.std.specs.Option.{option_map}
use Rattle.std.proofs.lemmas.Bool.{ltb-true}
use Rattle.std.proofs.lemmas.List.{append-nil}
use Rattle.std.proofs.lemmas.List.Elements.{All-nil, All-cons, All-head, All-tail, All-weaker, All-append, All-from_recursion}
use Rattle.git_model.specs.declared.file_mode.FileMode.{FileMode}
use Rattle.git_model.specs.declared.file_mode.FileMode.TheVariants as mode
use Rattle.git_model.specs.declared.kind.Kind.{Kind}
use Rattle.git_model.specs.declared.kind.Kind.TheVariants as kind
use Rattle.git_model.specs.Modes.{kind_of_mode}
use Rattle.git_model.specs.Commit.{Commit, CanWriteCommit}
use Rattle.git_model.specs.CommitReading.{commit_read}
use Rattle.git_model.specs.Content.{Content, content_from, name_by, no_content}
use Rattle.git_model.specs.Ident.{IsWrittenIdent}
use Rattle.git_model.specs.ObjectName.{IsObjectName}
use Rattle.git_model.specs.Repository.{Object, object_named, with_object}
use Rattle.git_model.specs.References.{reference, commit_references, kind_named}
use Rattle.git_model.specs.GoodRepository.{AreObjects, StandsBefore, parents_limit}
use Rattle.git_model.specs.Peeling.{is_of}
use Rattle.git_model.proofs.CommitReadings.{commit_back}
use Rattle.git_model.proofs.GoodRefs.{kind_longer}
use Rattle.git_model.proofs.Peelings.{is_of_kind}
use Rattle.git_names.specs.Naming.{AnswersNames}
use Rattle.git_paths.specs.Order.{path_cmp}
use Rattle.stream_grammar.specs.declared.data_ref.DataRef.{DataRef}
use Rattle.stream_grammar.specs.declared.data_ref.DataRef.TheVariants as data_ref
use Rattle.tenant_tables.specs.declared.fault.Fault.{Fault as TableFault}
use Rattle.tenant_tables.specs.Adding.{store_fault}
use Rattle.tenant_tables.proofs.StoredGood.{MayStore, Holds, there, stored_good}
use Rattle.file_maps.specs.declared.entry.Entry.{Entry}
use Rattle.file_maps.specs.declared.fault.Fault.{Fault as FilesFault}
use Rattle.file_maps.specs.FileMap.{Path, Listed, FileMap, listed, AreFiles}
use Rattle.file_maps.specs.Edits.{files_at, moved, put_at, put_tree_at, copied, renamed, without, is_outside, with_files}
use Rattle.file_maps.specs.GoodTrees.{StayGood}
use Rattle.file_maps.specs.HeldFiles.{IsFileHeld}
use Rattle.file_maps.specs.Kept.{stays}
use Rattle.file_maps.specs.StoredFiles.{stored_files, tree_of_commit}
use Rattle.file_maps.specs.Storing.{with_trees, trees_fault}
use Rattle.file_maps.specs.Trees.{nested_trees, tree_id, entry_at, tree_content, tree_entries}
use Rattle.file_maps.proofs.Apart.{all-map, all-weaker, cut-all}
use Rattle.file_maps.proofs.EditedMaps.{all-edited, all-without}
use Rattle.file_maps.proofs.HeldTrees.{stored-held}
use Rattle.file_maps.proofs.ListedOrder.{cut-root}
use Rattle.file_maps.proofs.Maps.{empty-of, retain-twice}
use Rattle.file_maps.proofs.TreesAdded.{name_of, nested_added}
use Rattle.open_commits.specs.declared.fault.Fault.{Fault}
use Rattle.open_commits.specs.declared.fault.Fault.TheVariants as fault
use Rattle.git_model.specs.Results.{and_then, or_fault}
use Rattle.open_commits.specs.OpenCommit.{Header, OpenCommit, begun}
use Rattle.open_commits.specs.Storing.{stored, stored_or, trees_stored, trees_or}
use Rattle.open_commits.specs.Parents.{changed_to, started_from, merged}
use Rattle.open_commits.specs.Changes.{Marks, Left, marked_as, marked_object, held_as, link_of, tree_of, blob_of, entry_of, file_put, tree_put, modified, left_with, blob_put, contents_put, deleted, copied_to, renamed_to, all_deleted}
use Rattle.open_commits.specs.Showing.{Shown, file_or_trees, found_shown, commit_entry_shown}
use Rattle.open_commits.specs.Ends.{Closed, closed, commit_of, commit_content}
use Rattle.open_commits.specs.GoodCommits.{AreMarks, IsGoodHeader, IsGoodCommit, GrowGood, HoldsCommit}
use Rattle.open_commits.proofs.MarkedObjects.{from_ok, marked_has}
use Rattle.open_commits.proofs.Starting.{with_parent, starts}
use Rattle.open_commits.proofs.StoredCommits.{stored_commit}

-- ---- steps that were not refused

pub ok_is : {A : Type 0} (a b : A) → ◌≡◌ {A = Result A Fault} (Ok a) (Ok b) → a ≡ b
ok_is a b e = cc

-- what came before a step that was not refused
pub record Went {A B : Type 0} (first : Result A Fault) (next : A → Result B Fault) (b : B) : Type 0 where
  pub value : A
  pub was : first ≡ Ok value
  pub then : next value ≡ Ok b

pub went : {A B : Type 0} (first : Result A Fault) (next : A → Result B Fault) (b : B)
    → and_then first next ≡ Ok b → Went first next b
went (Ok a) next b e = record { value = a; was = refl; then = e }
went (Err x) next b e = absurd (cc e)

changed-ok : (commit : OpenCommit) (files : FileMap) (refusal : Option FilesFault)
    (next : OpenCommit)
    → changed_to commit files refusal ≡ Ok next → record commit { files = files } ≡ next
changed-ok commit files None next e = ok_is (record commit { files = files }) next e
changed-ok commit files (Some f) next e = absurd (cc e)

-- the parent of a start
record WithParent (id : List ℕ) (r : Result OpenCommit Fault) (next : OpenCommit) : Type 0 where
  commit : OpenCommit
  was : r ≡ Ok commit
  is : record commit { parents = id ∷ [] } ≡ next

parent-ok : (id : List ℕ) (r : Result OpenCommit Fault) (next : OpenCommit)
    → with_parent id r ≡ Ok next → WithParent id r next
parent-ok id (Ok c) next e =
    record { commit = c; was = refl; is = ok_is (record c { parents = id ∷ [] }) next e }
parent-ok id (Err x) next e = absurd (cc e)

pub record WasStored (digest : List ℕ → List ℕ) (content : Content) (os more : List Object) : Type 0 where
  pub none : store_fault (name_by digest content) content os ≡ None
  pub is : with_object (name_by digest content) content os ≡ more

stored-from : (digest : List ℕ → List ℕ) (content : Content) (os more : List Object)
    (refusal : Option TableFault) → store_fault (name_by digest content) content os ≡ refusal
    → stored_or (name_by digest content) content os refusal ≡ Ok more
    → WasStored digest content os more
stored-from digest content os more None at e = record { none = at; is = ok_is _ more e }
stored-from digest content os more (Some f) at e = absurd (cc e)

pub stored-ok : (digest : List ℕ → List ℕ) (content : Content) (os more : List Object)
    → stored digest content os ≡ Ok more → WasStored digest content os more
stored-ok digest content os more e =
    stored-from digest content os more (store_fault (name_by digest content) content os) refl e

pub record TreesWere (digest : List ℕ → List ℕ) (files : Listed) (os more : List Object) : Type 0 where
  pub none : trees_fault digest (nested_trees digest files) os ≡ None
  pub is : with_trees digest (nested_trees digest files) os ≡ more

trees-from : (digest : List ℕ → List ℕ) (files : Listed) (os more : List Object)
    (refusal : Option FilesFault) → trees_fault digest (nested_trees digest files) os ≡ refusal
    → trees_or digest (nested_trees digest files) os refusal ≡ Ok more
    → TreesWere digest files os more
trees-from digest files os more None at e = record { none = at; is = ok_is _ more e }
trees-from digest files os more (Some f) at e = absurd (cc e)

pub trees-ok : (digest : List ℕ → List ℕ) (files : Listed) (os more : List Object)
    → trees_stored digest files os ≡ Ok more → TreesWere digest files os more
trees-ok digest files os more e =
    trees-from digest files os more (trees_fault digest (nested_trees digest files) os) refl e

-- ---- beginnings, parents, more objects

none-listed : (P : Path × Entry → Type 0) → AllByRecursion P (listed finmap.empty)
none-listed P =
    subst (AllByRecursion P)
    (sym (ap listed (sym (empty-of [] refl)) ∙ entries-from_sorted path_cmp [] tt)) tt

pub begun_is : (os : List Object) (header : Header) (message : List ℕ) → IsGoodHeader header
    → IsGoodCommit os (begun header message)
begun_is os header message good = record {
  header = good;
  parents = All-nil (λ id. kind_named id os ≡ Some kind.Commit);
  few_parents = omega arith;
  held = none-listed (IsFileHeld os);
}

pub longer_is : (os more : List Object) (commit : OpenCommit) → IsGoodCommit os commit
    → IsGoodCommit (os ++ more) commit
longer_is os more commit h = record {
  header = h.header;
  parents = All-weaker (λ id. kind_named id os ≡ Some kind.Commit)
      (λ id. kind_named id (os ++ more) ≡ Some kind.Commit)
      (λ id k. kind_longer os more id kind.Commit k) commit.parents h.parents;
  few_parents = h.few_parents;
  held = all-weaker (IsFileHeld os) (IsFileHeld (os ++ more))
      (λ f k ne. kind_longer os more f.1.name (kind_of_mode f.1.mode) (k ne)) (listed commit.files)
      h.held;
}

-- the same commit with other files
other-files : (os : List Object) (commit next : OpenCommit) (files : FileMap)
    → IsGoodCommit os commit
    → record commit { files = files } ≡ next → AllByRecursion (IsFileHeld os) (listed files)
    → IsGoodCommit os next
other-files os commit next files h is held =
    subst (IsGoodCommit os) is (record {
      header = h.header;
      parents = h.parents;
      few_parents = h.few_parents;
      held = held;
    })

pub merge_keeps : (os : List Object) (commit next : OpenCommit) → IsGoodCommit os commit
    → (id : List ℕ) → kind_named id os ≡ Some kind.Commit
    → merged id commit ≡ Ok next → IsGoodCommit os next
merge_keeps os commit next h id k is =
    by (nat_lt (length commit.parents) parents_limit) refl is
  where
    by : (b : Bool) → nat_lt (length commit.parents) parents_limit ≡ b
        → cond b (Ok (record commit { parents = commit.parents ++ id ∷ [] })) (Err fault.Limit) ≡ Ok next
        → IsGoodCommit os next
    by true lt e =
        let less : length commit.parents < parents_limit = ltb-true _ _ lt in
        let n = length-append commit.parents (id ∷ []) in
        subst (IsGoodCommit os) (ok_is (record commit { parents = commit.parents ++ id ∷ [] }) next e)
        (record {
          header = h.header;
          parents = All-append (λ i. kind_named i os ≡ Some kind.Commit) commit.parents (id ∷ []) h.parents
              (All-cons (λ i. kind_named i os ≡ Some kind.Commit) id [] k
              (All-nil (λ i. kind_named i os ≡ Some kind.Commit)));
          few_parents = omega (arith, n, less);
          held = h.held;
        })
    by false lt e = absurd (cc e)

-- ---- changes of files

file-put-good : (os : List Object) (commit next : OpenCommit) → IsGoodCommit os commit
    → AreFiles (listed commit.files) → (path : Path) (e : Entry)
    → (e.mode ≢ mode.Gitlink → kind_named e.name os ≡ Some (kind_of_mode e.mode))
    → file_put path e commit ≡ Ok next → IsGoodCommit os next
file-put-good os commit next h are path e held is =
    other-files os commit next (put_at commit.files path e) h
    (changed-ok commit (put_at commit.files path e) _ next is)
    (all-edited None path commit.files (moved path (([], e) ∷ [])) are (IsFileHeld os) h.held (held, tt))

tree-put-good : (digest : List ℕ → List ℕ) (os : List Object) → AreObjects digest os
    → (commit next : OpenCommit) → IsGoodCommit os commit → AreFiles (listed commit.files)
    → (path : Path) (tree : List ℕ) → kind_named tree os ≡ Some kind.Tree
    → tree_put os path tree commit ≡ Ok next → IsGoodCommit os next
tree-put-good digest os good commit next h are path tree k is =
    let files = stored_files os tree in
    other-files os commit next (put_tree_at commit.files path files) h
    (changed-ok commit (put_tree_at commit.files path files) _ next is)
    (all-edited None path commit.files (moved path files) are (IsFileHeld os) h.held
    (all-map (λ (f : Path × Entry). (path ++ f.0, f.1)) (IsFileHeld os) files
    (stored-held digest os good tree k)))

pub start_keeps : (digest : List ℕ → List ℕ) (os : List Object) → AreObjects digest os
    → (commit next : OpenCommit) → IsGoodCommit os commit → AreFiles (listed commit.files)
    → (id : List ℕ) → kind_named id os ≡ Some kind.Commit
    → started_from os id commit ≡ Ok next → IsGoodCommit os next
start_keeps digest os good commit next h are id k is =
    let s = stored_commit digest os good id k in
    let tree : kind_named (tree_of_commit os id) os ≡ Some kind.Tree =
    subst (λ (o : Option Content). kind_named (commit_read (unwrap_or o no_content).bytes).tree os ≡ Some kind.Tree)
    (sym s.named) s.tree in
    let with = parent-ok id (tree_put os [] (tree_of_commit os id) commit) next
    (sym (starts os id (tree_of_commit os id) commit refl) ∙ is) in
    let put = tree-put-good digest os good commit with.commit h are [] (tree_of_commit os id) tree with.was in
    subst (IsGoodCommit os) with.is (record {
      header = put.header;
      parents = All-cons (λ i. kind_named i os ≡ Some kind.Commit) id [] k
          (All-nil (λ i. kind_named i os ≡ Some kind.Commit));
      few_parents = omega arith;
      held = put.held;
    })

-- what an object that is there and of a kind has
held-kind : (os : List Object) (wanted : Kind) (id n : List ℕ) → held_as os wanted id ≡ Ok n
    → kind_named n os ≡ Some wanted
held-kind os wanted id n e =
    let step = went (or_fault fault.ObjectUnknown (object_named id os))
    (λ _. cond (is_of os wanted id) (Ok id) (Err fault.WrongKind)) n e in
    by (is_of os wanted id) refl step.then
  where
    by : (b : Bool) → is_of os wanted id ≡ b
        → ◌≡◌ {A = Result (List ℕ) Fault} (cond b (Ok id) (Err fault.WrongKind)) (Ok n)
        → kind_named n os ≡ Some wanted
    by true at e =
        subst (λ (i : List ℕ). kind_named i os ≡ Some wanted) (ok_is id n e)
        ((is_of_kind os wanted id).0 at)
    by false at e = absurd (cc e)

tree-kind : (os : List Object) (marks : Marks) (object : DataRef) (n : List ℕ)
    → tree_of os marks object ≡ Ok n → kind_named n os ≡ Some kind.Tree
tree-kind os marks (data_ref.Mark m) n e =
    let step = went (marked_object marks m) (λ _. Err fault.WrongKind) n e in absurd (cc step.then)
tree-kind os marks (data_ref.Name id) n e = held-kind os kind.Tree id n e

blob-kind : (os : List Object) (marks : Marks) → AreMarks os marks → (object : DataRef)
    (n : List ℕ) → blob_of os marks object ≡ Ok n → kind_named n os ≡ Some kind.Blob
blob-kind os marks set (data_ref.Mark m) n e =
    from_ok (λ n. kind_named n os ≡ Some kind.Blob) (marked_as marks kind.Blob m) n e
    (marked_has os marks set kind.Blob m)
blob-kind os marks set (data_ref.Name id) n e = held-kind os kind.Blob id n e

blob-put-good : (os : List Object) (commit next : OpenCommit) → IsGoodCommit os commit
    → AreFiles (listed commit.files) → (marks : Marks) → AreMarks os marks → (m : FileMode)
    (object : DataRef) (path : Path) → kind_of_mode m ≡ kind.Blob
    → and_then (blob_of os marks object) (λ id. file_put path (entry_of m id) commit) ≡ Ok next
    → IsGoodCommit os next
blob-put-good os commit next h are marks set m object path file is =
    let step = went (blob_of os marks object) (λ id. file_put path (entry_of m id) commit) next is in
    file-put-good os commit next h are path (entry_of m step.value)
    (λ _. blob-kind os marks set object step.value step.was ∙ ap (λ (k : Kind). Some k) (sym file))
    step.then

pub change_keeps : (digest : List ℕ → List ℕ) (os : List Object) → AreObjects digest os
    → (commit next : OpenCommit) → IsGoodCommit os commit → AreFiles (listed commit.files)
    → (marks : Marks) → AreMarks os marks → (m : FileMode) (object : DataRef) (path : Path)
    → modified os marks m object path commit ≡ Ok next → IsGoodCommit os next
change_keeps digest os good commit next h are marks set mode.Directory object path is =
    let step = went (tree_of os marks object) (λ id. tree_put os path id commit) next is in
    tree-put-good digest os good commit next h are path step.value
    (tree-kind os marks object step.value step.was) step.then
change_keeps digest os good commit next h are marks set mode.Gitlink object path is =
    let step = went (link_of marks object)
    (λ id. file_put path (entry_of mode.Gitlink id) commit) next is in
    file-put-good os commit next h are path (entry_of mode.Gitlink step.value)
    (λ ne. absurd (ne refl)) step.then
change_keeps digest os good commit next h are marks set mode.Regular object path is =
    blob-put-good os commit next h are marks set mode.Regular object path refl is
change_keeps digest os good commit next h are marks set mode.Executable object path is =
    blob-put-good os commit next h are marks set mode.Executable object path refl is
change_keeps digest os good commit next h are marks set mode.Symlink object path is =
    blob-put-good os commit next h are marks set mode.Symlink object path refl is

pub delete_keeps : (os : List Object) (commit : OpenCommit) → IsGoodCommit os commit
    → AreFiles (listed commit.files) → (path : Path) → IsGoodCommit os (deleted path commit)
delete_keeps os commit h are path =
    other-files os commit (deleted path commit) (without commit.files path) h refl
    (all-without commit.files path are (IsFileHeld os) h.held)

pub copy_keeps : (os : List Object) (commit next : OpenCommit) → IsGoodCommit os commit
    → AreFiles (listed commit.files) → (source path : Path)
    → copied_to source path commit ≡ Ok next → IsGoodCommit os next
copy_keeps os commit next h are source path is =
    let files = files_at commit.files source in
    other-files os commit next (copied commit.files source path) h
    (changed-ok commit (copied commit.files source path) _ next is)
    (all-edited None path commit.files (moved path files) are (IsFileHeld os) h.held
    (all-map (λ (f : Path × Entry). (path ++ f.0, f.1)) (IsFileHeld os) files
    (cut-all (IsFileHeld os) source (listed commit.files) h.held)))

pub rename_keeps : (os : List Object) (commit next : OpenCommit) → IsGoodCommit os commit
    → AreFiles (listed commit.files) → (source path : Path)
    → renamed_to source path commit ≡ Ok next → IsGoodCommit os next
rename_keeps os commit next h are source path is =
    let files = files_at commit.files source in
    let same : with_files (finmap.retain_keys commit.files (stays (Some source) path)) (moved path files)
    ≡ renamed commit.files source path =
    ap (λ (m : FileMap). with_files m (moved path files))
    (sym (retain-twice (is_outside source) (λ q. stays None path q) commit.files)) in
    other-files os commit next (renamed commit.files source path) h
    (changed-ok commit (renamed commit.files source path) _ next is)
    (subst (λ (m : FileMap). AllByRecursion (IsFileHeld os) (listed m)) same
    (all-edited (Some source) path commit.files (moved path files) are (IsFileHeld os) h.held
    (all-map (λ (f : Path × Entry). (path ++ f.0, f.1)) (IsFileHeld os) files
    (cut-all (IsFileHeld os) source (listed commit.files) h.held))))

pub all_deleted_keeps : (os : List Object) (commit : OpenCommit) → IsGoodCommit os commit
    → IsGoodCommit os (all_deleted commit)
all_deleted_keeps os commit h =
    other-files os commit (all_deleted commit) finmap.empty h refl (none-listed (IsFileHeld os))

-- ---- what is stored

grow-good : (digest : List ℕ → List ℕ) (os more : List Object) (content : Content)
    → WasStored digest content os more → AreObjects digest os → MayStore digest os content
    → Holds digest os more content
grow-good digest os more content was good may =
    subst (λ (new : List Object). Holds digest os new content) was.is
    (stored_good digest os good content may was.none)

named-kind : (id : List ℕ) (os : List Object) (content : Content) → object_named id os ≡ Some content
    → kind_named id os ≡ Some content.kind
named-kind id os content at = ap (option_map (λ (c : Content). c.kind)) at

module _ (digest : List ℕ → List ℕ) (names : AnswersNames digest) (os : List Object)
    (good : AreObjects digest os) (commit : OpenCommit) (h : IsGoodCommit os commit)
    (are : AreFiles (listed commit.files)) where
  blob-may : (bytes : List ℕ) → MayStore digest os (content_from kind.Blob bytes)
  blob-may bytes = record {
    name = name_of digest names (content_from kind.Blob bytes);
    valid = tt;
    connected = All-nil (StandsBefore os (length os));
  }

  blob-keeps : (m : FileMode) (path : Path) (bytes : List ℕ) (left : Left)
      → kind_of_mode m ≡ kind.Blob
      → blob_put digest os m path (content_from kind.Blob bytes) commit ≡ Ok left
      → GrowGood digest os left.objects × IsGoodCommit left.objects left.commit
  blob-keeps m path bytes left file is =
      let blob = content_from kind.Blob bytes in
      let id = name_by digest blob in
      let first = went (file_put path (entry_of m id) commit)
      (λ next. and_then (stored digest blob os) (λ more. Ok (left_with more next))) left is in
      let second = went (stored digest blob os) (λ more. Ok (left_with more first.value)) left first.then in
      let holds = grow-good digest os second.value blob
      (stored-ok digest blob os second.value second.was) good (blob-may bytes) in
      let longer : IsGoodCommit second.value commit =
      subst (λ (new : List Object). IsGoodCommit new commit) (sym holds.grows.are)
      (longer_is os holds.grows.more commit h) in
      let put = file-put-good second.value commit first.value longer are path (entry_of m id)
      (λ _. named-kind id second.value blob holds.held ∙ ap (λ (k : Kind). Some k) (sym file)) first.was in
      let same = ok_is (left_with second.value first.value) left second.then in
      subst (λ (l : Left). GrowGood digest os l.objects × IsGoodCommit l.objects l.commit) same
      (record { good = holds.good; more = holds.grows.more; are = holds.grows.are }, put)

  pub contents_keep : (m : FileMode) (path : Path) (bytes : List ℕ) (left : Left)
      → contents_put digest os m path bytes commit ≡ Ok left
      → GrowGood digest os left.objects × IsGoodCommit left.objects left.commit
  contents_keep mode.Directory path bytes left is = absurd (cc is)
  contents_keep mode.Gitlink path bytes left is = absurd (cc is)
  contents_keep mode.Regular path bytes left is = blob-keeps mode.Regular path bytes left refl is
  contents_keep mode.Executable path bytes left is =
      blob-keeps mode.Executable path bytes left refl is
  contents_keep mode.Symlink path bytes left is = blob-keeps mode.Symlink path bytes left refl is

  trees-good : (path : Path) (more : List Object)
      → trees_stored digest (files_at commit.files path) os ≡ Ok more
      → StayGood digest os more (tree_id digest (files_at commit.files path))
  trees-good path more is =
      let was = trees-ok digest (files_at commit.files path) os more is in
      subst (λ (new : List Object). StayGood digest os new (tree_id digest (files_at commit.files path)))
      was.is
      (nested_added digest names os good commit.files are
      (All-from_recursion (IsFileHeld os) (listed commit.files) h.held) path was.none)

  same-objects : GrowGood digest os os
  same-objects = record { good = good; more = []; are = sym (append-nil os) }

  entry-from : (path : Path) (found : Option Entry) (shown : Shown)
      → found_shown digest os commit.files path found ≡ Ok shown
      → GrowGood digest os shown.objects
  entry-from path None shown is =
      subst (λ (s : Shown). GrowGood digest os s.objects) (ok_is _ shown is) same-objects
  entry-from path (Some e) shown is =
      let step = went (file_or_trees digest os commit.files path e.mode)
      (λ more. Ok (record { entry = Some e; objects = more })) shown is in
      subst (λ (s : Shown). GrowGood digest os s.objects) (ok_is _ shown step.then)
      (by e.mode step.value step.was)
    where
      same : (more : List Object) → ◌≡◌ {A = Result (List Object) Fault} (Ok os) (Ok more)
          → GrowGood digest os more
      same more e = subst (GrowGood digest os) (ok_is os more e) same-objects

      by : (m : FileMode) (more : List Object)
          → file_or_trees digest os commit.files path m ≡ Ok more → GrowGood digest os more
      by mode.Directory more e =
          let stay = trees-good path more e in
          record { good = stay.good; more = stay.more; are = stay.are }
      by mode.Regular more e = same more e
      by mode.Executable more e = same more e
      by mode.Symlink more e = same more e
      by mode.Gitlink more e = same more e

  pub entry_keeps : (path : Path) (shown : Shown)
      → commit_entry_shown digest os commit.files path ≡ Ok shown → GrowGood digest os shown.objects
  entry_keeps path shown is =
      entry-from path (entry_at digest commit.files path) shown is

-- ---- the end

author-written : (author : Option (List ℕ)) (committer : List ℕ) → IfSome author IsWrittenIdent
    → IsWrittenIdent committer → IsWrittenIdent (unwrap_or author committer)
author-written None committer h k = k
author-written (Some ident) committer h k = h

parents-stand : (digest : List ℕ → List ℕ) (os : List Object) → AreObjects digest os
    → (ids : List (List ℕ)) → All (λ id. kind_named id os ≡ Some kind.Commit) ids
    → All (StandsBefore os (length os)) (map (reference kind.Commit) ids)
parents-stand digest os good [] h = All-nil (StandsBefore os (length os))
parents-stand digest os good (id ∷ ids) h =
    let k = All-head (λ i. kind_named i os ≡ Some kind.Commit) id ids h in
    All-cons (StandsBefore os (length os)) (reference kind.Commit id) (map (reference kind.Commit) ids)
    (record { before = (there digest os good id kind.Commit k).before; kind = k })
    (parents-stand digest os good ids (All-tail (λ i. kind_named i os ≡ Some kind.Commit) id ids h))

-- the commit of a tree that is there may be stored
commit-may : (digest : List ℕ → List ℕ) → AnswersNames digest → (os : List Object)
    → AreObjects digest os → (commit : OpenCommit) → IsGoodCommit os commit
    → kind_named (tree_id digest (listed commit.files)) os ≡ Some kind.Tree
    → MayStore digest os (commit_content digest commit)
commit-may digest names os good commit h tree = record {
  name = name_of digest names (commit_content digest commit);
  valid = (c, record { writable = writable; contents = refl; few_parents = h.few_parents });
  connected = subst
      (λ (x : Commit). All (StandsBefore os (length os)) (commit_references x))
      (sym (commit_back c writable))
      (All-cons (StandsBefore os (length os)) (reference kind.Tree c.tree)
      (map (reference kind.Commit) commit.parents)
      (record { before = (there digest os good c.tree kind.Tree tree).before; kind = tree })
      (parents-stand digest os good commit.parents h.parents));
}
  where
    c : Commit
    c = commit_of (tree_id digest (listed commit.files)) commit

    writable : CanWriteCommit c
    writable = record {
      tree = name_of digest names (tree_content (tree_entries digest (listed commit.files)));
      parents = All-weaker (λ id. kind_named id os ≡ Some kind.Commit) IsObjectName
          (λ id k. (there digest os good id kind.Commit k).name) commit.parents h.parents;
      author = author-written commit.header.author commit.header.committer h.header.author h.header.committer;
      committer = h.header.committer;
      encoding = h.header.encoding;
    }

pub end_keeps : (digest : List ℕ → List ℕ) → AnswersNames digest → (os : List Object)
    → AreObjects digest os → (commit : OpenCommit) → IsGoodCommit os commit
    → AreFiles (listed commit.files) → (end : Closed) → closed digest os commit ≡ Ok end
    → HoldsCommit digest os end.objects end.id
end_keeps digest names os good commit h are end is =
    let content = commit_content digest commit in
    let files = listed commit.files in
    let root : files_at commit.files [] ≡ files = cut-root files in
    let first = went (trees_stored digest files os) (λ with_trees.
    and_then (stored digest content with_trees) (λ more.
    Ok (record { id = name_by digest content; objects = more }))) end is in
    let stay = subst (λ (l : Listed). StayGood digest os first.value (tree_id digest l)) root
    (trees-good digest names os good commit h are [] first.value
    (ap (λ (l : Listed). trees_stored digest l os) root ∙ first.was)) in
    let second = went (stored digest content first.value) (λ more.
    Ok (record { id = name_by digest content; objects = more })) end first.then in
    let longer : IsGoodCommit first.value commit =
    subst (λ (new : List Object). IsGoodCommit new commit) (sym stay.are) (longer_is os stay.more commit h) in
    let holds = grow-good digest first.value second.value content
    (stored-ok digest content first.value second.value second.was) stay.good
    (commit-may digest names first.value stay.good commit longer stay.tree) in
    subst (λ (c : Closed). HoldsCommit digest os c.objects c.id) (ok_is _ end second.then)
    (record {
      grows = record {
        good = holds.good;
        more = stay.more ++ holds.grows.more;
        are = holds.grows.are ∙ ap (λ (l : List Object). l ++ holds.grows.more) stay.are
            ∙ append_assoc os stay.more holds.grows.more;
      };
      commit = named-kind (name_by digest content) second.value content holds.held;
    })
