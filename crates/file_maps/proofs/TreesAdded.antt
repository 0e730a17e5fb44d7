-- The trees of files whose objects are there may be added, one after another.
use Rattle.std.proofs.Common.{◌≡◌, ◌≢◌, ℕ, zero, suc, ◌<◌, ◌≤◌, List, [], ◌∷◌, ◌++◌, length, map, All, Option, None, Some, refl, sym, ap, ◌∙◌, subst, append_assoc, arith}
use Rattle.std.specs.Prelude.{unwrap_or}
use Rattle.std.specs.Option.{option_map}
use Rattle.std.specs.List.{AllByRecursion, flat_map}
use Rattle.std.specs.Str.{bytes_eq}
use Rattle.std.proofs.lemmas.List.{append-nil}
use Rattle.std.proofs.lemmas.List.Elements.{All-nil, All-cons, All-from_recursion, recursion_from_All}
use Rattle.git_model.specs.declared.file_mode.FileMode.{FileMode}
use Rattle.git_model.specs.declared.file_mode.FileMode.TheVariants as mode
use Rattle.git_model.specs.declared.kind.Kind.{Kind}
use Rattle.git_model.specs.Content.{Content, no_content, name_by}
use Rattle.git_model.specs.GoodRepository.{AreObjects, StandsBefore}
use Rattle.git_model.specs.Modes.{kind_of_mode}
use Rattle.git_model.specs.ObjectName.{IsObjectName, object_name}
use Rattle.git_model.specs.References.{Reference, reference, tree_references, content_named, kind_named}
use Rattle.git_model.specs.Repository.{Object, object_named, with_object}
use Rattle.git_model.specs.Tree.{TreeEntry, CanWriteTree, tree_contents}
use Rattle.git_model.proofs.GoodRefs.{kind_longer, there as stays}
use Rattle.git_model.proofs.TreeReadings.{tree_back}
use Rattle.git_names.specs.Naming.{AnswersNames}
use Rattle.git_paths.specs.Paths.{IsPath}
use Rattle.git_paths.proofs.Cases.{by_cases}
use Rattle.tenant_tables.specs.Adding.{store_fault}
use Rattle.tenant_tables.proofs.StoredGood.{Grows, Holds, there, stored_good}
use Rattle.file_maps.specs.declared.entry.Entry.{Entry}
use Rattle.file_maps.specs.FileMap.{Path, Listed, FileMap, AreFiles, IsFile, listed}
use Rattle.file_maps.specs.Edits.{files_at}
use Rattle.file_maps.specs.HeldFiles.{IsFileHeld}
use Rattle.file_maps.specs.Below.{group_trees}
use Rattle.file_maps.specs.Trees.{Groups, add_file, depth_of, entries_within, file_of, grouped, nested_trees, tree_content, tree_id, tree_name, trees_within}
use Rattle.file_maps.specs.GoodTrees.{StayGood}
use Rattle.file_maps.specs.Storable.{AreStorable}
use Rattle.file_maps.specs.Storing.{or_later, trees_fault, with_trees}
use Rattle.file_maps.proofs.Apart.{all-weaker, cut-all}
use Rattle.file_maps.proofs.Cutting.{storable-cut, turns-cut}
use Rattle.file_maps.proofs.Fits.{IsGroup, InTurn, Pairs, groups-are, grouped-all, none_after}
use Rattle.file_maps.proofs.Nested.{direct_of}
use Rattle.file_maps.proofs.Rising.{Bytes, groups-rise}
use Rattle.file_maps.proofs.Stored.{no_fault, with_trees-append}
use Rattle.file_maps.proofs.Written.{can_write_tree}

-- ---- more objects

grown : (os : List Object) → Grows os os
grown os = record { more = []; are = sym (append-nil os) }

grown_twice : (os mid new : List Object) → Grows os mid → Grows mid new → Grows os new
grown_twice os mid new first second = record {
  more = first.more ++ second.more;
  are = second.are ∙ ap (λ (objects : List Object). objects ++ second.more) first.are
      ∙ append_assoc os first.more second.more;
}

kind_grown : (os new : List Object) → Grows os new → (id : List ℕ) (k : Kind)
    → kind_named id os ≡ Some k → kind_named id new ≡ Some k
kind_grown os new grows id k held =
    subst (λ (objects : List Object). kind_named id objects ≡ Some k) (sym grows.are)
    (kind_longer os grows.more id k held)

held_grown : (os new : List Object) → Grows os new → (f : Path × Entry) → IsFileHeld os f
    → IsFileHeld new f
held_grown os new grows f held other =
    kind_grown os new grows f.1.name (kind_of_mode f.1.mode) (held other)

-- ---- what the entries of a tree refer to

-- What an entry names has an object name, and is there unless it is a link's; a directory is not
-- empty.
record Refers (os : List Object) (e : TreeEntry) : Type 0 where
  name : IsObjectName e.id
  held : e.mode ≢ mode.Gitlink → kind_named e.id os ≡ Some (kind_of_mode e.mode)
  filled : e.mode ≡ mode.Directory → (content_named e.id os).bytes ≢ []

no_link : (m : FileMode) → m ≡ mode.Directory → m ≢ mode.Gitlink
no_link m is link = cc

content_grown : (os new : List Object) → Grows os new → (id : List ℕ) (k : Kind)
    → kind_named id os ≡ Some k → content_named id new ≡ content_named id os
content_grown os new grows id k held =
    ap (λ (objects : List Object). content_named id objects) grows.are
    ∙ ap (λ (o : Option Content). unwrap_or o no_content)
    (stays os grows.more id k (object_named id os) refl held).object

refers_grown : (os new : List Object) → Grows os new → (e : TreeEntry) → Refers os e
    → Refers new e
refers_grown os new grows e refers = record {
  name = refers.name;
  held = λ other. kind_grown os new grows e.id (kind_of_mode e.mode) (refers.held other);
  filled = λ is none. refers.filled is
      (ap (λ (c : Content). c.bytes) (sym (content_grown os new grows e.id (kind_of_mode e.mode)
      (refers.held (no_link e.mode is)))) ∙ none);
}

refers_all : (digest : List ℕ → List ℕ) (os : List Object) → AreObjects digest os
    → (es : List TreeEntry) → AllByRecursion (Refers os) es
    → All (StandsBefore os (length os)) (tree_references es)
refers_all digest os good [] refers = All-nil (StandsBefore os (length os))
refers_all digest os good (e ∷ es) refers =
    by_mode e.mode refl (refers_all digest os good es refers.1)
  where
    Stand : Reference → Type 0
    Stand r = StandsBefore os (length os) r

    one : (m : FileMode) → e.mode ≡ m → m ≢ mode.Gitlink
        → StandsBefore os (length os) (reference (kind_of_mode m) e.id)
    one m is other =
        let held : kind_named e.id os ≡ Some (kind_of_mode m) =
        subst (λ (x : FileMode). x ≢ mode.Gitlink → kind_named e.id os ≡ Some (kind_of_mode x)) is
        refers.0.held other in
        record {
          before = (there digest os good e.id (kind_of_mode m) held).before;
          kind = held;
        }

    by_mode : (m : FileMode) → e.mode ≡ m
        → All (StandsBefore os (length os)) (tree_references es)
        → All (StandsBefore os (length os)) (tree_references (e ∷ es))
    by_mode mode.Regular is rest =
        rw is (All-cons (StandsBefore os (length os)) _ _ (one mode.Regular is (λ no. cc)) rest)
    by_mode mode.Executable is rest =
        rw is (All-cons (StandsBefore os (length os)) _ _ (one mode.Executable is (λ no. cc)) rest)
    by_mode mode.Symlink is rest =
        rw is (All-cons (StandsBefore os (length os)) _ _ (one mode.Symlink is (λ no. cc)) rest)
    by_mode mode.Gitlink is rest = rw is rest
    by_mode mode.Directory is rest =
        rw is (All-cons (StandsBefore os (length os)) _ _ (one mode.Directory is (λ no. cc)) rest)

-- ---- one tree

pub name_of : (digest : List ℕ → List ℕ) → AnswersNames digest → (content : Content)
    → IsObjectName (name_by digest content)
unfolding object_name
name_of digest names content = names _

one_tree : (digest : List ℕ → List ℕ) → AnswersNames digest → (os : List Object)
    → AreObjects digest os → (es : List TreeEntry) → CanWriteTree es
    → AllByRecursion (Refers os) es → trees_fault digest (es ∷ []) os ≡ None
    → Holds digest os (with_trees digest (es ∷ []) os) (tree_content es)
one_tree digest names os good es writable refers unrefused =
    stored_good digest os good (tree_content es)
    (record {
      name = name_of digest names (tree_content es);
      valid = (
        es,
        record {
          writable = writable;
          contents = refl;
          none_empty = All-from_recursion
              (λ e. e.mode ≡ mode.Directory → (content_named e.id os).bytes ≢ []) es
              (all-weaker (Refers os) (λ e. e.mode ≡ mode.Directory → (content_named e.id os).bytes ≢ [])
              (λ e r. r.filled) es refers);
        },
      );
      connected = subst (λ (read : List TreeEntry). All (StandsBefore os (length os)) (tree_references read))
          (sym (tree_back es writable)) (refers_all digest os good es refers);
    })
    (no_fault digest (store_fault (tree_name digest es) (tree_content es) os) None unrefused).0

-- ---- trees one after another

fault_parts : (digest : List ℕ → List ℕ) (a b : List (List TreeEntry)) (os : List Object)
    → trees_fault digest (a ++ b) os ≡ None
    → (trees_fault digest a os ≡ None) × (trees_fault digest b (with_trees digest a os) ≡ None)
fault_parts digest [] b os none = (refl, none)
fault_parts digest (es ∷ a) b os none =
    let next = with_object (tree_name digest es) (tree_content es) os in
    let first = no_fault digest (store_fault (tree_name digest es) (tree_content es) os)
    (trees_fault digest (a ++ b) next) none in
    let rest = fault_parts digest a b next first.1 in
    (ap (λ f. or_later f (trees_fault digest a next)) first.0 ∙ rest.0, rest.1)

-- ---- a directory that has files is not empty

add_some : (c : Bytes) (f : Path × Entry) (groups : Groups) → add_file c f groups ≢ []
add_some c f [] none = cc
add_some c f (g ∷ groups) none =
    by_cases (bytes_eq c g.0) (λ yea. let is = rw yea at none in cc) (λ nay. let is = rw nay at none in cc)

contents_first : (e : TreeEntry) (es : List TreeEntry) → tree_contents (e ∷ es) ≢ []
contents_first e es none = by_mode e.mode refl
  where
    by_mode : (m : FileMode) → e.mode ≡ m → ⊥
    by_mode mode.Regular is = let no = rw is at none in cc
    by_mode mode.Executable is = let no = rw is at none in cc
    by_mode mode.Symlink is = let no = rw is at none in cc
    by_mode mode.Gitlink is = let no = rw is at none in cc
    by_mode mode.Directory is = let no = rw is at none in cc

contents_some : (digest : List ℕ → List ℕ) (deep : ℕ) (groups : Groups) → groups ≢ []
    → tree_contents (map (direct_of digest deep) groups) ≢ []
contents_some digest deep [] some none = some refl
contents_some digest deep (g ∷ groups) some none =
    contents_first (direct_of digest deep g) (map (direct_of digest deep) groups) none

filled : (digest : List ℕ → List ℕ) (deep : ℕ) (c : Bytes) (q : Path) (e : Entry) (files : Listed)
    → 0 < deep → tree_contents (entries_within digest deep ((c ∷ q, e) ∷ files)) ≢ []
unfolding entries_within
filled digest zero c q e files some none = absurd (omega arith)
filled digest (suc n) c q e files some none =
    contents_some digest n (add_file c (q, e) (grouped files)) (add_some c (q, e) (grouped files)) none

-- ---- the trees of groups

record AreAdded (digest : List ℕ → List ℕ) (os new : List Object) (es : List TreeEntry)
    : Type 0 where
  good : AreObjects digest new
  grows : Grows os new
  refers : AllByRecursion (Refers new) es

-- what is to be shown of files with fewer components
abbrev AddsTree : (List ℕ → List ℕ) → ℕ → Listed → Type 0
AddsTree digest deep files = (os : List Object) → AreObjects digest os
    → AllByRecursion (IsFileHeld os) files
    → trees_fault digest (trees_within digest deep files) os ≡ None
    → Holds digest os (with_trees digest (trees_within digest deep files) os)
    (tree_content (entries_within digest deep files))

refers_to_file : (os : List Object) (c : Bytes) (e : Entry) (files : Listed) → IsFileHeld os ([], e)
    → e.mode ≢ mode.Directory → IsObjectName e.name
    → Refers os (record { mode = e.mode; name = c; id = e.name })
refers_to_file os c e files held file name =
    record { name = name; held = held; filled = λ is. absurd (file is) }

refers_to_tree : (digest : List ℕ → List ℕ) → AnswersNames digest → (os new : List Object)
    → (c : Bytes) (es : List TreeEntry) → Holds digest os new (tree_content es)
    → tree_contents es ≢ []
    → Refers new (record { mode = mode.Directory; name = c; id = tree_name digest es })
refers_to_tree digest names os new c es holds some = record {
  name = name_of digest names (tree_content es);
  held = λ _. ap (λ (o : Option Content). option_map (λ (x : Content). x.kind) o) holds.held;
  filled = λ _ none. some
      (sym (ap (λ (o : Option Content). (unwrap_or o no_content).bytes) holds.held) ∙ none);
}

groups_added : (digest : List ℕ → List ℕ) → AnswersNames digest → (n bound : ℕ) → bound ≤ suc n
    → ((files : Listed) → AreStorable files → depth_of files ≤ n → AddsTree digest n files)
    → (groups : Groups) → AllByRecursion (IsGroup bound) groups
    → (os : List Object) → AreObjects digest os
    → AllByRecursion (λ g. AllByRecursion (IsFileHeld os) g.1) groups
    → trees_fault digest (flat_map (group_trees digest n) groups) os ≡ None
    → AreAdded digest os (with_trees digest (flat_map (group_trees digest n) groups) os)
    (map (direct_of digest n) groups)
groups_added digest names n bound le below [] are os good held none =
    record { good = good; grows = grown os; refers = tt }
groups_added digest names n bound le below ((c, []) ∷ groups) are os good held none = absurd are.0
groups_added digest names n bound le below ((c, (([], e) ∷ files)) ∷ groups) are os good held none =
    let new = with_trees digest (flat_map (group_trees digest n) groups) os in
    let rest = groups_added digest names n bound le below groups are.1 os good held.1 none in
    record {
      good = rest.good;
      grows = rest.grows;
      refers = (
        refers_grown os new rest.grows (record { mode = e.mode; name = c; id = e.name })
            (refers_to_file os c e files held.0.0 are.0.mode are.0.name),
        rest.refers,
      );
    }
groups_added digest names n bound le below ((c, ((d ∷ q, e) ∷ files)) ∷ groups) are os good held none =
    let inside : Listed = (d ∷ q, e) ∷ files in
    let es = entries_within digest n inside in
    let more = flat_map (group_trees digest n) groups in
    let parts = fault_parts digest (trees_within digest n inside) more os none in
    let mid = with_trees digest (trees_within digest n inside) os in
    let new = with_trees digest more mid in
    let deep : suc (depth_of inside) ≤ bound = are.0.depth in
    let holds = below inside are.0.storable (omega arith) os good held.0 parts.0 in
    let rest = groups_added digest names n bound le below groups are.1 mid holds.good
    (all-weaker (λ g. AllByRecursion (IsFileHeld os) g.1) (λ g. AllByRecursion (IsFileHeld mid) g.1)
    (λ g h. all-weaker (IsFileHeld os) (IsFileHeld mid) (held_grown os mid holds.grows) g.1 h) groups held.1)
    parts.1 in
    let some : 0 < n = omega arith in
    subst (λ (objects : List Object). AreAdded digest os objects (map (direct_of digest n) ((c, inside) ∷ groups)))
    (sym (with_trees-append digest (trees_within digest n inside) more os))
    (record {
      good = rest.good;
      grows = grown_twice os mid new holds.grows rest.grows;
      refers = (
        refers_grown mid new rest.grows
            (record { mode = mode.Directory; name = c; id = tree_name digest es })
            (refers_to_tree digest names os mid c es holds (filled digest n d q e files some)),
        rest.refers,
      );
    })

-- ---- all trees of files

names_of : (os : List Object) (es : List TreeEntry) → AllByRecursion (Refers os) es
    → AllByRecursion (λ e. IsObjectName e.id) es
names_of os = all-weaker (Refers os) (λ e. IsObjectName e.id) (λ e r. r.name)

trees_added : (digest : List ℕ → List ℕ) → AnswersNames digest → (deep : ℕ) (files : Listed)
    → AreStorable files → depth_of files ≤ deep → AddsTree digest deep files
unfolding trees_within entries_within
trees_added digest names zero files storable le os good held none =
    one_tree digest names os good [] (can_write_tree digest 0 0 [] tt tt tt) tt none
trees_added digest names (suc n) files storable le os good held none =
    let groups = grouped files in
    let a = flat_map (group_trees digest n) groups in
    let es = map (direct_of digest n) groups in
    let parts = fault_parts digest a (es ∷ []) os none in
    let mid = with_trees digest a os in
    let are = groups-are files storable in
    let added = groups_added digest names n (depth_of files) le (trees_added digest names n) groups are os
    good (grouped-all (IsFileHeld os) files held) parts.0 in
    let rise = groups-rise files
    (all-weaker IsFile (λ f. IsPath f.0) (λ f k. k.path) files storable.each) storable.in_order
    storable.apart in
    let writable = can_write_tree digest n (depth_of files) groups are rise
    (names_of mid es added.refers) in
    let last = one_tree digest names mid added.good es writable added.refers parts.1 in
    subst (λ (objects : List Object). Holds digest os objects (tree_content es))
    (sym (with_trees-append digest a (es ∷ []) os))
    (record {
      good = last.good;
      grows = grown_twice os mid (with_trees digest (es ∷ []) mid) added.grows last.grows;
      held = last.held;
    })

-- ---- the trees of the files below a path

-- What stands at a path is a file alone, or the files of a directory.
root_alone : (files : Listed) → Pairs InTurn files → (e : Entry) → file_of files ≡ Some e
    → depth_of files ≡ 0
root_alone [] turns e is = refl
root_alone (([], f) ∷ files) turns e is = rw (none_after f files turns.0) refl
root_alone ((c ∷ q, f) ∷ files) turns e is = cc

no_files : (digest : List ℕ → List ℕ) → AnswersNames digest → (os : List Object)
    → AreObjects digest os → (deep : ℕ) (files : Listed) → deep ≡ 0
    → trees_fault digest (trees_within digest deep files) os ≡ None
    → Holds digest os (with_trees digest (trees_within digest deep files) os)
    (tree_content (entries_within digest deep files))
unfolding trees_within entries_within
no_files digest names os good zero files is none =
    one_tree digest names os good [] (can_write_tree digest 0 0 [] tt tt tt) tt none
no_files digest names os good (suc n) files is none = absurd (omega arith)

pub below_path : (digest : List ℕ → List ℕ) → AnswersNames digest → (os : List Object)
    → AreObjects digest os → (m : FileMap) → AreFiles (listed m) → (path : Path)
    → AllByRecursion (IsFileHeld os) (files_at m path)
    → trees_fault digest (nested_trees digest (files_at m path)) os ≡ None
    → Holds digest os (with_trees digest (nested_trees digest (files_at m path)) os)
    (tree_content (entries_within digest (depth_of (files_at m path)) (files_at m path)))
below_path digest names os good m are path held none =
    let files = files_at m path in
    by_kind files (turns-cut path (listed m) are) (file_of files) refl
    (storable-cut path (listed m) are) held none
  where
    by_kind : (files : Listed) → Pairs InTurn files → (o : Option Entry) → file_of files ≡ o
        → (file_of files ≡ None → AreStorable files)
        → AllByRecursion (IsFileHeld os) files
        → trees_fault digest (nested_trees digest files) os ≡ None
        → Holds digest os (with_trees digest (nested_trees digest files) os)
        (tree_content (entries_within digest (depth_of files) files))
    by_kind files turns None is storable held none =
        trees_added digest names (depth_of files) files (storable is) (omega arith) os good held none
    by_kind files turns (Some e) is storable held none =
        no_files digest names os good (depth_of files) files (root_alone files turns e is) none

pub nested_added : (digest : List ℕ → List ℕ) → AnswersNames digest → (os : List Object)
    → AreObjects digest os → (m : FileMap) → AreFiles (listed m) → All (IsFileHeld os) (listed m)
    → (path : Path) → trees_fault digest (nested_trees digest (files_at m path)) os ≡ None
    → StayGood digest os (with_trees digest (nested_trees digest (files_at m path)) os)
    (tree_id digest (files_at m path))
nested_added digest names os good m are held path none =
    let holds = below_path digest names os good m are path
    (cut-all (IsFileHeld os) path (listed m) (recursion_from_All (IsFileHeld os) (listed m) held)) none in
    record {
      good = holds.good;
      more = holds.grows.more;
      are = holds.grows.are;
      tree = ap (λ (o : Option Content). option_map (λ (c : Content). c.kind) o) holds.held;
    }
