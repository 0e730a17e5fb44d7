-- A tree that has the entries of an earlier one, some of them with other object names, is good where
-- the earlier one is.
use Rattle.std.proofs.Common.{◌≡◌, ◌≢◌, ℕ, zero, suc, ◌+◌, ◌<◌, ◌≤◌, List, [], ◌∷◌, Option, Some, length, take, get_or, map, refl, sym, ap, subst, ◌∙◌, inl, inr, arith}
use Rattle.std.specs.Prelude.{All, IsSomeAnd, fold, slice_get}
use Rattle.std.proofs.lemmas.Option.{unwrap_or-slice_get}
use Rattle.std.specs.Map.{lookup}
use Rattle.std.specs.Option.{unwrap_or}
use Rattle.std.specs.Ordering.{nat_cmp, is_lt}
use Rattle.std.specs.Cmp.Lexicographic.{slice_cmp}
use Rattle.std.specs.Str.{bytes_eq}
use Rattle.std.proofs.lemmas.List.{get_or-take, length-take}
use Rattle.std.proofs.lemmas.List.Elements.{All-cons, All-head, All-tail}
use Rattle.git_model.specs.Content.{Content, content_from}
use Rattle.git_model.specs.declared.kind.Kind.{Kind}
use Rattle.git_model.specs.declared.kind.Kind.TheVariants as kind
use Rattle.git_model.specs.declared.file_mode.FileMode.{FileMode}
use Rattle.git_model.specs.declared.file_mode.FileMode.TheVariants as mode
use Rattle.git_model.specs.Tree.{TreeEntry, CanWriteEntry, CanWriteTree, order_key, tree_contents}
use Rattle.git_model.specs.TreeReading.{tree_read}
use Rattle.git_model.specs.Repository.{Object}
use Rattle.git_model.specs.References.{object_at, place_of, reference, tree_references}
use Rattle.git_model.specs.GoodRepository.{StandsBefore}
use Rattle.git_model.proofs.TreeReadings.{tree_back}
use Rattle.tenant_tables.specs.declared.summary.Summary.{Summary}
use Rattle.tenant_tables.specs.Trees.{no_files, both}
use Rattle.pool_file_format.specs.Format.{RawObject}
use Rattle.pool_file_checks.specs.Alike.{IsAlike, IsRenamed, AreRenamed, sum_kept}
use Rattle.pool_file_checks.specs.Own.{Rows, content_at, objects_in}
use Rattle.pool_file_checks.specs.Connecting.{EntryStands}
use Rattle.pool_file_checks.specs.Objects.{IsTreeText}
use Rattle.pool_file_checks.specs.Quick.{AreKept, AreGoodBefore, IsGoodAt}
use Rattle.pool_file_checks.specs.Sums.{Sums, FitsAfter, HasFiles, IsWithin, sum_of_entry, sum_of_tree}
use Rattle.pool_file_checks.proofs.ConnectLemmas.{own_content, tree_refers}

-- ---- one entry

module _ (os : List Object) (place : ℕ) (kept : List Summary) where
  same_mode : (e f : TreeEntry) → IsRenamed os place kept e f → f.mode ≡ e.mode
  same_mode e f (inl is) = ap (λ (x : TreeEntry). x.mode) is
  same_mode e f (inr r) = ap (λ (x : TreeEntry). x.mode) r.1

  same_name : (e f : TreeEntry) → IsRenamed os place kept e f → f.name ≡ e.name
  same_name e f (inl is) = ap (λ (x : TreeEntry). x.name) is
  same_name e f (inr r) = ap (λ (x : TreeEntry). x.name) r.1

  writes_again : (e f : TreeEntry) → CanWriteEntry e → IsRenamed os place kept e f → CanWriteEntry f
  writes_again e f w (inl is) = subst CanWriteEntry (sym is) w
  writes_again e f w (inr r) = subst CanWriteEntry (sym r.1) (record { name = w.name; id = r.2 })

  later : (q : ℕ) (e : TreeEntry) → q ≤ place → EntryStands os q e → EntryStands os place e
  later q e le h = λ is. let s = h is in record { before = let b = s.before in omega (arith, b, le); kind = s.kind }

  stands_again : (e f : TreeEntry) → EntryStands os place e → IsRenamed os place kept e f → EntryStands os place f
  stands_again e f h (inl is) = subst (EntryStands os place) (sym is) h
  stands_again e f h (inr r) = subst (EntryStands os place) (sym r.1) r.3.stands

  directory_stands : (e : TreeEntry) → e.mode ≡ mode.Directory → EntryStands os place e
      → StandsBefore os place (reference kind.Tree e.id)
  directory_stands e is h = let s = rw is at h in s refl

  module _ (noted : Sums) (are : AreKept os place kept noted) where
    noted_at : (id : List ℕ) → StandsBefore os place (reference kind.Tree id)
        → lookup (bytes_eq id) noted ≡ Some (sum_kept os kept id)
    noted_at id s = are.each id s.before s.kind

    same_noted : (e f : TreeEntry) → EntryStands os place e → IsRenamed os place kept e f
        → e.mode ≡ mode.Directory → lookup (bytes_eq f.id) noted ≡ lookup (bytes_eq e.id) noted
    same_noted e f h (inl is) dir = ap (λ (x : TreeEntry). lookup (bytes_eq x.id) noted) is
    same_noted e f h (inr r) dir =
        ap (λ (x : TreeEntry). lookup (bytes_eq x.id) noted) r.1
        ∙ noted_at r.0 (directory_stands (record { mode = e.mode; name = e.name; id = r.0 }) dir r.3.stands)
        ∙ ap (λ (s : Summary). Some s) (r.3.sum dir) ∙ sym (noted_at e.id (directory_stands e dir h))

    same_sum : (e f : TreeEntry) → EntryStands os place e → IsRenamed os place kept e f
        → sum_of_entry noted f ≡ sum_of_entry noted e
    same_sum e f h r = by e.mode refl
      where
        m : f.mode ≡ e.mode
        m = same_mode e f r

        n : f.name ≡ e.name
        n = same_name e f r

        by : (x : FileMode) → e.mode ≡ x → sum_of_entry noted f ≡ sum_of_entry noted e
        by mode.Directory is = let l = same_noted e f h r is in rw (m, n, l) refl
        by mode.Regular is = rw (m, n, is) refl
        by mode.Executable is = rw (m, n, is) refl
        by mode.Symlink is = rw (m, n, is) refl
        by mode.Gitlink is = rw (m, n, is) refl

    files_again : (e f : TreeEntry) → EntryStands os place e → IsRenamed os place kept e f
        → HasFiles noted e → HasFiles noted f
    files_again e f h r files = λ dir.
        let was : e.mode ≡ mode.Directory = sym (same_mode e f r) ∙ dir in
        subst (λ (o : Option Summary). IsSomeAnd o (λ s. s.files ≢ 0)) (sym (same_noted e f h r was)) (files was)

    -- ---- all entries

    same_sums : (es fs : List TreeEntry) → All (EntryStands os place) es → AreRenamed os place kept es fs
        → map (sum_of_entry noted) fs ≡ map (sum_of_entry noted) es
    same_sums [] [] h r = refl
    same_sums [] (f ∷ fs) h r = absurd r
    same_sums (e ∷ es) [] h r = absurd r
    same_sums (e ∷ es) (f ∷ fs) h r =
        let one = same_sum e f (All-head (EntryStands os place) e es h) r.0 in
        let rest = same_sums es fs (All-tail (EntryStands os place) e es h) r.1 in
        ap (λ (s : Summary). s ∷ map (sum_of_entry noted) fs) one
        ∙ ap (λ (l : List Summary). sum_of_entry noted e ∷ l) rest

    all_files : (es fs : List TreeEntry) → All (EntryStands os place) es → AreRenamed os place kept es fs
        → All (HasFiles noted) es → All (HasFiles noted) fs
    all_files [] [] h r files = files
    all_files [] (f ∷ fs) h r files = absurd r
    all_files (e ∷ es) [] h r files = absurd r
    all_files (e ∷ es) (f ∷ fs) h r files =
        All-cons (HasFiles noted) f fs
        (files_again e f (All-head (EntryStands os place) e es h) r.0 (All-head (HasFiles noted) e es files))
        (all_files es fs (All-tail (EntryStands os place) e es h) r.1 (All-tail (HasFiles noted) e es files))

    fits_again : (es fs : List TreeEntry) → All (EntryStands os place) es → AreRenamed os place kept es fs
        → FitsAfter noted es → FitsAfter noted fs
    fits_again es fs h r fit = record {
      directories = all_files es fs h r fit.directories;
      within = subst (λ (l : List Summary). IsWithin (fold both no_files l)) (sym (same_sums es fs h r)) fit.within;
    }

  all_written : (es fs : List TreeEntry) → All CanWriteEntry es → AreRenamed os place kept es fs → All CanWriteEntry fs
  all_written [] [] w r = w
  all_written [] (f ∷ fs) w r = absurd r
  all_written (e ∷ es) [] w r = absurd r
  all_written (e ∷ es) (f ∷ fs) w r =
      All-cons CanWriteEntry f fs (writes_again e f (All-head CanWriteEntry e es w) r.0)
      (all_written es fs (All-tail CanWriteEntry e es w) r.1)

  all_stand : (es fs : List TreeEntry) → All (EntryStands os place) es → AreRenamed os place kept es fs
      → All (EntryStands os place) fs
  all_stand [] [] h r = h
  all_stand [] (f ∷ fs) h r = absurd r
  all_stand (e ∷ es) [] h r = absurd r
  all_stand (e ∷ es) (f ∷ fs) h r =
      All-cons (EntryStands os place) f fs (stands_again e f (All-head (EntryStands os place) e es h) r.0)
      (all_stand es fs (All-tail (EntryStands os place) e es h) r.1)

  as_long : (es fs : List TreeEntry) → AreRenamed os place kept es fs → length fs ≡ length es
  as_long [] [] r = refl
  as_long [] (f ∷ fs) r = absurd r
  as_long (e ∷ es) [] r = absurd r
  as_long (e ∷ es) (f ∷ fs) r = let l = as_long es fs r.1 in omega (arith, l)

  renamed_at : (es fs : List TreeEntry) (k : ℕ) (d : TreeEntry) → AreRenamed os place kept es fs
      → IsRenamed os place kept (get_or es k d) (get_or fs k d)
  renamed_at [] [] k d r = inl refl
  renamed_at [] (f ∷ fs) k d r = absurd r
  renamed_at (e ∷ es) [] k d r = absurd r
  renamed_at (e ∷ es) (f ∷ fs) zero d r = r.0
  renamed_at (e ∷ es) (f ∷ fs) (suc k) d r = renamed_at es fs k d r.1

  name_at : (es fs : List TreeEntry) (k : ℕ) (d : TreeEntry) → AreRenamed os place kept es fs
      → (get_or fs k d).name ≡ (get_or es k d).name
  name_at es fs k d r = same_name (get_or es k d) (get_or fs k d) (renamed_at es fs k d r)

  key_at : (es fs : List TreeEntry) (k : ℕ) (d : TreeEntry) → AreRenamed os place kept es fs
      → order_key (get_or fs k d) ≡ order_key (get_or es k d)
  key_at es fs k d r =
      let n = name_at es fs k d r in
      let m = same_mode (get_or es k d) (get_or fs k d) (renamed_at es fs k d r) in rw (n, m) refl

  writable_again : (es fs : List TreeEntry) → CanWriteTree es → AreRenamed os place kept es fs → CanWriteTree fs
  writable_again es fs t r = record {
    entries = all_written es fs t.entries r;
    names_are_distinct = λ i j d lt within same.
        t.names_are_distinct i j d lt (omega (arith, within, long)) (sym (name_at es fs i d r) ∙ same ∙ name_at es fs j d r);
    in_order = λ k d low within.
        ap (λ (a : List ℕ). is_lt (slice_cmp nat_cmp a (order_key (get_or fs k d)))) (key_at es fs (k + 1) d r)
        ∙ ap (λ (b : List ℕ). is_lt (slice_cmp nat_cmp (order_key (get_or es (k + 1) d)) b)) (key_at es fs k d r)
        ∙ t.in_order k d low (omega (arith, within, long));
  }
    where
      long : length fs ≡ length es
      long = as_long es fs r

-- ---- the tree

kept_to : (os : List Object) (place q : ℕ) (kept : List Summary) (noted : Sums) → q < place
    → AreKept os place kept noted → AreKept os q (take q kept) noted
kept_to os place q kept noted lt are = record {
  size = let l = are.size in omega (arith, lt, l, length-take q kept);
  each = λ id less tree. are.each id (omega (arith, less, lt)) tree
      ∙ ap (λ (s : Summary). Some s) (sym (get_or-take q kept _ no_files less));
}

-- A tree that is like an earlier one has its summary.
pub alike_is_good : (os : List Object) (place q : ℕ) (kept : List Summary) (old new : List ℕ) (es fs : List TreeEntry)
    (s : Summary) → q < place → IsGoodAt os q (take q kept) kind.Tree old s → IsTreeText old es → new ≡ tree_contents fs
    → AreRenamed os place kept es fs → IsGoodAt os place kept kind.Tree new s
alike_is_good os place q kept old new es fs s lt good text contents r = record {
  text = (fs, is_text);
  stands = subst (λ (xs : List TreeEntry). All (StandsBefore os place) (tree_references xs)) (sym read_new)
      ((tree_refers os place fs).0 (all_stand os place kept es fs stand r));
  fits = λ noted are.
      let h = good.fits noted (kept_to os place q kept noted lt are) in
      let fit : FitsAfter noted es = subst (FitsAfter noted) read_old h.0.1 in
      let sum : s ≡ sum_of_tree noted es = h.1 refl ∙ ap (sum_of_tree noted) read_old in
      let same : sum_of_tree noted es ≡ sum_of_tree noted fs =
      sym (ap (λ (l : List Summary). fold both no_files l) (same_sums os place kept noted are es fs stand r)) in
      subst (λ (xs : List TreeEntry). (IsTreeText new xs × FitsAfter noted xs) × (kind.Tree ≡ kind.Tree → s ≡ sum_of_tree noted xs))
      (sym read_new) ((is_text, fits_again os place kept noted are es fs stand r fit), λ _. sum ∙ same);
}
  where
    writable : CanWriteTree fs
    writable = writable_again os place kept es fs text.writable r

    is_text : IsTreeText new fs
    is_text = record { writable = writable; contents = contents }

    read_old : tree_read old ≡ es
    read_old = ap tree_read text.contents ∙ tree_back es text.writable

    read_new : tree_read new ≡ fs
    read_new = ap tree_read contents ∙ tree_back fs writable

    all_later : (xs : List TreeEntry) → All (EntryStands os q) xs → All (EntryStands os place) xs
    all_later xs h = λ k d within. later os place kept q (get_or xs k d) (omega (arith, lt)) (h k d within)

    stand : All (EntryStands os place) es
    stand = all_later es ((tree_refers os q es).1 (subst (λ (xs : List TreeEntry). All (StandsBefore os q) (tree_references xs)) read_old good.stands))

-- ---- summaries that are the same

pub same_kept : (os : List Object) (kept : List Summary) (id other : List ℕ) (now before : ℕ)
    → place_of id os ≡ now → place_of other os ≡ before → slice_get kept now ≡ slice_get kept before
    → sum_kept os kept id ≡ sum_kept os kept other
same_kept os kept id other now before here there same =
    ap (λ (n : ℕ). get_or kept n no_files) here ∙ sym (unwrap_or-slice_get kept now no_files)
    ∙ ap (λ (o : Option Summary). unwrap_or o no_files) same ∙ unwrap_or-slice_get kept before no_files
    ∙ ap (λ (n : ℕ). get_or kept n no_files) (sym there)

-- ---- the tree at an earlier place

pub earlier_is_good : (os : List RawObject) (rows : Rows) (place : ℕ) (kept : List Summary) (earlier : ℕ) (id : List ℕ)
    (n : ℕ) (k : Kind) (old new : List ℕ) (s : Summary) → earlier < length kept → s ≡ get_or kept earlier no_files
    → slice_get rows earlier ≡ Some (id, n) → content_from k old ≡ content_at os n → (content_at os n).kind ≡ kind.Tree
    → IsAlike (objects_in os rows) place kept old new → AreGoodBefore (objects_in os rows) place kept
    → IsGoodAt (objects_in os rows) place kept kind.Tree new s
earlier_is_good os rows place kept earlier id n k old new s within at row is tree alike before =
    let lt : earlier < place = let l = before.size in omega (arith, within, l) in
    let there : (object_at earlier (objects_in os rows)).content ≡ content_from kind.Tree old =
    own_content os rows earlier id n row ∙ sym is ∙ ap (λ (x : Kind). content_from x old) (ap (λ (c : Content). c.kind) is ∙ tree) in
    let good : IsGoodAt (objects_in os rows) earlier (take earlier kept) kind.Tree old s =
    subst (λ (x : Summary). IsGoodAt (objects_in os rows) earlier (take earlier kept) kind.Tree old x) (sym at)
    (subst (λ (c : Content). IsGoodAt (objects_in os rows) earlier (take earlier kept) c.kind c.bytes (get_or kept earlier no_files)) there (before.each earlier lt)) in
    let text = good.text in
    let found = alike text.0 text.1.writable.entries text.1.contents in
    alike_is_good (objects_in os rows) place earlier kept old new text.0 found.0 s lt good text.1 found.1 found.2
