-- A file map after an edit is one again; its files are those that stayed and those that were put.
use Rattle.std.proofs.Common.{◌≡◌, ◌≢◌, Bool, true, false, cond, [], ◌∷◌, ◌++◌, length, filter, Option, None, Some, refl, sym, ap, ◌∙◌, subst}
use Rattle.std.specs.List.{AllByRecursion}
use Rattle.std.specs.Map.{keys_of}
use Rattle.std.specs.FinMap as finmap
use Rattle.std.specs.FinMap.{from_sorted, entries-from_sorted}
use Rattle.std.specs.FinMap.{same_entries_map}
use Rattle.std.proofs.lemmas.List.{append-nil}
use Rattle.std.proofs.lemmas.List.Elements.{All-append}
use Rattle.git_model.specs.declared.file_mode.FileMode.TheVariants as mode
use Rattle.git_model.specs.ObjectName.{IsObjectName}
use Rattle.git_paths.specs.Order.{path_cmp}
use Rattle.git_paths.specs.Paths.{IsComponent, IsPath}
use Rattle.file_maps.specs.declared.entry.Entry.{Entry}
use Rattle.file_maps.specs.declared.fault.Fault.TheVariants as fault
use Rattle.file_maps.specs.FileMap.{Path, Listed, FileMap, listed, IsFile, ArePairwiseApart, AreFiles}
use Rattle.file_maps.specs.Edits.{cut, files_at, moved, with_files, put_at, put_tree_at, copied, renamed, without, is_outside, is_empty, put_fault, move_fault}
use Rattle.file_maps.specs.Kept.{stays, put_all, IsBelow}
use Rattle.file_maps.proofs.Apart.{all-map, all-weaker, all-filter, cut-all, moved-apart}
use Rattle.file_maps.proofs.Edited.{kept, edited, edited-is, refusal-is, AreFiles-edited, moved-below, one-below, one-apart}
use Rattle.file_maps.proofs.Listing.{apart-moved}
use Rattle.file_maps.proofs.Maps.{listed-of, retain_keys-of, retain-twice}
use Rattle.file_maps.proofs.Puts.{true-T, sorted-put_all, all-put_all, AreFiles-filter}

-- a map is made of its files
map-of : (m : FileMap) → AreFiles (listed m) → from_sorted {R = path_cmp} (listed m) ≡ m
map-of m good = same_entries_map _ _ (listed-of (listed m) good)

module _ (from : Option Path) (to : Path) (m : FileMap) (files : Listed) (good : AreFiles (listed m)) where
  abbrev after : FileMap
  after = with_files (finmap.retain_keys m (stays from to)) files

  as-edited : edited from to (listed m) files ≡ after
  as-edited =
      ap (λ (n : FileMap). with_files (finmap.retain_keys n (stays from to)) files) (map-of m good)

  listed-after : listed after ≡ put_all (kept from to (listed m)) files
  listed-after =
      ap listed (sym as-edited ∙ edited-is from to (listed m) files good)
      ∙ entries-from_sorted path_cmp (put_all (kept from to (listed m)) files)
      (sorted-put_all (kept from to (listed m)) files
      (true-T _ (AreFiles-filter (stays from to) (listed m) good).in_order))

  pub files-edited : AllByRecursion (IsBelow to) files → ArePairwiseApart files
      → put_fault files after ≡ None → AreFiles (listed after)
  files-edited below apart none =
      subst AreFiles (sym listed-after)
      (AreFiles-edited from to (listed m) files (length (filter (stays from to) (keys_of (listed m)))) good below apart refl
      (refusal-is from to (listed m) files _ good below apart refl
      ∙ ap (put_fault files) as-edited ∙ none))

  pub all-edited : (P : Path × Entry → Type 0) → AllByRecursion P (listed m)
      → AllByRecursion P files → AllByRecursion P (listed after)
  all-edited P h k =
      subst (AllByRecursion P) (sym listed-after)
      (all-put_all P (kept from to (listed m)) files
      (all-filter P (λ f. stays from to f.0) (listed m) h) k)

-- ---- what is taken out

module _ (m : FileMap) (top : Path) (good : AreFiles (listed m)) where
  listed-without : listed (without m top) ≡ filter (λ f. is_outside top f.0) (listed m)
  listed-without =
      ap (λ (n : FileMap). listed (without n top)) (sym (map-of m good))
      ∙ ap listed (sym (retain_keys-of (is_outside top) (listed m) good))
      ∙ listed-of (filter (λ f. is_outside top f.0) (listed m))
      (AreFiles-filter (is_outside top) (listed m) good)

  pub files-without : AreFiles (listed (without m top))
  files-without =
      subst AreFiles (sym listed-without) (AreFiles-filter (is_outside top) (listed m) good)

  pub all-without : (P : Path × Entry → Type 0) → AllByRecursion P (listed m)
      → AllByRecursion P (listed (without m top))
  all-without P h =
      subst (AllByRecursion P) (sym listed-without)
      (all-filter P (λ f. is_outside top f.0) (listed m) h)

-- ---- a fact of files that says nothing of where they stand

-- A fact of an entry, of each of some files.
abbrev pub AllEntries : (Entry → Type 0) → Listed → Type 0
AllEntries P files = AllByRecursion (λ (f : Path × Entry). P f.1) files

entries-moved : (P : Entry → Type 0) (to : Path) (files : Listed) → AllEntries P files
    → AllEntries P (moved to files)
entries-moved P to files h =
    all-map (λ (f : Path × Entry). (to ++ f.0, f.1)) (λ (f : Path × Entry). P f.1) files h

entries-cut : (P : Entry → Type 0) (top : Path) (files : Listed) → AllEntries P files
    → AllEntries P (cut top files)
entries-cut P top files h = cut-all (λ (f : Path × Entry). P f.1) top files h

-- A file map as branches have them, with a fact of each of its entries.
pub record IsMapOf (P : Entry → Type 0) (m : FileMap) : Type 0 where
  pub files : AreFiles (listed m)
  pub entries : AllEntries P (listed m)

module _ (P : Entry → Type 0) (m : FileMap) (h : IsMapOf P m) where
  pub without-is : (top : Path) → IsMapOf P (without m top)
  without-is top = record {
    files = files-without m top h.files;
    entries = all-without m top h.files (λ (f : Path × Entry). P f.1) h.entries;
  }

  put-is : (to : Path) (files : Listed) → AllByRecursion (IsBelow to) (moved to files)
      → ArePairwiseApart (moved to files) → AllEntries P files
      → put_fault (moved to files) (put_tree_at m to files) ≡ None
      → IsMapOf P (put_tree_at m to files)
  put-is to files below apart entries none = record {
    files = files-edited None to m (moved to files) h.files below apart none;
    entries = all-edited None to m (moved to files) h.files (λ (f : Path × Entry). P f.1) h.entries
        (entries-moved P to files entries);
  }

  pub file-put-is : (to : Path) (e : Entry) → IsPath to → e.mode ≢ mode.Directory
      → IsObjectName e.name → P e
      → put_fault (moved to (([], e) ∷ [])) (put_at m to e) ≡ None → IsMapOf P (put_at m to e)
  file-put-is to e path file named p none =
      let is : moved to (([], e) ∷ []) ≡ (to, e) ∷ [] =
      ap (λ (q : Path). (q, e) ∷ []) (append-nil to) in
      put-is to (([], e) ∷ []) (one-below to e (moved to (([], e) ∷ [])) is path file named)
      (one-apart to e (moved to (([], e) ∷ [])) is) (p, tt) none

  pub tree-put-is : (to : Path) (files : Listed) → IsPath to → AreFiles files → AllEntries P files
      → put_fault (moved to files) (put_tree_at m to files) ≡ None
      → IsMapOf P (put_tree_at m to files)
  tree-put-is to files path good entries none =
      put-is to files
      (all-map (λ (f : Path × Entry). (to ++ f.0, f.1)) (IsBelow to) files
      (all-weaker IsFile (λ (f : Path × Entry). IsBelow to (to ++ f.0, f.1)) each files good.each))
      (apart-moved to files good.apart) entries none
    where
      each : (f : Path × Entry) → IsFile f → IsBelow to (to ++ f.0, f.1)
      each f s = record {
        rest = f.0;
        below = refl;
        path = All-append IsComponent to f.0 path s.path;
        mode = s.mode;
        name = s.name;
      }

  unmoved : (files : Listed) (after : FileMap) → move_fault files after ≡ None
      → put_fault files after ≡ None
  unfolding move_fault
  unmoved files after none = by (is_empty files) none
    where
      by : (b : Bool) → cond b (Some fault.SourceMissing) (put_fault files after) ≡ None
          → put_fault files after ≡ None
      by true e = cc e
      by false e = e

  pub copied-is : (from to : Path) → IsPath to
      → move_fault (moved to (files_at m from)) (copied m from to) ≡ None
      → IsMapOf P (copied m from to)
  copied-is from to path none =
      put-is to (files_at m from) (moved-below from to (listed m) path h.files.each)
      (moved-apart from to (listed m) h.files.apart) (entries-cut P from (listed m) h.entries)
      (unmoved (moved to (files_at m from)) (copied m from to) none)

  pub renamed-is : (from to : Path) → IsPath to
      → move_fault (moved to (files_at m from)) (renamed m from to) ≡ None
      → IsMapOf P (renamed m from to)
  renamed-is from to path none =
      let files = moved to (files_at m from) in
      let same : after (Some from) to m files h.files ≡ renamed m from to =
      ap (λ (n : FileMap). with_files n files) (sym (retain-twice (is_outside from) (λ q. stays None to q) m)) in
      subst (IsMapOf P) same (record {
        files = files-edited (Some from) to m files h.files
            (moved-below from to (listed m) path h.files.each)
            (moved-apart from to (listed m) h.files.apart)
            (ap (put_fault files) same ∙ unmoved files (renamed m from to) none);
        entries = all-edited (Some from) to m files h.files (λ (f : Path × Entry). P f.1) h.entries
            (entries-moved P to (files_at m from) (entries-cut P from (listed m) h.entries));
      })
