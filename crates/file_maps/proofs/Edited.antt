-- What an edit makes of a map: its refusal, what it leaves, and that this is a file map.
use Rattle.std.proofs.Common.{◌≡◌, ◌≢◌, ℕ, suc, ◌+◌, ◌≤◌, Bool, true, false, ◌&&◌, cond, leb, []}
use Rattle.std.proofs.Common.{◌∷◌, ◌++◌, length, filter, Option, Some, None, refl, sym, ap, ◌∙◌}
use Rattle.std.proofs.Common.{subst}
use Rattle.std.specs.List.{AllByRecursion, list_any, list_all}
use Rattle.std.proofs.lemmas.List.Elements.{All-append}
use Rattle.git_paths.proofs.Below.{strip_prefix-append, IsPath-strip_prefix}
use Rattle.std.specs.Map.{keys_of}
use Rattle.std.specs.FinMap as finmap
use Rattle.std.specs.FinMap.{from_sorted}
use Rattle.std.proofs.lemmas.Bool.{true≢false, leb-true}
use Rattle.std.proofs.lemmas.List.{append-nil}
use Rattle.git_model.specs.declared.file_mode.FileMode.TheVariants as mode
use Rattle.git_model.specs.ObjectName.{IsObjectName}
use Rattle.git_paths.specs.Paths.{IsComponent, IsPath, IsWithinLimits, is_within_limits}
use Rattle.git_paths.proofs.Cases.{by_cases}
use Rattle.git_paths.proofs.Decided.{IsWithinLimits-from_test}
use Rattle.file_maps.specs.declared.check.TheConstants.{FILES_LIMIT}
use Rattle.file_maps.specs.declared.entry.Entry.{Entry}
use Rattle.file_maps.specs.declared.fault.Fault.TheVariants as fault
use Rattle.file_maps.specs.FileMap.{Path, Listed, FileMap, is_apart, ArePairwiseApart, IsFile}
use Rattle.file_maps.specs.FileMap.{AreFiles}
use Rattle.file_maps.specs.Edits.{cut, moved, is_root, is_outside, with_files, put_fault}
use Rattle.file_maps.specs.Kept.{stays, put_all, IsBelow, refusal_beside}
use Rattle.file_maps.proofs.Apart.{both_true, apart_below, cut-all, all-map, all-weaker, filter-all}
use Rattle.file_maps.proofs.Puts.{true-T, MayPut, AreFiles-filter, AreFiles-put_all}
use Rattle.file_maps.proofs.Puts.{length-put_all, sorted-put_all}
use Rattle.file_maps.proofs.Maps.{retain_keys-of, with_files-of, len-of}

-- the files that stay
abbrev pub kept : Option Path → Path → Listed → Listed
kept from to fs = filter (λ f. stays from to f.0) fs

-- the map that an edit leaves
abbrev pub edited : Option Path → Path → Listed → Listed → FileMap
edited from to fs files = with_files (finmap.retain_keys (from_sorted fs) (stays from to)) files

pub length-kept : (t : Path → Bool) (fs : Listed)
    → length (filter t (keys_of fs)) ≡ length (filter (λ f. t f.0) fs)
length-kept t [] = refl
length-kept t (f ∷ fs) =
    by_cases (t f.0) (λ yea. rw yea (ap (λ (n : ℕ). suc n) (length-kept t fs)))
    (λ nay. rw nay (length-kept t fs))

pub edited-is : (from : Option Path) (to : Path) (fs files : Listed) → AreFiles fs
    → edited from to fs files ≡ from_sorted (put_all (kept from to fs) files)
edited-is from to fs files h =
    ap (λ (m : FileMap). with_files m files) (sym (retain_keys-of (stays from to) fs h))
    ∙ with_files-of (kept from to fs) files
    (true-T _ (AreFiles-filter (stays from to) fs h).in_order)

-- what stays stands apart from the destination
stays-apart : (from : Option Path) (to q : Path) → stays from to q ≡ true → is_apart to q ≡ true
stays-apart None to q h = h
stays-apart (Some from) to q h = (both_true (is_outside from q) (is_apart to q) h).1

pub may_put : (from : Option Path) (to : Path) (fs files : Listed)
    → AllByRecursion (IsBelow to) files → ArePairwiseApart files → MayPut (kept from to fs) files
may_put from to fs files below apart = record {
  outside =
      all-weaker (IsBelow to)
      (λ f. AllByRecursion (λ g. is_apart f.0 g.0 ≡ true) (kept from to fs)) each files below;
  apart = apart;
}
  where
    each : (f : Path × Entry) → IsBelow to f
        → AllByRecursion (λ g. is_apart f.0 g.0 ≡ true) (kept from to fs)
    each f b =
        all-weaker (λ (g : Path × Entry). stays from to g.0 ≡ true)
        (λ (g : Path × Entry). is_apart f.0 g.0 ≡ true)
        (λ g s. subst (λ (x : Path). is_apart x g.0 ≡ true) (sym b.below) (apart_below to b.rest g.0 (stays-apart from to g.0 s)))
        (kept from to fs) (filter-all (λ (g : Path × Entry). stays from to g.0) fs)

pub len-edited : (from : Option Path) (to : Path) (fs files : Listed) → AreFiles fs
    → AllByRecursion (IsBelow to) files → ArePairwiseApart files
    → finmap.len (edited from to fs files) ≡ length (kept from to fs) + length files
len-edited from to fs files h below apart =
    let sorted = true-T _ (AreFiles-filter (stays from to) fs h).in_order in
    ap (λ (m : FileMap). finmap.len m) (edited-is from to fs files h)
    ∙ len-of (put_all (kept from to fs) files) (sorted-put_all (kept from to fs) files sorted)
    ∙ length-put_all (kept from to fs) files (may_put from to fs files below apart) sorted

-- the refusal that is decided before the edit is that of the map after it
pub refusal-is : (from : Option Path) (to : Path) (fs files : Listed) (n : ℕ) → AreFiles fs
    → AllByRecursion (IsBelow to) files → ArePairwiseApart files
    → n ≡ length (filter (stays from to) (keys_of fs))
    → refusal_beside n files ≡ put_fault files (edited from to fs files)
unfolding put_fault
refusal-is from to fs files n h below apart is =
    ap (λ (k : ℕ). refusal_beside k files) (is ∙ length-kept (stays from to) fs)
    ∙ ap (λ (k : ℕ). cond (list_any (λ f. is_root f.0) files) (Some fault.RootNotDirectory)
    (cond (list_all (λ f. is_within_limits f.0) files && leb k FILES_LIMIT) None (Some fault.Limit)))
    (sym (len-edited from to fs files h below apart))

-- ---- what no refusal says

not_refused : (a b : Bool)
    → cond a (Some fault.RootNotDirectory) (cond b None (Some fault.Limit)) ≡ None
    → (a ≡ false) × (b ≡ true)
not_refused true b h = cc h
not_refused false true h = (refl, refl)
not_refused false false h = cc h

not_roots : (files : Listed) → list_any (λ f. is_root f.0) files ≡ false
    → AllByRecursion (λ f. f.0 ≢ []) files
not_roots [] h = tt
not_roots (([], e) ∷ files) h = absurd (true≢false h)
not_roots (((c ∷ p), e) ∷ files) h = ((λ is. cc is), not_roots files h)

pub all_short : (files : Listed) → list_all (λ f. is_within_limits f.0) files ≡ true
    → AllByRecursion (λ f. IsWithinLimits f.0) files
all_short [] h = tt
all_short (f ∷ files) h =
    let parts = both_true (is_within_limits f.0) (list_all (λ f. is_within_limits f.0) files) h in
    (IsWithinLimits-from_test f.0 parts.0, all_short files parts.1)

are_files : (to : Path) (files : Listed) → AllByRecursion (IsBelow to) files
    → AllByRecursion (λ f. f.0 ≢ []) files → AllByRecursion (λ f. IsWithinLimits f.0) files
    → AllByRecursion IsFile files
are_files to [] b r s = tt
are_files to (f ∷ files) b r s =
    (record { below_the_root = r.0; path = b.0.path; limits = s.0; mode = b.0.mode; name = b.0.name }, are_files to files b.1 r.1 s.1)

pub AreFiles-edited : (from : Option Path) (to : Path) (fs files : Listed) (n : ℕ) → AreFiles fs
    → AllByRecursion (IsBelow to) files → ArePairwiseApart files
    → n ≡ length (filter (stays from to) (keys_of fs)) → refusal_beside n files ≡ None
    → AreFiles (put_all (kept from to fs) files)
AreFiles-edited from to fs files n h below apart is none =
    let parts = not_refused (list_any (λ f. is_root f.0) files) (list_all (λ f. is_within_limits f.0) files && leb (n + length files) FILES_LIMIT) none in
    let more = both_true (list_all (λ f. is_within_limits f.0) files) (leb (n + length files) FILES_LIMIT) parts.1 in
    let few : n + length files ≤ FILES_LIMIT = leb-true _ _ more.1 in
    let same : n ≡ length (kept from to fs) = is ∙ length-kept (stays from to) fs in
    AreFiles-put_all (kept from to fs) files (AreFiles-filter (stays from to) fs h)
    (may_put from to fs files below apart)
    (are_files to files below (not_roots files parts.0) (all_short files more.0)) (subst (λ (k : ℕ). k + length files ≤ FILES_LIMIT) same few)

-- ---- what is put

-- one file, at the path itself
pub one-below : (to : Path) (e : Entry) (files : Listed) → files ≡ (to, e) ∷ [] → IsPath to
    → e.mode ≢ mode.Directory → IsObjectName e.name → AllByRecursion (IsBelow to) files
one-below to e files is path m id =
    subst (AllByRecursion (IsBelow to)) (sym is)
    (record { rest = []; below = sym (append-nil to); path = path; mode = m; name = id }, tt)

pub one-apart : (to : Path) (e : Entry) (files : Listed) → files ≡ (to, e) ∷ []
    → ArePairwiseApart files
one-apart to e files is = subst ArePairwiseApart (sym is) (tt, tt)

-- what is moved is fit to be put
pub moved-below : (from to : Path) (fs : Listed) → IsPath to → AllByRecursion IsFile fs
    → AllByRecursion (IsBelow to) (moved to (cut from fs))
moved-below from to fs path h =
    all-map (λ (g : Path × Entry). (to ++ g.0, g.1)) (IsBelow to) (cut from fs)
    (all-weaker (λ (g : Path × Entry). IsFile (from ++ g.0, g.1)) (λ (g : Path × Entry). IsBelow to (to ++ g.0, g.1)) each (cut from fs) (cut-all IsFile from fs h))
  where
    each : (g : Path × Entry) → IsFile (from ++ g.0, g.1) → IsBelow to (to ++ g.0, g.1)
    each g f = record {
      rest = g.0;
      below = refl;
      path =
          All-append IsComponent to g.0 path
          (IsPath-strip_prefix from (from ++ g.0) g.0 f.path (sym (strip_prefix-append from g.0)));
      mode = f.mode;
      name = f.name;
    }
