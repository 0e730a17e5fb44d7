-- What is put below a path, by the summary of its files: why it is refused, and that it may be put.
use Rattle.std.proofs.Common.{◌≡◌, ◌≢◌, ◌≤◌, true, false, ◌&&◌, ◌==◌, List, [], ◌∷◌, length, Option, Some, Result, refl, sym, ◌∙◌, subst, arith}
use Rattle.std.specs.FinMap as finmap
use Rattle.std.specs.List.{AllByRecursion, list_all}
use Rattle.std.proofs.lemmas.Bool.{leb-true, ne_eqb, true≢false}
use Rattle.std.proofs.lemmas.List.Elements.{All-append}
use Rattle.git_model.specs.Repository.{Object}
use Rattle.git_paths.specs.Paths.{IsComponent, IsPath, is_within_limits}
use Rattle.git_paths.proofs.Cases.{by_cases}
use Rattle.file_maps.specs.declared.entry.Entry.{Entry}
use Rattle.file_maps.specs.declared.fault.Fault.{Fault}
use Rattle.file_maps.specs.declared.fault.Fault.TheVariants as fault
use Rattle.file_maps.specs.FileMap.{Path, Listed, FileMap, ArePairwiseApart, AreFiles, listed}
use Rattle.file_maps.specs.Edits.{moved, fits, put_tree_at, put_fault}
use Rattle.file_maps.specs.Calls.{Edits}
use Rattle.file_maps.specs.Grafts.{is_small}
use Rattle.file_maps.specs.Kept.{IsBelow}
use Rattle.file_maps.specs.Storable.{files_summary}
use Rattle.file_maps.specs.StoredFiles.{stored_files}
use Rattle.file_maps.proofs.Apart.{both_true, from_both, all-weaker}
use Rattle.file_maps.proofs.Listing.{IsSound, apart-moved}
use Rattle.file_maps.proofs.Grafting.{small_if, no_roots}
use Rattle.tree_build.specs.Shape.{Held, held_files}
use Rattle.tree_build.specs.Branch.{Branch, files_in, IsBranch}
use Rattle.tree_build.specs.Limits.{may_stand}
use Rattle.tree_build.specs.Moving.{fits_below}
use Rattle.tree_build.specs.Opened.{too_many}
use Rattle.tree_build.proofs.Branches.{map_is}
use Rattle.tree_build.proofs.FitsBelow.{dir-fits}
use Rattle.tree_build.proofs.Puts.{put_are_files, not_many, MayHave}

-- files that can be put below a path: each stands below the root, and no two stand together
pub record ArePlaceable (fs : Listed) : Type 0 where
  pub sound : AllByRecursion IsSound fs
  pub paths : AllByRecursion (λ f. IsPath f.0) fs
  pub apart : ArePairwiseApart fs

-- ---- by the summary

below_root : (fs : Listed) → AllByRecursion IsSound fs → AllByRecursion (λ g. g.0 ≢ []) fs
below_root fs s =
    all-weaker IsSound (λ (g : Path × Entry). g.0 ≢ []) (λ g sound. sound.below_the_root) fs s

pub stand-some : (top : Path) (f : Path × Entry) (fs : Listed)
    → may_stand top (files_summary (f ∷ fs))
    ≡ (is_small (files_summary (f ∷ fs)) && fits_below top (files_summary (f ∷ fs)))
stand-some top f fs =
    let some : (length (f ∷ fs) == 0) ≡ false = ne_eqb (length (f ∷ fs)) 0 (λ e. omega arith) in
    rw some refl

all_within : (top : Path) (fs : Listed) → AllByRecursion IsSound fs
    → may_stand top (files_summary fs) ≡ true
    → list_all (λ f. is_within_limits f.0) (moved top fs) ≡ true
all_within top [] s h = refl
all_within top (f ∷ fs) s h =
    dir-fits top (f ∷ fs) (λ e. cc e) (below_root (f ∷ fs) s)
    ∙ (both_true (is_small (files_summary (f ∷ fs))) (fits_below top (files_summary (f ∷ fs)))
    (sym (stand-some top f fs) ∙ h)).1

fits_stand : (top : Path) (fs : Listed) (m : FileMap) → AreFiles (listed m)
    → AllByRecursion IsSound fs → ArePairwiseApart fs
    → fits (moved top fs) (put_tree_at m top fs) ≡ true → may_stand top (files_summary fs) ≡ true
fits_stand top [] m files s apart h = refl
fits_stand top (f ∷ fs) m files s apart h =
    let sum = files_summary (f ∷ fs) in
    stand-some top f fs
    ∙ from_both (is_small sum) (fits_below top sum)
    (small_if top (listed m) (f ∷ fs) sum files apart refl
    (subst (λ (x : FileMap). fits (moved top (f ∷ fs)) (put_tree_at x top (f ∷ fs)) ≡ true)
    (sym (map_is m)) h))
    (sym (dir-fits top (f ∷ fs) (λ e. cc e) (below_root (f ∷ fs) s)) ∙ (both_true _ _ h).0)

-- ---- why files are refused

pub put_fits : (top : Path) (fs : Listed) (after : FileMap) → AllByRecursion IsSound fs
    → may_stand top (files_summary fs) ≡ true
    → put_fault (moved top fs) after ≡ too_many (finmap.len after)
unfolding put_fault
put_fits top fs after s h =
    let short_paths = all_within top fs s h in rw (no_roots top fs s, short_paths) refl

pub put_limit : (top : Path) (fs : Listed) (m : FileMap) → AreFiles (listed m)
    → AllByRecursion IsSound fs → ArePairwiseApart fs → may_stand top (files_summary fs) ≡ false
    → put_fault (moved top fs) (put_tree_at m top fs) ≡ Some fault.Limit
unfolding put_fault
put_limit top fs m files s apart h =
    by_cases (fits (moved top fs) (put_tree_at m top fs))
    (λ yea. absurd (true≢false (sym (fits_stand top fs m files s apart yea) ∙ h)))
    (λ nay. rw (no_roots top fs s, nay) refl)

-- ---- what may be put

files_below : (top : Path) → IsPath top → (fs : Listed) → AllByRecursion IsSound fs
    → AllByRecursion (λ f. IsPath f.0) fs → AllByRecursion (IsBelow top) (moved top fs)
files_below top p [] s q = tt
files_below top p (f ∷ fs) s q = (
  record {
    rest = f.0;
    below = refl;
    path = All-append IsComponent top f.0 p q.0;
    mode = s.0.mode;
    name = s.0.name;
  },
  files_below top p fs s.1 q.1,
)

pub fits_good : (m : FileMap) (top : Path) (fs : Listed) → AreFiles (listed m) → IsPath top
    → ArePlaceable fs → may_stand top (files_summary fs) ≡ true
    → finmap.len (put_tree_at m top fs) ≤ 1048576 → AreFiles (listed (put_tree_at m top fs))
fits_good m top fs files p may h few =
    put_are_files m top fs files (files_below top p fs may.sound may.paths)
    (apart-moved top fs may.apart)
    (put_fits top fs (put_tree_at m top fs) may.sound h
    ∙ not_many (finmap.len (put_tree_at m top fs)) few)

pub put_good : (os : List Object) (b : Branch) → IsBranch os b → (top : Path) (h : Held)
    → IsPath top
    → ArePlaceable (held_files (stored_files os) h)
    → may_stand top (files_summary (held_files (stored_files os) h)) ≡ true → MayHave os top h b
put_good os b branch top h p may fit few =
    fits_good (files_in os b) top (held_files (stored_files os) h) branch.files p may fit few

-- what a put of files that fit says of a map, which was opened before
pub edits_fit : {A : Type 0} (result : Result A Fault) (m old new : FileMap) → m ≡ old
    → (q top : Path) → q ≡ top → (fs : Listed) → AllByRecursion IsSound fs
    → may_stand top (files_summary fs) ≡ true
    → Edits result m new (too_many (finmap.len (put_tree_at m q fs))) (put_tree_at m q fs)
    → Edits result old new (put_fault (moved top fs) (put_tree_at old top fs))
    (put_tree_at old top fs)
edits_fit result m old new same q top is fs s fit h =
    subst (λ (f : Option Fault). Edits result old new f (put_tree_at old top fs))
    (sym (put_fits top fs (put_tree_at old top fs) s fit))
    (subst
    (λ (p : Path). Edits result old new (too_many (finmap.len (put_tree_at old p fs)))
    (put_tree_at old p fs)) is
    (subst
    (λ (x : FileMap). Edits result x new (too_many (finmap.len (put_tree_at x q fs)))
    (put_tree_at x q fs)) same h))

pub few_stand : (top : Path) (fs : Listed) → may_stand top (files_summary fs) ≡ true → length fs ≤ 1048576
few_stand top [] h = omega arith
few_stand top (f ∷ fs) h =
    leb-true _ _ (both_true _ _ (both_true _ _ (both_true (is_small (files_summary (f ∷ fs)))
    (fits_below top (files_summary (f ∷ fs))) (sym (stand-some top f fs) ∙ h)).0).0).0
