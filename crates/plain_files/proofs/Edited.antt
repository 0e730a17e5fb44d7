-- What the public edits answer and leave.
use Rattle.std.proofs.Common.{◌≡◌, ℕ, ◌≤◌, Bool, true, false, cond, []}
use Rattle.std.proofs.Common.{◌∷◌, length, filter, Option, Some, None, sym, ap, ◌∙◌, subst, arith}
use Rattle.std.specs.Prelude.{Result}
use Rattle.std.specs.Map.{keys_of}
use Rattle.std.specs.FinMap as finmap
use Rattle.std.specs.FinMap.{from_sorted}
use Rattle.std.proofs.lemmas.List.{append-nil}
use Rattle.file_maps.specs.declared.check.TheConstants.{FILES_LIMIT}
use Rattle.file_maps.specs.declared.entry.Entry.{Entry}
use Rattle.file_maps.specs.declared.fault.Fault.{Fault}
use Rattle.file_maps.specs.declared.fault.Fault.TheVariants as fault
use Rattle.file_maps.specs.FileMap.{Path, Listed, FileMap, is_apart, AreFiles}
use Rattle.file_maps.specs.Edits.{cut, moved, put_at, files_at, without}
use Rattle.file_maps.specs.Edits.{is_empty, is_outside, with_files, put_fault, move_fault}
use Rattle.file_maps.specs.Calls.{Edits}
use Rattle.file_maps.specs.Kept.{stays, replaced}
use Rattle.file_maps.proofs.Puts.{length-filter-le}
use Rattle.file_maps.proofs.Maps.{listed-of, retain-twice}
use Rattle.file_maps.proofs.Edited.{length-kept}

pub few_stay : (from : Option Path) (to : Path) (fs : Listed) (n : ℕ) → AreFiles fs
    → n ≡ length (filter (stays from to) (keys_of fs)) → n ≤ FILES_LIMIT
few_stay from to fs n h is =
    let a = length-kept (stays from to) fs in
    let b = length-filter-le (λ (f : Path × Entry). stays from to f.0) fs in
    let m = h.few in omega arith

files-as : (from to : Path) (fs : Listed) (old : FileMap) → AreFiles fs → from_sorted fs ≡ old
    → moved to (cut from fs) ≡ moved to (files_at old from)
files-as from to fs old h view =
    ap (λ (l : Listed). moved to (cut from l)) (sym (listed-of fs h))
    ∙ ap (λ (m : FileMap). moved to (files_at m from)) view

module _ {A : Type 0} where
  -- an edit with its files spelled otherwise
  edits-as : (result : Result A Fault) (old new m : FileMap) (files others : Listed)
      → files ≡ others → is_empty files ≡ false
      → Edits result old new (put_fault files (with_files m files)) (with_files m files)
      → Edits result old new (move_fault others (with_files m others)) (with_files m others)
  unfolding move_fault
  edits-as result old new m files others same some h =
      subst
      (λ (l : Listed). Edits result old new (move_fault l (with_files m l)) (with_files m l)) same
      (subst (λ (b : Bool). Edits result old new (cond b (Some fault.SourceMissing) (put_fault files (with_files m files))) (with_files m files)) (sym some) h)

  pub edits-moved : (result : Result A Fault) (old new : FileMap) (gone : Option Path)
      (from to : Path) (fs files : Listed)
      → AreFiles fs → from_sorted fs ≡ old → files ≡ moved to (cut from fs) → is_empty files ≡ false
      → Edits result old new (put_fault files (replaced gone to files old)) (replaced gone to files old)
      → Edits result old new (move_fault (moved to (files_at old from)) (replaced gone to (moved to (files_at old from)) old)) (replaced gone to (moved to (files_at old from)) old)
  edits-moved result old new gone from to fs files h view is some e =
      edits-as result old new (finmap.retain_keys old (stays gone to)) files
      (moved to (files_at old from)) (is ∙ files-as from to fs old h view) some e

  pub edits-renamed : (result : Result A Fault) (old new : FileMap) (from to : Path) (files : Listed)
      → Edits result old new (move_fault files (replaced (Some from) to files old)) (replaced (Some from) to files old)
      → Edits result old new (move_fault files (with_files (finmap.retain_keys (without old from) (is_apart to)) files)) (with_files (finmap.retain_keys (without old from) (is_apart to)) files)
  edits-renamed result old new from to files e =
      subst
      (λ (m : FileMap). Edits result old new (move_fault files (with_files m files)) (with_files m files))
      (sym (retain-twice (is_outside from) (is_apart to) old)) e

-- the source has no file
pub no_source : (from to : Path) (fs files : Listed) (old after : FileMap) → AreFiles fs
    → from_sorted fs ≡ old → files ≡ moved to (cut from fs) → is_empty files ≡ true
    → move_fault (moved to (files_at old from)) after ≡ Some fault.SourceMissing
unfolding move_fault
no_source from to fs files old after h view is none =
    ap (λ (l : Listed). move_fault l after) (sym (is ∙ files-as from to fs old h view))
    ∙ ap (λ (b : Bool). cond b (Some fault.SourceMissing) (put_fault files after)) none

pub edits-put : {A : Type 0} (result : Result A Fault) (old new : FileMap) (to : Path) (e : Entry) (files : Listed)
    → files ≡ (to, e) ∷ []
    → Edits result old new (put_fault files (with_files (finmap.retain_keys old (stays None to)) files)) (with_files (finmap.retain_keys old (stays None to)) files)
    → Edits result old new (put_fault (moved to (([], e) ∷ [])) (put_at old to e)) (put_at old to e)
edits-put result old new to e files is h =
    subst
    (λ (l : Listed). Edits result old new (put_fault l (with_files (finmap.retain_keys old (is_apart to)) l)) (with_files (finmap.retain_keys old (is_apart to)) l))
    (is ∙ ap (λ (p : Path). (p, e) ∷ []) (sym (append-nil to))) h
