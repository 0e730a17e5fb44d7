-- Copies and renames on file maps: why they are refused, and what they leave.
use Rattle.std.proofs.Common.{◌≡◌, ◌≢◌, ℕ, suc, ◌+◌, ◌≤◌, Bool, true, false, ◌&&◌, ◌==◌, cond, leb, [], ◌∷◌, ◌++◌, filter, length, refl, sym, ap, ◌∙◌, subst, arith}
use Rattle.std.specs.Prelude.{Option, None, Some, Result, Ok, Err, IsErrAnd, OnOk, is_some, not}
use Rattle.std.specs.FinMap as finmap
use Rattle.std.specs.List.{AllByRecursion, list_any, list_all}
use Rattle.std.proofs.lemmas.Bool.{le-leb, ne_eqb}
use Rattle.std.proofs.lemmas.List.{length-append}
use Rattle.std.proofs.lemmas.Result.{err_from_is_err_and}
use Rattle.git_paths.specs.Paths.{IsPath, strip_prefix, joined, is_within_limits}
use Rattle.file_maps.specs.declared.entry.Entry.{Entry}
use Rattle.file_maps.specs.declared.fault.Fault.{Fault}
use Rattle.file_maps.specs.declared.fault.Fault.TheVariants as fault
use Rattle.file_maps.specs.FileMap.{Path, Listed, FileMap, is_apart, AreFiles, IsFile, listed}
use Rattle.file_maps.specs.Edits.{cut, cut_one, files_at, moved, with_files, without, is_outside, put_tree_at, copied, renamed, is_root, is_empty, put_fault, move_fault}
use Rattle.file_maps.specs.Calls.{Edits}
use Rattle.file_maps.specs.Kept.{stays}
use Rattle.file_maps.specs.Storable.{longest_of, files_summary}
use Rattle.file_maps.specs.Trees.{depth_of}
use Rattle.tree_build.proofs.Growing.{length_moved}
use Rattle.file_maps.proofs.Apart.{cut-all, moved-apart}
use Rattle.file_maps.proofs.Edited.{edited, len-edited, moved-below}
use Rattle.file_maps.proofs.Maps.{retain-twice}
use Rattle.tree_build.specs.Opened.{too_many}
use Rattle.tree_build.specs.Sums.{IsSmall}
use Rattle.tree_build.specs.Moving.{fits_below, summary_fault, path_fault}
use Rattle.tree_build.proofs.Branches.{map_is, kept_files}
use Rattle.tree_build.proofs.Puts.{put_are_files, not_many}
use Rattle.tree_build.proofs.FitsBelow.{joined-below, dir-fits, file-fits}

-- ---- refusals

-- the limits of paths first, then the number of files
abbrev pub or_many : Option Fault → ℕ → Option Fault
or_many (Some e) n = Some e
or_many None n = too_many n

pub move_fault-is : (fs : Listed) (after : FileMap)
    → move_fault fs after ≡ or_many (path_fault fs) (finmap.len after)
unfolding move_fault put_fault
move_fault-is fs after =
    by (is_empty fs) (list_any (λ f. is_root f.0) fs) (list_all (λ f. is_within_limits f.0) fs)
  where
    by : (a b c : Bool)
        → cond a (Some fault.SourceMissing) (cond b (Some fault.RootNotDirectory)
        (cond (c && leb (finmap.len after) 1048576) None (Some fault.Limit)))
        ≡ or_many (cond a (Some fault.SourceMissing)
        (cond b (Some fault.RootNotDirectory) (cond c None (Some fault.Limit))))
        (finmap.len after)
    by true b c = refl
    by false true c = refl
    by false false true = refl
    by false false false = refl

-- what is not refused by its paths is refused by the number of files alone
pub clean-put : (fs : Listed) (after : FileMap) → path_fault fs ≡ None → finmap.len after ≤ 1048576
    → put_fault fs after ≡ None
unfolding put_fault
clean-put fs after clean few =
    by (is_empty fs) (list_any (λ f. is_root f.0) fs)
    (list_all (λ f. is_within_limits f.0) fs) clean
  where
    by : (a b c : Bool)
        → cond a (Some fault.SourceMissing) (cond b (Some fault.RootNotDirectory)
        (cond c None (Some fault.Limit))) ≡ None
        → cond b (Some fault.RootNotDirectory)
        (cond (c && leb (finmap.len after) 1048576) None (Some fault.Limit)) ≡ None
    by true b c h = cc h
    by false true c h = cc h
    by false false true h = let within : leb (finmap.len after) 1048576
        ≡ true = le-leb (finmap.len after) 1048576 few in rw within refl
    by false false false h = cc h

-- what has files, of which none would stand at the root
pub path-some : (fs : Listed) → path_fault fs ≡ None → fs ≢ []
path-some [] h is = cc h
path-some (f ∷ fs) h is = cc is

-- ---- by a summary

-- files that a node has: one at the node itself, or files below it
pub data AreHere : Listed → Type 0 where
  one : (e : Entry) → AreHere (([], e) ∷ [])
  many : (fs : Listed) → AllByRecursion (λ f. f.0 ≢ []) fs → AreHere fs

no_roots : (to : Path) (fs : Listed) → AllByRecursion (λ f. f.0 ≢ []) fs
    → list_any (λ f. is_root f.0) (moved to fs) ≡ false
no_roots to [] h = refl
no_roots [] (([], e) ∷ fs) h = absurd (h.0 refl)
no_roots [] (((d ∷ q), e) ∷ fs) h = no_roots [] fs h.1
no_roots (c ∷ to) (f ∷ fs) h = no_roots (c ∷ to) fs h.1

limit : Bool → Option Fault
limit b = cond b None (Some fault.Limit)

pick : (a r b c : Bool) → a ≡ false → b ≡ false
    → cond a (Some fault.SourceMissing) (cond (r && b) (Some fault.RootNotDirectory) (limit c))
    ≡ limit c
pick a true b c p q = rw (p, q) refl
pick a false b c p q = rw p refl

pub fault-is : (to : Path) (fs : Listed) → AreHere fs
    → summary_fault to (files_summary fs) ≡ path_fault (moved to fs)
unfolding limit
fault-is [] fs (one e) = refl
fault-is (c ∷ to) fs (one e) = ap limit (sym (file-fits (c ∷ to) e))
fault-is to fs (many [] h) = refl
fault-is to fs (many (([], e) ∷ gs) h) = absurd (h.0 refl)
fault-is to fs (many (((d ∷ q), e) ∷ gs) h) =
    let s = files_summary (((d ∷ q), e) ∷ gs) in
    pick (s.files == 0) (is_root to) (s.depth == 0) (fits_below to s)
    (ne_eqb s.files 0 (λ z. omega arith)) (ne_eqb s.depth 0 (λ z. omega arith))
    ∙ ap limit (sym (dir-fits to (((d ∷ q), e) ∷ gs) (λ z. cc z) h))
    ∙ sym (ap (λ (b : Bool). cond b (Some fault.RootNotDirectory)
    (limit (list_all (λ f. is_within_limits f.0) (moved to (((d ∷ q), e) ∷ gs)))))
    (no_roots to (((d ∷ q), e) ∷ gs) h))

-- ---- what is moved is small

cut_few : (from : Path) (fs : Listed) → length (cut from fs) ≤ length fs
cut_few from [] = omega arith
cut_few from (f ∷ fs) = let rest = cut_few from fs in by (strip_prefix from f.0) rest
  where
    by : (o : Option Path) → length (cut from fs) ≤ length fs
        → length (cut_one o f.1 (cut from fs)) ≤ suc (length fs)
    by None n = omega arith
    by (Some r) n = omega arith

tail_short : (from q : Path) → length (joined q) ≤ length (joined (from ++ q))
tail_short from [] = omega arith
tail_short from (d ∷ q) = let n = joined-below from d q in omega arith

shallow : (from : Path) (fs : Listed) → AllByRecursion (λ g. IsFile (from ++ g.0, g.1)) fs
    → depth_of fs ≤ 256
shallow from [] h = omega arith
shallow from (f ∷ fs) h =
    let n = length-append from f.0 in let m = h.0.limits.components in
    let rest = shallow from fs h.1 in omega arith

short : (from : Path) (fs : Listed) → AllByRecursion (λ g. IsFile (from ++ g.0, g.1)) fs
    → longest_of fs ≤ 16383
short from [] h = omega arith
short from (f ∷ fs) h =
    let n = tail_short from f.0 in let m = h.0.limits.bytes in let rest = short from fs h.1 in
    omega arith

pub small-cut : (from : Path) (fs : Listed) → AreFiles fs → IsSmall (files_summary (cut from fs))
small-cut from fs h =
    let each = cut-all IsFile from fs h.each in
    record {
      files = let n = cut_few from fs in let m = h.few in omega arith;
      depth = shallow from (cut from fs) each;
      longest = short from (cut from fs) each;
    }

-- ---- what may be put

pub good-moved : (m base : FileMap) (from to : Path) → AreFiles (listed m) → AreFiles (listed base)
    → IsPath to
    → path_fault (moved to (files_at m from)) ≡ None
    → finmap.len (put_tree_at base to (files_at m from)) ≤ 1048576
    → AreFiles (listed (put_tree_at base to (files_at m from)))
good-moved m base from to h g path clean few =
    put_are_files base to (files_at m from) g (moved-below from to (listed m) path h.each)
    (moved-apart from to (listed m) h.apart)
    (clean-put (moved to (files_at m from)) (put_tree_at base to (files_at m from)) clean few)

pub few-moved : (m : FileMap) (from : Path) → AreFiles (listed m) → (n : ℕ)
    → n ≡ length (files_at m from) → n ≤ 1048576
few-moved m from h n is = let few = (small-cut from (listed m) h).files in omega arith

-- the same, of maps and files that are spelled otherwise
pub good-put : (m base b : FileMap) → b ≡ base → (from to : Path) → AreFiles (listed m)
    → AreFiles (listed base) → IsPath to
    → (fs : Listed) → fs ≡ files_at m from → path_fault (moved to (files_at m from)) ≡ None
    → finmap.len (put_tree_at b to fs) ≤ 1048576 → AreFiles (listed (put_tree_at b to fs))
good-put m base b same from to h g path fs is clean few =
    let spelled : put_tree_at b to fs ≡ put_tree_at base to (files_at m from) = ap
    (λ (x : FileMap). put_tree_at x to fs) same
    ∙ ap (put_tree_at base to) is in
    subst (λ (x : FileMap). AreFiles (listed x)) (sym spelled)
    (good-moved m base from to h g path clean (subst
    (λ (x : FileMap). finmap.len x ≤ 1048576) spelled few))

pub good-rest : (m : FileMap) (from : Path) → AreFiles (listed m)
    → AreFiles (listed (without m from))
good-rest m from h = kept_files m (is_outside from) h

-- ---- copies

-- an error is another where it says another fault
another : {T : Type 0} (e : Fault) → e ≢ fault.Memory
    → ◌≢◌ {A = Result T Fault} (Err e) (Err fault.Memory)
another e ne is = ne (cc is)

-- what the exit of a `?` returns
pub refused : {A T : Type 0} (r : Result A Fault) (e : Fault) → IsErrAnd r (λ x. x ≡ e)
    → (old new : FileMap) (fs : Listed) (after : FileMap) → (e ≢ fault.Memory → path_fault fs ≡ Some e)
    → (◌≢◌ {A = Result T Fault} (Err e) (Err fault.Memory) → new ≡ old)
    → Edits r old new (move_fault fs after) after
refused {A = A} {T = T} r e is old new fs after refusal same =
    let failed = err_from_is_err_and r is in
    subst (λ (x : Result A Fault). Edits x old new (move_fault fs after) after)
    (sym (failed.1 ∙ ap (λ (x : Fault). Err x) failed.2)) (λ memory. (
      move_fault-is fs after ∙ ap (λ (o : Option Fault). or_many o (finmap.len after)) (refusal memory),
      same (another {T = T} e memory),
    ))

pub clean-move : (fs : Listed) (after : FileMap) → path_fault fs ≡ None
    → move_fault fs after ≡ too_many (finmap.len after)
clean-move fs after clean = move_fault-is fs after
    ∙ ap (λ (o : Option Fault). or_many o (finmap.len after)) clean

pub edits-copied : {A : Type 0} (result : Result A Fault) (m old new : FileMap) → m ≡ old
    → (from to : Path) (fs : Listed)
    → fs ≡ files_at old from → path_fault (moved to (files_at old from)) ≡ None
    → Edits result m new (too_many (finmap.len (put_tree_at m to fs))) (put_tree_at m to fs)
    → Edits result old new (move_fault (moved to (files_at old from)) (copied old from to))
    (copied old from to)
edits-copied result m old new same from to fs is clean h =
    subst (λ (f : Option Fault). Edits result old new f (copied old from to))
    (sym (clean-move (moved to (files_at old from)) (copied old from to) clean))
    (subst (λ (l : Listed). Edits result old new (too_many (finmap.len (put_tree_at old to l)))
    (put_tree_at old to l)) is
    (subst (λ (x : FileMap). Edits result x new (too_many (finmap.len (put_tree_at x to fs)))
    (put_tree_at x to fs)) same h))

-- ---- files at a path of a map that was opened on the way

pub put-good : (fs : Listed) {m old : FileMap} {p to : Path} → m ≡ old → p ≡ to
    → (finmap.len (put_tree_at old to fs) ≤ 1048576 → AreFiles (listed (put_tree_at old to fs)))
    → finmap.len (put_tree_at m p fs) ≤ 1048576 → AreFiles (listed (put_tree_at m p fs))
put-good fs {m} {old} {p} {to} same at good =
    subst (λ (x : FileMap). finmap.len (put_tree_at x p fs) ≤ 1048576
    → AreFiles (listed (put_tree_at x p fs))) (sym same)
    (subst (λ (q : Path). finmap.len (put_tree_at old q fs) ≤ 1048576
    → AreFiles (listed (put_tree_at old q fs))) (sym at) good)

pub put-edits : {A : Type 0} (result : Result A Fault) (new : FileMap) (fs : Listed)
    {m old : FileMap} {p to : Path} → m ≡ old → p ≡ to
    → Edits result m new (too_many (finmap.len (put_tree_at m p fs))) (put_tree_at m p fs)
    → Edits result old new (too_many (finmap.len (put_tree_at old to fs))) (put_tree_at old to fs)
put-edits result new fs {m} {old} {p} {to} same at h =
    subst (λ (x : FileMap). Edits result x new (too_many (finmap.len (put_tree_at x to fs)))
    (put_tree_at x to fs)) same
    (subst (λ (q : Path). Edits result m new (too_many (finmap.len (put_tree_at m q fs)))
    (put_tree_at m q fs)) at h)

-- ---- renames

count_moves : (from to : Path) (fs : Listed)
    → length (filter (λ f. stays (Some from) to f.0) fs) + length (cut from fs) ≤ length fs
count_moves from to [] = omega arith
count_moves from to (f ∷ fs) = by (strip_prefix from f.0) (is_apart to f.0) (count_moves from to fs)
  where
    by : (o : Option Path) (b : Bool)
        → length (filter (λ f. stays (Some from) to f.0) fs) + length (cut from fs) ≤ length fs
        → length (cond (not (is_some o) && b) (f ∷ filter (λ f. stays (Some from) to f.0) fs)
        (filter (λ f. stays (Some from) to f.0) fs))
        + length (cut_one o f.1 (cut from fs)) ≤ suc (length fs)
    by None true n = omega arith
    by None false n = omega arith
    by (Some r) b n = omega arith

renamed-is : (old : FileMap) (from to : Path)
    → edited (Some from) to (listed old) (moved to (files_at old from)) ≡ renamed old from to
renamed-is old from to =
    ap (λ (x : FileMap). with_files (finmap.retain_keys x (stays (Some from) to))
    (moved to (files_at old from))) (map_is old)
    ∙ ap (λ (x : FileMap). with_files x (moved to (files_at old from)))
    (sym (retain-twice (is_outside from) (is_apart to) old))

-- no file is added by a rename
pub few-renamed : (old : FileMap) (from to : Path) → AreFiles (listed old) → IsPath to
    → finmap.len (renamed old from to) ≤ 1048576
few-renamed old from to h path =
    let files = moved to (files_at old from) in
    let len = len-edited (Some from) to (listed old) files h
    (moved-below from to (listed old) path h.each) (moved-apart from to (listed old) h.apart) in
    let same = ap (λ (x : FileMap). finmap.len x) (renamed-is old from to) in
    let all = length_moved to (files_at old from) in
    let n = count_moves from to (listed old) in
    let few = h.few in omega arith

pub edits-renamed : {A : Type 0} (result : Result A Fault) (m old new : FileMap)
    → AreFiles (listed old) → (from to : Path)
    → IsPath to → m ≡ without old from → (fs : Listed)
    → fs ≡ files_at old from → path_fault (moved to (files_at old from)) ≡ None
    → Edits result m new (too_many (finmap.len (put_tree_at m to fs))) (put_tree_at m to fs)
    → Edits result old new (move_fault (moved to (files_at old from)) (renamed old from to))
    (renamed old from to)
edits-renamed {A = A} result m old new files from to path same fs is clean h =
    let after = renamed old from to in
    let fault = clean-move (moved to (files_at old from)) after clean in
    let few = not_many (finmap.len after) (few-renamed old from to files path) in
    by result fault few
    (subst (λ (l : Listed). Edits result (without old from) new
    (too_many (finmap.len (put_tree_at (without old from) to l)))
    (put_tree_at (without old from) to l)) is
    (subst (λ (x : FileMap). Edits result x new (too_many (finmap.len (put_tree_at x to fs)))
    (put_tree_at x to fs)) same h))
  where
    by : (r : Result A Fault) → move_fault (moved to (files_at old from)) (renamed old from to)
        ≡ too_many (finmap.len (renamed old from to))
        → too_many (finmap.len (renamed old from to)) ≡ None
        → Edits r (without old from) new (too_many (finmap.len (renamed old from to)))
        (renamed old from to)
        → Edits r old new (move_fault (moved to (files_at old from)) (renamed old from to))
        (renamed old from to)
    by (Ok x) fault few h = (fault ∙ few, h.1)
    by (Err e) fault few h = λ memory. let no : None ≡ Some e = sym few ∙ (h memory).0 in cc no

-- a rename that may be is refused only if memory runs out
pub branch-renamed : {A P : Type 0} (r : Result A Fault) (m old new : FileMap)
    → AreFiles (listed old) → (from to : Path) → IsPath to
    → path_fault (moved to (files_at old from)) ≡ None
    → Edits r m new (move_fault (moved to (files_at old from)) (renamed old from to)) (renamed old from to)
    → OnOk r P → r ≢ Err fault.Memory → P
branch-renamed (Ok x) m old new files from to path clean h p ne = p
branch-renamed (Err e) m old new files from to path clean h p ne =
    let no : None ≡ Some e = sym (clean-move (moved to (files_at old from)) (renamed old from to) clean
    ∙ not_many (finmap.len (renamed old from to)) (few-renamed old from to files path))
    ∙ (h (λ is. ne (ap (λ (x : Fault). Err x) is))).0 in cc no
