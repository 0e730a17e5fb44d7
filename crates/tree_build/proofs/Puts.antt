-- Branches after something was put at a path.
use Rattle.std.proofs.Common.{◌≡◌, ◌≢◌, ℕ, ◌+◌, ◌-◌, ◌<◌, ◌≤◌, true, false, List, [], ◌∷◌, ◌++◌, filter, length, refl, sym, ap, ◌∙◌, subst, arith}
use Rattle.std.specs.Prelude.{Option, None, Some, Ok, Err, nat_le}
use Rattle.std.specs.FinMap as finmap
use Rattle.std.specs.FinMap.{len-entries}
use Rattle.std.proofs.lemmas.Bool.{le-leb, lt-leb}
use Rattle.std.specs.List.{AllByRecursion}
use Rattle.std.specs.Map.{keys_of}
use Rattle.git_model.specs.Repository.{Object}
use Rattle.std.proofs.lemmas.List.{append-nil}
use Rattle.git_model.specs.declared.file_mode.FileMode.TheVariants as mode
use Rattle.git_model.specs.ObjectName.{IsObjectName}
use Rattle.git_paths.specs.Paths.{IsPath, is_within_limits}
use Rattle.file_maps.specs.declared.entry.Entry.{Entry}
use Rattle.file_maps.specs.FileMap.{Path, Listed, FileMap, AreFiles, listed, ArePairwiseApart}
use Rattle.file_maps.specs.Edits.{with_files, moved, put_tree_at, put_fault}
use Rattle.file_maps.specs.Kept.{stays, IsBelow}
use Rattle.file_maps.specs.StoredFiles.{stored_files}
use Rattle.file_maps.proofs.Edited.{edited, edited-is, AreFiles-edited, refusal-is, one-below, one-apart}
use Rattle.file_maps.proofs.Maps.{listed-of}
use Rattle.tree_build.specs.Shape.{file, opened, Shape, none, Held, shape_files, held_files}
use Rattle.tree_build.specs.Branch.{Branch, root_files, files_in, IsShape, IsHeld, IsBranch, closed_along, closed_from}
use Rattle.tree_build.specs.Editing.{new_directory, placed, taken}
use Rattle.tree_build.specs.Opened.{recounted, too_many}
use Rattle.tree_build.specs.Replacing.{with_node_at, MayPut, PutsNode}
use Rattle.file_maps.specs.declared.fault.Fault.{Fault}
use Rattle.std.specs.Prelude.{Result}
use Rattle.file_maps.specs.Calls.{Edits}
use Rattle.file_maps.specs.declared.fault.Fault.TheVariants as fault
use Rattle.tree_build.proofs.Ordered.{branch_listed}
use Rattle.tree_build.proofs.Mapped.{put_map}
use Rattle.tree_build.proofs.Placed.{placed_shape, placed_count, placed_look}
use Rattle.tree_build.proofs.Branches.{map_is, opened_files, drop_few, recount}
use Rattle.tree_build.proofs.OpenStays.{open_placed, closed_placed}

-- a map with files put into it that may be
pub put_are_files : (m : FileMap) (to : Path) (fs : Listed) → AreFiles (listed m)
    → AllByRecursion (IsBelow to) (moved to fs) → ArePairwiseApart (moved to fs)
    → put_fault (moved to fs) (put_tree_at m to fs) ≡ None → AreFiles (listed (put_tree_at m to fs))
put_are_files m to fs h below apart clean =
    let same : edited None to (listed m) (moved to fs) ≡ put_tree_at m to fs = ap (λ (x : FileMap). put_tree_at x to fs) (map_is m) in
    let n = length (filter (stays None to) (keys_of (listed m))) in
    let unrefused = refusal-is None to (listed m) (moved to fs) n h below apart refl
    ∙ ap (put_fault (moved to fs)) same ∙ clean in
    let good = AreFiles-edited None to (listed m) (moved to fs) n h below apart refl unrefused in
    subst (λ (x : FileMap). AreFiles (listed x))
    (sym (edited-is None to (listed m) (moved to fs) h) ∙ same)
    (subst AreFiles (sym (listed-of _ good)) good)

module _ (os : List Object) (h : Held) (held : IsHeld os h) (full : held_files (stored_files os) h ≢ [])
    (inside : Shape) (tree : Option (List ℕ)) where
  abbrev before : Held
  before = record { what = opened tree; inside = inside }

  abbrev after : Path → ℕ → ℕ → Branch
  after path files reads =
      record { root = new_directory (placed path h inside); files = files; reads = reads }

  sound_inside : (old : Branch) → old.root ≡ before → IsBranch os old → IsHeld os before
  sound_inside old is b = subst (λ (x : Held). IsHeld os x) is b.held

  pub put_sound : (path : Path) → path ≢ [] → IsPath path → (old : Branch) → old.root ≡ before → IsBranch os old
      → IsHeld os (new_directory (placed path h inside))
  put_sound [] ne p old is b = absurd (ne refl)
  put_sound (c ∷ path) ne p old is b =
      (tt, placed_shape os h held full path c p inside (sound_inside old is b).1)

  pub put_count : (path : Path) → path ≢ [] → (old : Branch) → old.root ≡ before → IsBranch os old
      → closed_along inside path ≡ 0
      → length (shape_files (stored_files os) (placed path h inside))
      ≡ old.files - taken (stored_files os) true path inside + length (held_files (stored_files os) h)
  put_count [] ne old is b shut = absurd (ne refl)
  put_count (c ∷ path) ne old is b shut =
      let n = placed_count os h held full path c inside (sound_inside old is b).1 shut in
      let few = drop_few os true (c ∷ path) ne inside tree old is b shut in
      let m : old.files ≡ length (shape_files (stored_files os) inside) = b.counted
      ∙ ap (λ (x : Held). length (held_files (stored_files os) x)) is in
      omega arith

  pub put_files : (path : Path) → path ≢ [] → IsPath path → (old : Branch) → old.root ≡ before → IsBranch os old
      → closed_along inside path ≡ 0 → (files reads : ℕ)
      → files_in os (after path files reads) ≡ put_tree_at (files_in os old) path (held_files (stored_files os) h)
  unfolding files_in
  put_files [] ne p old is b shut files reads = absurd (ne refl)
  put_files (c ∷ path) ne p old is b shut files reads =
      put_map (shape_files (stored_files os) inside) (shape_files (stored_files os) (placed (c ∷ path) h inside)) (c ∷ path)
      (held_files (stored_files os) h)
      (placed_look os h held full path c p inside (sound_inside old is b).1 shut)
      ∙ ap (λ (x : Held). put_tree_at (with_files finmap.empty (held_files (stored_files os) x)) (c ∷ path) (held_files (stored_files os) h)) (sym is)

  -- how many files the map has then
  pub put_len : (path : Path) → path ≢ [] → IsPath path → (old : Branch) → old.root ≡ before → IsBranch os old
      → closed_along inside path ≡ 0
      → finmap.len (put_tree_at (files_in os old) path (held_files (stored_files os) h))
      ≡ old.files - taken (stored_files os) true path inside + length (held_files (stored_files os) h)
  put_len path ne p old is b shut =
      ap (λ (m : FileMap). finmap.len m) (sym (put_files path ne p old is b shut 0 0))
      ∙ len-entries (files_in os (after path 0 0))
      ∙ ap (λ (fs : Listed). length fs) (branch_listed os (after path 0 0) (put_sound path ne p old is b))
      ∙ put_count path ne old is b shut

  pub put_branch : (path : Path) → path ≢ [] → IsPath path → (old : Branch) → old.root ≡ before → IsBranch os old
      → closed_along inside path ≡ 0 → (files reads : ℕ)
      → files ≡ old.files - taken (stored_files os) true path inside + length (held_files (stored_files os) h)
      → AreFiles (listed (put_tree_at (files_in os old) path (held_files (stored_files os) h)))
      → IsBranch os (after path files reads)
  put_branch path ne p old is b shut files reads count good = record {
    directory = tt;
    held = put_sound path ne p old is b;
    counted = count ∙ sym (put_count path ne old is b shut);
    files = subst (λ (m : FileMap). AreFiles (listed m)) (sym (put_files path ne p old is b shut files reads)) good;
  }

-- ---- limits

pub many : (n : ℕ) → 1048576 < n → too_many n ≡ Some fault.Limit
many n h = let over : nat_le n 1048576 ≡ false = lt-leb n 1048576 h in rw over refl

pub not_many : (n : ℕ) → n ≤ 1048576 → too_many n ≡ None
not_many n h = let yes_it : nat_le n 1048576 ≡ true = le-leb n 1048576 h in rw yes_it refl

-- what is put may be put, if the map does not get too many files
abbrev pub MayHave : List Object → Path → Held → Branch → Type 0
MayHave os path h b =
    finmap.len (put_tree_at (files_in os b) path (held_files (stored_files os) h)) ≤ 1048576
    → AreFiles (listed (put_tree_at (files_in os b) path (held_files (stored_files os) h)))

-- ---- one file

pub one_fault : (path : Path) (e : Entry) (after : FileMap) → path ≢ [] → is_within_limits path ≡ true
    → put_fault (moved path (([], e) ∷ [])) after ≡ too_many (finmap.len after)
unfolding put_fault
one_fault [] e after ne within = absurd (ne refl)
one_fault (c ∷ path) e after ne within =
    let same : is_within_limits ((c ∷ path) ++ []) ≡ true = ap is_within_limits (append-nil (c ∷ path)) ∙ within in
    rw same refl

pub root_fault : (path : Path) (e : Entry) (after : FileMap) → path ≡ []
    → put_fault (moved path (([], e) ∷ [])) after ≡ Some fault.RootNotDirectory
unfolding put_fault
root_fault path e after is = ap (λ (p : Path). put_fault (moved p (([], e) ∷ [])) after) is

pub long_fault : (path : Path) (e : Entry) (after : FileMap) → path ≢ [] → is_within_limits path ≡ false
    → put_fault (moved path (([], e) ∷ [])) after ≡ Some fault.Limit
unfolding put_fault
long_fault [] e after ne long = absurd (ne refl)
long_fault (c ∷ path) e after ne long =
    let same : is_within_limits ((c ∷ path) ++ []) ≡ false = ap is_within_limits (append-nil (c ∷ path)) ∙ long in
    rw same refl

pub one_good : (os : List Object) (b : Branch) → IsBranch os b → (path : Path) (e : Entry) → path ≢ [] → IsPath path
    → is_within_limits path ≡ true → e.mode ≢ mode.Directory → IsObjectName e.name
    → MayHave os path (record { what = file e; inside = none }) b
one_good os b h path e ne p within m id few =
    let files : moved path (([], e) ∷ []) ≡ (path, e) ∷ [] = ap (λ (q : Path). (q, e) ∷ []) (append-nil path) in
    put_are_files (files_in os b) path (([], e) ∷ []) h.files
    (one-below path e (moved path (([], e) ∷ [])) files p m id) (one-apart path e (moved path (([], e) ∷ [])) files)
    (one_fault path e (put_tree_at (files_in os b) path (([], e) ∷ [])) ne within
    ∙ not_many (finmap.len (put_tree_at (files_in os b) path (([], e) ∷ []))) few)

pub edits_put : {A : Type 0} (result : Result A Fault) (m old new : FileMap) → m ≡ old → (q path : Path) → q ≡ path
    → (e : Entry) → path ≢ [] → is_within_limits path ≡ true
    → Edits result m new (too_many (finmap.len (put_tree_at m q (([], e) ∷ [])))) (put_tree_at m q (([], e) ∷ []))
    → Edits result old new (put_fault (moved path (([], e) ∷ [])) (put_tree_at old path (([], e) ∷ []))) (put_tree_at old path (([], e) ∷ []))
edits_put result m old new same q path is e ne within h =
    subst (λ (f : Option Fault). Edits result old new f (put_tree_at old path (([], e) ∷ [])))
    (sym (one_fault path e (put_tree_at old path (([], e) ∷ [])) ne within))
    (subst (λ (p : Path). Edits result old new (too_many (finmap.len (put_tree_at old p (([], e) ∷ [])))) (put_tree_at old p (([], e) ∷ []))) is
    (subst (λ (x : FileMap). Edits result x new (too_many (finmap.len (put_tree_at x q (([], e) ∷ [])))) (put_tree_at x q (([], e) ∷ []))) same h))

-- ---- a node of which the number of files is counted already

module _ {os : List Object} {path : Path} {h : Held} {total : ℕ} {old : Branch} (may : MayPut os path h total old)
    (ne : path ≢ []) (p : IsPath path) {inside : Shape} {tree : Option (List ℕ)}
    (is : old.root ≡ record { what = opened tree; inside = inside }) where
  same_files : files_in os (recounted os old) ≡ files_in os old
  same_files = opened_files os old (recounted os old) refl

  spelled : put_tree_at (files_in os (recounted os old)) path (held_files (stored_files os) h) ≡ with_node_at os path h old
  spelled = ap (λ (m : FileMap). put_tree_at m path (held_files (stored_files os) h)) same_files

  shut : closed_along inside path ≡ 0
  shut = subst (λ (x : Held). closed_from x path ≡ 0) is may.shut

  sound : IsShape os inside
  sound = (subst (λ (x : Held). IsHeld os x) is may.branch.held).1

  pub total_few : taken (stored_files os) true path inside ≤ length (root_files os old)
  total_few = drop_few os true path ne inside tree (recounted os old) is may.branch shut

  module _ (gone : ℕ) (gone_is : gone ≡ taken (stored_files os) true path inside) where
    total_len : finmap.len (with_node_at os path h old) ≡ total - gone
    total_len =
        let len = put_len os h may.held may.full inside tree path ne p (recounted os old) is may.branch shut in
        let few = total_few in
        let all = may.counted in
        ap (λ (m : FileMap). finmap.len m) (sym spelled) ∙ len ∙ omega arith

    -- it is refused
    pub puts_nothing : 1048576 < total - gone → PutsNode os (Err fault.Limit) path h old old
    puts_nothing over = record {
      edits = λ memory. (ap too_many total_len ∙ many (total - gone) over, refl);
      branch = tt;
      still = λ _ b. b;
      reads = refl;
      stays = tt;
    }

    module _ (reads : ℕ) (same : reads ≡ old.reads) (within : total - gone ≤ 1048576) where
      abbrev with_node : Branch
      with_node = record { root = new_directory (placed path h inside); files = total - gone; reads = reads }

      total_branch : IsBranch os with_node
      total_branch =
          let few = total_few in
          let all = may.counted in
          put_branch os h may.held may.full inside tree path ne p (recounted os old) is may.branch shut (total - gone) reads (omega arith)
          (subst (λ (m : FileMap). AreFiles (listed m)) (sym spelled)
          (may.good (subst (λ (n : ℕ). n ≤ 1048576) (sym total_len) within)))

      -- it was put
      pub puts_there : PutsNode os (Ok tt) path h old with_node
      puts_there = record {
        edits = (
          ap too_many total_len ∙ not_many (total - gone) within,
          put_files os h may.held may.full inside tree path ne p (recounted os old) is may.branch shut (total - gone) reads ∙ spelled,
        );
        branch = total_branch;
        still = λ _ _. total_branch;
        reads = same;
        stays = λ q out.
            let less = open_placed os h path inside sound q out in
            let before = ap (λ (x : Held). closed_from x q) is in omega arith;
      }

  pub opens_there : (rest : Path) → closed_along (placed path h inside) (path ++ rest) ≡ closed_from h rest
  opens_there rest = closed_placed os h path ne inside sound rest

-- what may be put into a branch that was opened on the way
pub may_put : {os : List Object} {b : Branch} → IsBranch os b → (path : Path) → closed_from b.root path ≡ 0
    → (h : Held) → IsHeld os h → held_files (stored_files os) h ≢ []
    → (total : ℕ) → total ≡ b.files + length (held_files (stored_files os) h)
    → MayHave os path h b → MayPut os path h total b
may_put {os} {b} branch path shut h sound full total all good = record {
  branch = recount os b branch b.files b.reads;
  shut = shut;
  held = sound;
  full = full;
  counted = let n = branch.counted in omega arith;
  good = good;
}
