-- Putting a file in one walk: what each step on the way leaves.
use Rattle.std.proofs.Common.{◌≡◌, ◌≢◌, ℕ, ◌+◌, ◌-◌, ◌<◌, ◌≤◌, true, false, List, [], ◌∷◌, ◌++◌, refl, sym, ap, ◌∙◌, subst, arith}
use Rattle.std.proofs.lemmas.List.{append-nil}
use Rattle.std.specs.Prelude.{Option, None, Some, length}
use Rattle.std.specs.FinMap as finmap
use Rattle.std.specs.Str.{bytes_eq}
use Rattle.git_model.specs.declared.file_mode.FileMode.TheVariants as mode
use Rattle.git_model.specs.ObjectName.{IsObjectName}
use Rattle.git_model.specs.Repository.{Object}
use Rattle.git_paths.specs.Paths.{IsPath, is_within_limits}
use Rattle.git_paths.proofs.Cases.{by_cases}
use Rattle.file_maps.specs.declared.entry.Entry.{Entry}
use Rattle.file_maps.specs.FileMap.{Path, Listed, FileMap}
use Rattle.file_maps.specs.Edits.{put_tree_at}
use Rattle.file_maps.specs.StoredFiles.{stored_files}
use Rattle.file_maps.specs.PlainTrees.{ListsPlain}
use Rattle.tree_build.specs.Shape.{What, file, unopened, opened, Shape, none, row, Held, Directory, Known, what_files, shape_files, held_files}
use Rattle.tree_build.specs.Branch.{Branch, files_in, IsDirectory, IsWhat, IsShape, IsHeld, IsBranch, closed_by, closed_along, closed_from}
use Rattle.tree_build.specs.Editing.{child, removed, inserted, changed, new_directory, entries_in, is_opened, has_opened, placed, taken_by, taken_at, taken}
use Rattle.tree_build.specs.Opened.{IsOpening, OpensHeld, OpensAlong, too_many}
use Rattle.tree_build.specs.Putting.{file_held, new_node, leads_into, PutsAlong, PutsHeld}
use Rattle.tree_build.proofs.Beside.{child_changed}
use Rattle.tree_build.proofs.Entries.{closed_child, closed_at}
use Rattle.tree_build.proofs.Named.{put_in_place, put_new}
use Rattle.tree_build.proofs.Along.{closed_root, opens_entry, opens_none, opens_unopened}
use Rattle.tree_build.proofs.Branches.{opened_branch, opened_files, drop_few}
use Rattle.tree_build.proofs.Puts.{put_files, put_len, put_branch, not_many, one_good}
use Rattle.tree_build.proofs.OpenStays.{open_placed, closed_placed, open_file}

-- ---- what stands under a name

pub leads_directory : (w : What) (rest : Path) → leads_into w rest ≡ true → IsDirectory w
leads_directory (file e) rest h = cc h
leads_directory (unopened id) rest h = tt
leads_directory (opened tree) rest h = tt

pub leads_more : (w : What) (rest : Path) → leads_into w rest ≡ true → rest ≢ []
leads_more w (d ∷ rest) h = λ e. cc e
leads_more (file e) [] h = cc h
leads_more (unopened id) [] h = cc h
leads_more (opened tree) [] h = cc h

shut_here : (k : Held) (rest : Path) → leads_into k.what rest ≡ false → closed_child (Some k) rest ≡ 0
shut_here k rest = by k.what rest
  where
    by : (w : What) (rest : Path) → leads_into w rest ≡ false
        → closed_by w (closed_along k.inside rest) (length rest) ≡ 0
    by (file e) rest n = refl
    by (unopened id) [] n = refl
    by (unopened id) (d ∷ rest) n = cc n
    by (opened tree) [] n = closed_root k.inside
    by (opened tree) (d ∷ rest) n = cc n

not_into : (w : What) (rest : Path) → leads_into w rest ≡ false → rest ≢ [] → is_opened w ≡ false
not_into (file e) rest n ne = refl
not_into (unopened id) rest n ne = refl
not_into (opened tree) [] n ne = absurd (ne refl)
not_into (opened tree) (d ∷ rest) n ne = cc n

count_here : (known : Known) (k : Held) (rest : Path) (below : ℕ) → leads_into k.what rest ≡ false
    → taken_at known true rest (Some k) below ≡ length (held_files known k)
count_here known k [] below n = refl
count_here known k (d ∷ rest) below n = by k.what n
  where
    by : (w : What) → leads_into w (d ∷ rest) ≡ false
        → taken_by known true w k below ≡ length (what_files known w (shape_files known k.inside))
    by (file e) n = refl
    by (unopened id) n = cc n
    by (opened tree) n = cc n

none_taken : (known : Known) (path : Path) (n : ℕ) → taken_at known true path None n ≡ 0
none_taken known [] n = refl
none_taken known (d ∷ path) n = refl

instead_is : (s : Shape) (c : List ℕ) (rest : Path) (h : Held) → (rest ≢ [] → has_opened (child s c) ≡ false)
    → inserted c (new_node rest h) (removed s c) ≡ placed (c ∷ rest) h s
instead_is s c [] h not = refl
instead_is s c (d ∷ p) h not = put_new s c (d ∷ p) h (placed (d ∷ p) h none) (λ e. cc e) (not (λ e. cc e)) refl

changed_twice : (s : Shape) (c : List ℕ) (m h : Held) → changed (changed s c m) c h ≡ changed s c h
changed_twice none c m h = refl
changed_twice (row d w inside rest) c m h =
    by_cases (bytes_eq d c) (λ yea. rw (yea, yea) refl)
    (λ nay. rw (nay, nay) (ap (row d w inside) (changed_twice rest c m h)))

module _ (os : List Object) (h : Held) where
  abbrev known : Known
  known = stored_files os

  -- ---- at a directory on the way

  module _ (old new : Directory) (c : List ℕ) (rest path : Path) (split : path ≡ c ∷ rest)
      (sound : IsShape os old.entries) (tree : new.tree ≡ None) (gone : ℕ) where
    -- no entry has the name
    pub puts_new : child old.entries c ≡ None → removed old.entries c ≡ old.entries
        → new.entries ≡ inserted c (new_node rest h) old.entries → gone ≡ 0 → PutsAlong os path h old new gone
    puts_new lacks same is many = record {
      inside = old.entries;
      opens = opens_none os old sound path
          (ap (closed_along old.entries) split ∙ closed_at old.entries c rest ∙ ap (λ (o : Option Held). closed_child o rest) lacks);
      tree = tree;
      entries = is ∙ ap (inserted c (new_node rest h)) (sym same)
          ∙ instead_is old.entries c rest h (λ ne. ap has_opened lacks)
          ∙ ap (λ (p : Path). placed p h old.entries) (sym split);
      count = many ∙ sym (ap (λ (p : Path). taken known true p old.entries) split
          ∙ ap (λ (o : Option Held). taken_at known true rest o (taken known true rest (entries_in o))) lacks
          ∙ none_taken known rest (taken known true rest (entries_in None)));
    }

    -- a file, or what stands at the path itself, is replaced
    pub puts_instead : (k : Held) → child old.entries c ≡ Some k → leads_into k.what rest ≡ false
        → new.entries ≡ inserted c (new_node rest h) (removed old.entries c)
        → gone ≡ length (held_files known k) → PutsAlong os path h old new gone
    puts_instead k there not is many = record {
      inside = old.entries;
      opens = opens_none os old sound path
          (ap (closed_along old.entries) split ∙ closed_at old.entries c rest
          ∙ ap (λ (o : Option Held). closed_child o rest) there ∙ shut_here k rest not);
      tree = tree;
      entries = is
          ∙ instead_is old.entries c rest h (λ ne. ap has_opened there ∙ not_into k.what rest not ne)
          ∙ ap (λ (p : Path). placed p h old.entries) (sym split);
      count = many ∙ sym (ap (λ (p : Path). taken known true p old.entries) split
          ∙ ap (λ (o : Option Held). taken_at known true rest o (taken known true rest (entries_in o))) there
          ∙ count_here known k rest (taken known true rest (entries_in (Some k))) not);
    }

    -- the walk goes on inside an entry
    pub puts_inside : (k n : Held) → child old.entries c ≡ Some k → rest ≢ [] → PutsHeld os rest h k n gone
        → new.entries ≡ changed old.entries c n → PutsAlong os path h old new gone
    puts_inside k n there more puts is =
        let m : Held = record { what = opened puts.tree; inside = puts.inside } in
        let s = changed old.entries c m in
        let child_is : child s c ≡ Some m = child_changed old.entries c m k there in
        record {
          inside = s;
          opens = opens_entry os old.entries sound c rest k m there puts.opens (record { tree = old.tree; entries = s })
              old.tree refl refl old refl refl path split;
          tree = tree;
          entries = is ∙ ap (changed old.entries c) puts.is
              ∙ sym (changed_twice old.entries c m (new_directory (placed rest h puts.inside)))
              ∙ put_in_place s c rest h m more child_is (ap has_opened child_is)
              ∙ ap (λ (p : Path). placed p h s) (sym split);
          count = puts.count ∙ sym (ap (λ (p : Path). taken known true p s) split
              ∙ ap (λ (o : Option Held). taken_at known true rest o (taken known true rest (entries_in o))) child_is
              ∙ below rest more puts.tree puts.inside);
        }
      where
        below : (rest : Path) → rest ≢ [] → (t : Option (List ℕ)) (inside : Shape)
            → taken_at known true rest (Some (record { what = opened t; inside = inside })) (taken known true rest inside)
            ≡ taken known true rest inside
        below [] ne t inside = absurd (ne refl)
        below (d ∷ rest) ne t inside = refl

  -- ---- below a node

  opens_opened : (d m : Directory) (rest : Path) → IsHeld os (record { what = opened d.tree; inside = d.entries })
      → OpensAlong os rest d m
      → OpensHeld os rest (record { what = opened d.tree; inside = d.entries }) (record { what = opened m.tree; inside = m.entries })
  opens_opened d m rest sound o = record {
    sound = (
      subst (λ (t : Option (List ℕ)). IsWhat os (opened t) (shape_files known m.entries)) (sym o.tree)
          (subst (IsWhat os (opened d.tree)) (sym o.files) sound.0),
      o.sound,
    );
    order = refl;
    files = o.files;
    shut = o.shut;
    stays = o.stays;
  }

  pub puts_opened : (d new : Directory) (rest : Path) (gone : ℕ)
      → IsHeld os (record { what = opened d.tree; inside = d.entries }) → PutsAlong os rest h d new gone
      → PutsHeld os rest h (record { what = opened d.tree; inside = d.entries }) (record { what = opened new.tree; inside = new.entries }) gone
  puts_opened d new rest gone sound puts = record {
    tree = d.tree;
    inside = puts.inside;
    opens = opens_opened d (record { tree = d.tree; entries = puts.inside }) rest sound puts.opens;
    is = λ i. record { what = opened (puts.tree i); inside = puts.entries i };
    count = puts.count;
  }

  pub puts_unopened : (id : List ℕ) (first new : Directory) (rest : Path) (gone : ℕ)
      → ListsPlain os id (stored_files os id) → IsOpening os id first → PutsAlong os rest h first new gone
      → PutsHeld os rest h (record { what = unopened id; inside = none }) (record { what = opened new.tree; inside = new.entries }) gone
  puts_unopened id first new rest gone lists o puts = record {
    tree = first.tree;
    inside = puts.inside;
    opens = opens_unopened os rest id first (record { tree = first.tree; entries = puts.inside }) o puts.opens lists;
    is = λ i. record { what = opened (puts.tree i); inside = puts.entries i };
    count = puts.count;
  }

-- ---- a file in a branch

module _ (os : List Object) (e : Entry) (file_mode : e.mode ≢ mode.Directory) (named : IsObjectName e.name)
    (path : Path) (ne : path ≢ []) (p : IsPath path) (old : Branch) (b : IsBranch os old)
    (new : Held) (gone : ℕ) (puts : PutsHeld os path (file_held e) old.root new gone) where
  -- the branch after the directories were opened
  abbrev mid : Branch
  mid = record { root = record { what = opened puts.tree; inside = puts.inside }; files = old.files; reads = old.reads }

  abbrev one : Listed
  one = ([], e) ∷ []

  mid_branch : IsBranch os mid
  mid_branch = opened_branch os old b path (record { what = opened puts.tree; inside = puts.inside }) puts.opens old.reads

  mid_files : files_in os mid ≡ files_in os old
  mid_files = opened_files os old mid puts.opens.files

  is_held : IsHeld os (file_held e)
  is_held = ((file_mode, named), tt)

  is_full : held_files (stored_files os) (file_held e) ≢ []
  is_full = λ no. cc no

  pub gone_few : gone ≤ old.files
  gone_few =
      let few = drop_few os true path ne puts.inside puts.tree mid refl mid_branch puts.opens.shut in
      let same = puts.count in omega arith

  many_then : finmap.len (put_tree_at (files_in os mid) path one) ≡ old.files - taken (stored_files os) true path puts.inside + 1
  many_then = put_len os (file_held e) is_held is_full puts.inside puts.tree path ne p mid refl mid_branch puts.opens.shut

  few_then : old.files < 1048576 → finmap.len (put_tree_at (files_in os mid) path one) ≤ 1048576
  few_then room = let many = many_then in omega arith

  pub after_edits : old.files < 1048576 → (files reads : ℕ)
      → (too_many (finmap.len (put_tree_at (files_in os old) path one)) ≡ None)
      × (files_in os (record { root = new; files = files; reads = reads }) ≡ put_tree_at (files_in os old) path one)
  after_edits room files reads = (
    ap (λ (m : FileMap). too_many (finmap.len (put_tree_at m path one))) (sym mid_files)
        ∙ not_many (finmap.len (put_tree_at (files_in os mid) path one)) (few_then room),
    ap (λ (x : Held). files_in os (record { root = x; files = files; reads = reads })) puts.is
        ∙ put_files os (file_held e) is_held is_full puts.inside puts.tree path ne p mid refl mid_branch puts.opens.shut files reads
        ∙ ap (λ (m : FileMap). put_tree_at m path one) mid_files,
  )

  pub after_branch : is_within_limits path ≡ true → old.files < 1048576 → (files reads : ℕ) → files ≡ old.files + 1 - gone
      → IsBranch os (record { root = new; files = files; reads = reads })
  after_branch within room files reads is =
      let few = gone_few in
      let same = puts.count in
      subst (λ (x : Held). IsBranch os (record { root = x; files = files; reads = reads })) (sym puts.is)
      (put_branch os (file_held e) is_held is_full puts.inside puts.tree path ne p mid refl mid_branch puts.opens.shut files reads
      (omega arith) (one_good os mid mid_branch path e ne p within file_mode named (few_then room)))

  there_then : (r : Path) → closed_from new (path ++ r) ≡ closed_from (file_held e) r
  there_then r =
      ap (λ (x : Held). closed_from x (path ++ r)) puts.is
      ∙ closed_placed os (file_held e) path ne puts.inside puts.opens.sound.1 r

  pub after_open : (q : Path) → closed_from new q ≤ closed_from old.root q
  after_open q =
      open_file old.root (record { what = opened puts.tree; inside = puts.inside }) new path e puts.opens.stays
      (λ r out.
      let same = ap (λ (x : Held). closed_from x r) puts.is in
      let less = open_placed os (file_held e) path puts.inside puts.opens.sound.1 r out in omega arith)
      there_then q

  pub after_shut : closed_from new path ≡ 0
  after_shut = ap (closed_from new) (sym (append-nil path)) ∙ there_then []
