-- Opening the directories on the way to a path: the files stay the same, and few trees are read.
use Rattle.std.proofs.Common.{◌≡◌, ◌≢◌, ℕ, ◌+◌, ◌≤◌, Bool, cond, List, [], ◌∷◌, ◌++◌, refl, sym, ap, ◌∙◌, subst, arith}
use Rattle.std.specs.Prelude.{Option, Some, length}
use Rattle.std.specs.Str.{bytes_eq}
use Rattle.git_model.specs.Repository.{Object}
use Rattle.git_paths.proofs.Cases.{by_cases}
use Rattle.file_maps.specs.FileMap.{Path, Listed}
use Rattle.file_maps.specs.Edits.{moved}
use Rattle.file_maps.specs.StoredFiles.{stored_files}
use Rattle.file_maps.specs.PlainTrees.{ListsPlain}
use Rattle.tree_build.specs.Shape.{What, file, unopened, opened, Shape, none, row, Held, Directory, Known, what_files, shape_files, held_files}
use Rattle.tree_build.specs.Branch.{IsWhat, IsShape, IsHeld, closed_by, closed_along, closed_from}
use Rattle.tree_build.specs.Editing.{child, changed}
use Rattle.tree_build.specs.Opened.{IsOpening, OpensHeld, OpensAlong, ReadsMore}
use Rattle.tree_build.proofs.Look.{is_bytes}
use Rattle.tree_build.proofs.Walks.{walk-few}
use Rattle.tree_build.proofs.Beside.{child_changed, beside_changed, shape_changed}
use Rattle.tree_build.proofs.Entries.{one_held, closed_child, closed_at, entry_at}

pub closed_root : (s : Shape) → closed_along s [] ≡ 0
closed_root none = refl
closed_root (row d w inner rest) = refl

pub closed_bound : (s : Shape) (c : List ℕ) (p : Path) → closed_along s (c ∷ p) ≤ length p
closed_bound none c p = omega arith
closed_bound (row d w inside rest) c p =
    by_cases (bytes_eq d c) (λ yea. rw yea (by w p (λ x q. closed_bound inside x q)))
    (λ nay. rw nay (closed_bound rest c p))
  where
    by : (w : What) (p : Path) → ((x : List ℕ) (q : Path) → closed_along inside (x ∷ q) ≤ length q)
        → closed_by w (closed_along inside p) (length p) ≤ length p
    by (file e) p h = omega arith
    by (unopened id) p h = omega arith
    by (opened tree) [] h = let n = closed_root inside in omega arith
    by (opened tree) (x ∷ q) h = let n = h x q in omega arith

-- another in its place that means the same
pub changed_files : (known : Known) (s : Shape) (c : List ℕ) (h k : Held) → child s c ≡ Some k
    → held_files known h ≡ held_files known k
    → shape_files known (changed s c h) ≡ shape_files known s
changed_files known none c h k there same = refl
changed_files known (row d w inside rest) c h k there same =
    by_cases (bytes_eq d c)
    (λ yea.
    let one = one_held (record { what = w; inside = inside }) k (subst (λ (b : Bool). cond b (Some (record { what = w; inside = inside })) (child rest c) ≡ Some k) yea there) in
    rw yea (ap (λ (fs : Listed). moved (d ∷ []) fs ++ shape_files known rest)
    (same ∙ ap (held_files known) (sym one))))
    (λ nay.
    let later : child rest c ≡ Some k = subst (λ (b : Bool). cond b (Some (record { what = w; inside = inside })) (child rest c) ≡ Some k) nay there in
    rw nay (ap (λ (fs : Listed). moved (d ∷ []) (what_files known w (shape_files known inside)) ++ fs)
    (changed_files known rest c h k later same)))

-- what stands under each name is as open as it was
pub open_rows : (s t : Shape) → ((c : List ℕ) (q : Path) → closed_child (child t c) q ≤ closed_child (child s c) q)
    → (q : Path) → closed_along t q ≤ closed_along s q
open_rows s t h [] = let a = closed_root s in let b = closed_root t in omega arith
open_rows s t h (c ∷ q) =
    let a = closed_at s c q in let b = closed_at t c q in let n = h c q in omega arith

-- one entry in place of another
pub open_changed : (s : Shape) (c : List ℕ) (k h : Held) → child s c ≡ Some k
    → ((q : Path) → closed_from h q ≤ closed_from k q) → (q : Path) → closed_along (changed s c h) q ≤ closed_along s q
open_changed s c k h there less = open_rows s (changed s c h) (λ x q.
    by_cases (bytes_eq c x)
    (λ yea. subst (λ (y : List ℕ). closed_child (child (changed s c h) y) q ≤ closed_child (child s y) q) (is_bytes c x yea)
    (let a = ap (λ (o : Option Held). closed_child o q) (child_changed s c h k there) in
    let b = ap (λ (o : Option Held). closed_child o q) there in let n = less q in omega arith))
    (λ nay. let a = ap (λ (o : Option Held). closed_child o q) (beside_changed s c h x nay) in omega arith))

module _ (os : List Object) where
  pub opens_entry : (s : Shape) → IsShape os s → (c : List ℕ) (rest : Path) (k h : Held) → child s c ≡ Some k
      → OpensHeld os rest k h → (d : Directory) (tree : Option (List ℕ)) → d.tree ≡ tree → d.entries ≡ changed s c h
      → (old : Directory) → old.tree ≡ tree → old.entries ≡ s → (path : Path) → path ≡ c ∷ rest
      → OpensAlong os path old d
  opens_entry s sound c rest k h there opens d tree is it old was had path split =
      let e = entry_at os s sound c k there in
      record {
        tree = is ∙ sym was;
        sound = subst (IsShape os) (sym it) (shape_changed os s sound c h k there opens.order
            (record { name = e.0.name; sound = opens.sound.0; some = λ no. e.0.some (sym opens.files ∙ no) }, opens.sound.1));
        files = ap (shape_files (stored_files os)) it
            ∙ changed_files (stored_files os) s c h k there opens.files
            ∙ ap (shape_files (stored_files os)) (sym had);
        shut = ap (closed_along d.entries) split ∙ ap (λ (x : Shape). closed_along x (c ∷ rest)) it ∙ closed_at (changed s c h) c rest
            ∙ ap (λ (o : Option Held). closed_child o rest) (child_changed s c h k there) ∙ opens.shut;
        stays = λ q.
            let less = open_changed s c k h there opens.stays q in
            let a = ap (λ (x : Shape). closed_along x q) it in
            let b = ap (λ (x : Shape). closed_along x q) had in omega arith;
      }

pub closed_here : (h : Held) → closed_from h [] ≡ 0
closed_here h = by h.what
  where
    by : (w : What) → closed_by w (closed_along h.inside []) 0 ≡ 0
    by (file e) = refl
    by (unopened id) = refl
    by (opened tree) = closed_root h.inside

pub no_more : (p : Path) → length p ≡ 0 → p ≡ []
no_more [] h = refl
no_more (c ∷ p) h = absurd (omega arith)

pub opens_none : (os : List Object) (d : Directory) → IsShape os d.entries → (path : Path)
    → closed_along d.entries path ≡ 0 → OpensAlong os path d d
opens_none os d sound path shut =
    record { tree = refl; sound = sound; files = refl; shut = shut; stays = λ q. omega arith }

pub opens_here : (os : List Object) (h : Held) → IsHeld os h → (rest : Path) → length rest ≡ 0
    → OpensHeld os rest h h
opens_here os h sound rest ended = record {
  sound = sound;
  order = refl;
  files = refl;
  shut = ap (closed_from h) (no_more rest ended) ∙ closed_here h;
  stays = λ q. omega arith;
}

-- a stored tree that was opened, and then along a path
pub opens_unopened : (os : List Object) (rest : Path) (id : List ℕ) (first last : Directory) → IsOpening os id first
    → OpensAlong os rest first last → ListsPlain os id (stored_files os id)
    → OpensHeld os rest (record { what = unopened id; inside = none }) (record { what = opened last.tree; inside = last.entries })
opens_unopened os rest id first last o a lists =
    let files = a.files ∙ o.files in
    let known : IsWhat os (opened (Some id)) (shape_files (stored_files os) last.entries) = subst (ListsPlain os id) (sym files) lists in
    record {
      sound = (subst (λ (t : Option (List ℕ)). IsWhat os (opened t) (shape_files (stored_files os) last.entries)) (sym (a.tree ∙ o.tree)) known, a.sound);
      order = refl;
      files = files;
      shut = a.shut;
      stays = λ q. walk-few (record { what = opened last.tree; inside = last.entries }) q;
    }

pub one_more : (a m b : ℕ) (s : Shape) (rest : Path) → rest ≢ [] → a ≤ m → m ≤ a + 1
    → ReadsMore m b (closed_along s rest) → ReadsMore a b (length rest)
one_more a m b s [] ne low high r = absurd (ne refl)
one_more a m b s (c ∷ rest) ne low high r =
    let n = closed_bound s c rest in
    let x = r.counted in
    let y = r.bounded in record { counted = omega arith; bounded = omega arith }

-- the tree itself was counted, and could not be read
pub one_read : (a m : ℕ) (rest : Path) → rest ≢ [] → a ≤ m → m ≤ a + 1 → ReadsMore a m (length rest)
one_read a m [] ne low high = absurd (ne refl)
one_read a m (c ∷ rest) ne low high = record { counted = omega arith; bounded = omega arith }
