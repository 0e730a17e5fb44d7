-- How many files stand below the entries of a directory, one after another.
use Rattle.std.proofs.Common.{◌≡◌, ℕ, zero, suc, ◌+◌, ◌<◌, ◌≤◌, max, List, [], ◌∷◌, sym, ap, ◌∙◌, subst, arith}
use Rattle.std.specs.Prelude.{length, drop, slice_index_or}
use Rattle.std.proofs.Math.Seq.{drop-cons}
use Rattle.git_model.specs.Repository.{Object}
use Rattle.file_maps.specs.StoredFiles.{stored_files}
use Rattle.tree_build.specs.declared.dir.Node.{Node}
use Rattle.tree_build.specs.Shape.{shape_files, held_files}
use Rattle.tree_build.specs.ShapeCode.{shape_size}
use Rattle.tree_build.specs.Branch.{IsShape, IsHeld}
use Rattle.tree_build.specs.Nodes.{held, shape_of}
use Rattle.tree_build.proofs.Beside.{count_row}
use Rattle.tree_build.proofs.Named.{Rows}

-- what a turn sees: the entry at a place, those after it, and what is true of it
pub record Turn (os : List Object) (xs : Rows) (i : ℕ) (x : List ℕ × Node) : Type 0 where
  pub files : length (shape_files (stored_files os) (shape_of (drop i xs)))
      ≡ length (held_files (stored_files os) (held x.1)) + length (shape_files (stored_files os) (shape_of (drop (i + 1) xs)))
  pub sound : IsHeld os (held x.1)
  pub smaller : suc (shape_size (held x.1).inside) ≤ shape_size (shape_of xs)

sound_later : (os : List Object) (xs : Rows) (i : ℕ) → IsShape os (shape_of xs)
    → IsShape os (shape_of (drop i xs))
sound_later os [] zero h = tt
sound_later os [] (suc i) h = tt
sound_later os (x ∷ xs) zero h = h
sound_later os (x ∷ xs) (suc i) h = sound_later os xs i h.3

size_later : (xs : Rows) (i : ℕ) → shape_size (shape_of (drop i xs)) ≤ shape_size (shape_of xs)
size_later [] zero = omega arith
size_later [] (suc i) = omega arith
size_later (x ∷ xs) zero = omega arith
size_later (x ∷ xs) (suc i) = let n = size_later xs i in omega arith

pub turn : (os : List Object) (xs : Rows) (i : ℕ) (x : List ℕ × Node) → IsShape os (shape_of xs)
    → i < length xs → x ≡ slice_index_or xs i x → Turn os xs i x
turn os xs i x sound lt at =
    let plus : suc i ≡ i + 1 = omega arith in
    let cons : drop i xs ≡ x ∷ drop (i + 1) xs = drop-cons xs i x lt
    ∙ ap (λ (y : List ℕ × Node). y ∷ drop (suc i) xs) (sym at)
    ∙ ap (λ (n : ℕ). x ∷ drop n xs) plus in
    let here : IsShape os (shape_of (x ∷ drop (i + 1) xs)) = subst (λ (ys : Rows). IsShape os (shape_of ys)) cons (sound_later os xs i sound) in
    let size = size_later xs i in
    let same : shape_size (shape_of (drop i xs)) ≡ max (suc (shape_size (held x.1).inside)) (shape_size (shape_of (drop (i + 1) xs))) = ap (λ (ys : Rows). shape_size (shape_of ys)) cons in
    record {
      files =
          ap (λ (ys : Rows). length (shape_files (stored_files os) (shape_of ys))) cons
          ∙ count_row (stored_files os) x.0 (held x.1).what (held x.1).inside (shape_of (drop (i + 1) xs));
      sound = (here.0.sound, here.2);
      smaller = omega arith;
    }
