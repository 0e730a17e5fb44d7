-- What a branch means stays while objects are added.
use Rattle.std.proofs.Common.{◌≡◌, ℕ, List, [], ◌∷◌, ap, ◌∙◌, sym, subst, refl, arith}
use Rattle.std.specs.Prelude.{length}
use Rattle.std.specs.FinMap as finmap
use Rattle.git_model.specs.Content.{Content}
use Rattle.git_model.specs.Repository.{Object, with_object}
use Rattle.file_maps.specs.FileMap.{Path, Listed, FileMap, AreFiles, listed}
use Rattle.file_maps.specs.Edits.{moved, with_files}
use Rattle.file_maps.specs.StoredFiles.{stored_files}
use Rattle.file_maps.proofs.KnownTrees.{listed-later, plain-stored}
use Rattle.tree_build.proofs.Later.{Grows, held-later}
use Rattle.tree_build.specs.Shape.{Held, held_files}
use Rattle.tree_build.specs.Branch.{Branch, files_in, IsHeld, IsBranch}

pub length_moved : (top : Path) (fs : Listed) → length (moved top fs) ≡ length fs
length_moved top [] = refl
length_moved top (f ∷ fs) = let n = length_moved top fs in omega arith

module _ (key : List ℕ) (c : Content) (os : List Object) where
  abbrev more : List Object
  more = with_object key c os

  grows_one : Grows os more
  grows_one = record {
    stays = listed-later key c os;
    known = λ id t. plain-stored more id (stored_files os id) (listed-later key c os id (stored_files os id) t);
  }

  held_stays : (h : Held) → IsHeld os h
      → (held_files (stored_files more) h ≡ held_files (stored_files os) h) × IsHeld more h
  held_stays h k = held-later os more grows_one h k

  pub files_stay : (b : Branch) → IsHeld os b.root → files_in more b ≡ files_in os b
  unfolding files_in
  files_stay b h = ap (with_files finmap.empty) (held_stays b.root h).0

  pub branch_stays : (b : Branch) → IsBranch os b
      → IsBranch more b × (files_in more b ≡ files_in os b)
  branch_stays b h =
      let same = files_stay b h.held in (
        record {
          directory = h.directory;
          held = (held_stays b.root h.held).1;
          counted = h.counted ∙ ap (λ (fs : Listed). length fs) (sym (held_stays b.root h.held).0);
          files = subst (λ (m : FileMap). AreFiles (listed m)) (sym same) h.files;
        },
        same,
      )
