-- A branch without files.
use Rattle.std.proofs.Common.{◌≡◌, ℕ, List, [], Option, None, refl, sym, ap, ◌∙◌, subst}
use Rattle.std.specs.FinMap as finmap
use Rattle.std.specs.FinMap.{entries-from_sorted}
use Rattle.git_model.specs.Repository.{Object}
use Rattle.git_paths.specs.Order.{path_cmp}
use Rattle.file_maps.specs.FileMap.{listed}
use Rattle.file_maps.proofs.Maps.{empty-of}
use Rattle.file_maps.proofs.Puts.{AreFiles-nil}
use Rattle.tree_build.specs.Shape.{opened, Shape, none, Held}
use Rattle.tree_build.specs.Branch.{files_in, IsBranch}

pub no_listed : listed finmap.empty ≡ []
no_listed = ap listed (sym (empty-of [] refl)) ∙ entries-from_sorted path_cmp [] tt

-- an opened directory without entries
abbrev pub bare : Option (List ℕ) → Shape → Held
bare tree inside = record { what = opened tree; inside = inside }

pub bare_files : (os : List Object) (tree : Option (List ℕ)) (inside : Shape) (reads : ℕ)
    → inside ≡ none
    → files_in os (record { root = bare tree inside; files = 0; reads = reads }) ≡ finmap.empty
unfolding files_in
bare_files os tree inside reads is =
    subst (λ (s : Shape). files_in os (record { root = bare tree s; files = 0; reads = reads }) ≡ finmap.empty)
    (sym is) refl

bare_none : (os : List Object) (reads : ℕ)
    → IsBranch os (record { root = bare None none; files = 0; reads = reads })
unfolding files_in
bare_none os reads = record {
  directory = tt;
  held = (tt, tt);
  counted = refl;
  files = AreFiles-nil (listed finmap.empty) no_listed;
}

pub bare_branch : (os : List Object) (tree : Option (List ℕ)) (inside : Shape) (reads : ℕ)
    → tree ≡ None → inside ≡ none
    → IsBranch os (record { root = bare tree inside; files = 0; reads = reads })
bare_branch os tree inside reads fresh is =
    subst (λ (t : Option (List ℕ)). IsBranch os (record { root = bare t inside; files = 0; reads = reads }))
    (sym fresh)
    (subst (λ (s : Shape). IsBranch os (record { root = bare None s; files = 0; reads = reads })) (sym is)
    (bare_none os reads))
