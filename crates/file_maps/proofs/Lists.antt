-- Lists of files: those below a path.
use Rattle.std.proofs.Common.{◌≡◌, [], ◌∷◌, ◌++◌, Option, Some, None, refl, ap, ◌∙◌}
use Rattle.git_paths.specs.Paths.{strip_prefix}
use Rattle.file_maps.specs.declared.entry.Entry.{Entry}
use Rattle.file_maps.specs.FileMap.{Path, Listed}
use Rattle.file_maps.specs.Edits.{cut, cut_one}

cut_one-append : (o : Option Path) (e : Entry) (xs ys : Listed)
    → cut_one o e (xs ++ ys) ≡ cut_one o e xs ++ ys
cut_one-append (Some r) e xs ys = refl
cut_one-append None e xs ys = refl

pub cut-append : (top : Path) (xs ys : Listed) → cut top (xs ++ ys) ≡ cut top xs ++ cut top ys
cut-append top [] ys = refl
cut-append top (f ∷ xs) ys =
    ap (cut_one (strip_prefix top f.0) f.1) (cut-append top xs ys)
    ∙ cut_one-append (strip_prefix top f.0) f.1 (cut top xs) (cut top ys)
