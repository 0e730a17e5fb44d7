-- The groups of the files that entries list: one for each entry that lists any, in their order.
use Rattle.std.proofs.Common.{◌≡◌, ◌≢◌, ℕ, suc, ◌≤◌, false, List, [], ◌∷◌, ◌++◌, refl, ap, ◌∙◌, arith}
use Rattle.std.specs.List.{AllByRecursion}
use Rattle.std.specs.Str.{bytes_eq}
use Rattle.std.proofs.lemmas.Slice.Eq.{bytes_eq-Decides}
use Rattle.git_model.specs.Repository.{Object}
use Rattle.git_model.specs.Tree.{TreeEntry}
use Rattle.git_paths.proofs.Cases.{by_cases}
use Rattle.file_maps.specs.declared.entry.Entry.{Entry}
use Rattle.file_maps.specs.FileMap.{Path, Listed}
use Rattle.file_maps.specs.Edits.{moved}
use Rattle.file_maps.specs.Trees.{Groups, grouped, add_file, depth_of}
use Rattle.file_maps.specs.StoredTree.{file_from, Lists, nothing, first_file, first_directory}
use Rattle.file_maps.proofs.Groups.{itself}

-- the first of these groups has another name
abbrev pub BeginsOther : List ℕ → Groups → Type 0
BeginsOther c [] = Unit {0}
BeginsOther c (g ∷ groups) = c ≢ g.0

differ : (c d : List ℕ) → c ≢ d → bytes_eq c d ≡ false
differ c d ne =
    by_cases (bytes_eq c d) (λ yea. absurd (ne ((bytes_eq-Decides c d).0 yea))) (λ nay. nay)

-- a file before such groups begins one of its own
pub add-other : (c : List ℕ) (f : Path × Entry) (groups : Groups) → BeginsOther c groups
    → add_file c f groups ≡ (c, f ∷ []) ∷ groups
add-other c f [] other = refl
add-other c f (g ∷ groups) other = rw (differ c g.0 other) refl

add_same : (c : List ℕ) (f : Path × Entry) (fs : Listed) (groups : Groups)
    → add_file c f ((c, fs) ∷ groups) ≡ (c, f ∷ fs) ∷ groups
add_same c f fs groups = rw (itself c) refl

-- and so do files below one name
pub moved-grouped : (c : List ℕ) (f : Path × Entry) (fs rest : Listed)
    → BeginsOther c (grouped rest)
    → grouped (moved (c ∷ []) (f ∷ fs) ++ rest) ≡ (c, f ∷ fs) ∷ grouped rest
moved-grouped c f [] rest other = add-other c f (grouped rest) other
moved-grouped c f (g ∷ fs) rest other =
    ap (add_file c f) (moved-grouped c g fs rest other) ∙ add_same c f (g ∷ fs) (grouped rest)

-- a file added under another name
added-other : (c d : List ℕ) (f : Path × Entry) (groups : Groups) → c ≢ d
    → BeginsOther c (add_file d f groups)
added-other c d f [] ne = ne
added-other c d f (g ∷ groups) ne = by_cases (bytes_eq d g.0) (λ yea. rw yea ne) (λ nay. rw nay ne)

-- what entries list begins with another name, where none of them has it
pub lists-begin : {os : List Object} (c : List ℕ) {es : List TreeEntry} {fs : Listed}
    → Lists os es fs → AllByRecursion (λ e. c ≢ e.name) es → BeginsOther c (grouped fs)
lists-begin c nothing other = tt
lists-begin c (first_file e es files ne l) other =
    added-other c e.name ([], (file_from e).1) (grouped files) other.0
lists-begin c (first_directory e es inside [] files is has sub l) other = lists-begin c l other.1
lists-begin c (first_directory e es inside (f ∷ below) files is has sub l) other =
    added-other c e.name f (grouped (moved (e.name ∷ []) below ++ files)) other.0

-- ---- how deep files are

pub depth-later : (xs ys : Listed) (n : ℕ) → depth_of (xs ++ ys) ≤ n → depth_of ys ≤ n
depth-later [] ys n h = h
depth-later (x ∷ xs) ys n h = depth-later xs ys n (omega arith)

pub depth-below : (c : List ℕ) (fs rest : Listed) (n : ℕ)
    → depth_of (moved (c ∷ []) fs ++ rest) ≤ suc n → depth_of fs ≤ n
depth-below c [] rest n h = omega arith
depth-below c (f ∷ fs) rest n h = let later = depth-below c fs rest n (omega arith) in omega arith
