-- Summaries of files: of some after others, and of some below a name.
use Rattle.std.proofs.Common.{◌≡◌, ◌≢◌, ℕ, suc, ◌+◌, ◌<◌, List, [], ◌∷◌, ◌++◌, length, refl, sym, ap, ◌∙◌, subst, arith}
use Rattle.std.specs.List.{AllByRecursion}
use Rattle.std.specs.Prelude.{drop, slice_index_or}
use Rattle.std.proofs.Math.Seq.{drop-cons}
use Rattle.std.proofs.lemmas.Bool.{ne_eqb}
use Rattle.git_model.specs.Repository.{Object}
use Rattle.file_maps.specs.StoredFiles.{stored_files}
use Rattle.tree_build.specs.declared.dir.Node.{Node}
use Rattle.tree_build.specs.declared.dir.Node.TheVariants.{File, Unopened, Opened}
use Rattle.tree_build.specs.Shape.{What, file, unopened, opened, Shape, what_files, shape_files, held_files}
use Rattle.tree_build.specs.Branch.{IsWhat, IsDirectory}
use Rattle.tree_build.specs.Nodes.{held, shape_of}
use Rattle.tree_build.specs.Sums.{IsSmall}
use Rattle.tree_build.proofs.Named.{Rows}
use Rattle.tree_build.proofs.Ordered.{shape_below}
use Rattle.tree_build.proofs.Summing.{first-small, second-small}
use Rattle.tenant_tables.specs.declared.summary.Summary.{Summary}
use Rattle.tenant_tables.specs.Trees.{below, one_file, both}
use Rattle.file_maps.specs.declared.entry.Entry.{Entry}
use Rattle.file_maps.specs.FileMap.{Listed}
use Rattle.file_maps.specs.Edits.{moved}
use Rattle.file_maps.specs.Storable.{files_summary}
use Rattle.file_maps.proofs.ListedOrder.{tree-below}
use Rattle.file_maps.proofs.Sums.{same_summary, both-assoc, both-none, none-both, path_summary, files-first, below-one, below-more}

pub files-both : (xs ys : Listed) → files_summary (xs ++ ys)
    ≡ both (files_summary xs) (files_summary ys)
files-both [] ys = sym (none-both (files_summary ys))
files-both (x ∷ xs) ys =
    let rest = files-both xs ys in
    let files = ap (λ (s : Summary). s.files) rest in
    let depth = ap (λ (s : Summary). s.depth) rest in
    let longest = ap (λ (s : Summary). s.longest) rest in
    same_summary (files_summary (x ∷ xs ++ ys)) (both (files_summary (x ∷ xs)) (files_summary ys))
    (omega arith) (omega arith) (omega arith)

pub file-below : (c : List ℕ) (e : Entry) → files_summary (moved (c ∷ []) (([], e) ∷ []))
    ≡ one_file c
file-below c e = same_summary (files_summary (moved (c ∷ []) (([], e) ∷ []))) (one_file c) refl
    (omega arith) (omega arith)

pub files-below : (c : List ℕ) (fs : Listed) → AllByRecursion (λ f. f.0 ≢ []) fs
    → files_summary (moved (c ∷ []) fs) ≡ below c (files_summary fs)
files-below c [] h = refl
files-below c (([], e) ∷ fs) h = absurd (h.0 refl)
files-below c (((d ∷ q), e) ∷ []) h =
    files-first (c ∷ d ∷ q) e [] ∙ both-none (path_summary (c ∷ d ∷ q)) ∙ sym (below-one c d q e)
files-below c (((d ∷ q), e) ∷ f ∷ fs) h =
    files-first (c ∷ d ∷ q) e (moved (c ∷ []) (f ∷ fs))
    ∙ ap (both (path_summary (c ∷ d ∷ q))) (files-below c (f ∷ fs) h.1)
    ∙ sym (below-more c d q e f fs)

-- ---- entry by entry

abbrev all : List Object → Rows → Summary
all os xs = files_summary (shape_files (stored_files os) (shape_of xs))

abbrev under : List Object → List ℕ × Node → Summary
under os x = files_summary (moved (x.0 ∷ []) (held_files (stored_files os) (held x.1)))

-- what a turn of the sum sees: one entry more, within the limits
pub record NextSum (os : List Object) (xs : Rows) (i : ℕ) (before : Summary)
    (x : List ℕ × Node) : Type 0 where
  pub next : both (both before (under os x)) (all os (drop (i + 1) xs)) ≡ all os xs
  pub entry : IsSmall (under os x)
  pub sum : IsSmall (both before (under os x))

pub next-sum : (os : List Object) (xs : Rows) (i : ℕ) (sum : Summary) (x : List ℕ × Node)
    → i < length xs
    → x ≡ slice_index_or xs i x → both sum (all os (drop i xs)) ≡ all os xs → IsSmall (all os xs)
    → NextSum os xs i sum x
next-sum os xs i sum x lt at is small =
    let plus : suc i ≡ i + 1 = omega arith in
    let cons : drop i xs ≡ x ∷ drop (i + 1) xs = drop-cons xs i x lt
    ∙ ap (λ (y : List ℕ × Node). y ∷ drop (suc i) xs) (sym at)
    ∙ ap (λ (n : ℕ). x ∷ drop n xs) plus in
    let split : all os (drop i xs) ≡ both (under os x) (all os (drop (i + 1) xs)) = ap (all os) cons
    ∙ files-both (moved (x.0 ∷ []) (held_files (stored_files os) (held x.1)))
    (shape_files (stored_files os) (shape_of (drop (i + 1) xs))) in
    let next = both-assoc sum (under os x) (all os (drop (i + 1) xs)) ∙ ap (both sum) (sym split)
    ∙ is in
    let more = first-small (both sum (under os x)) (all os (drop (i + 1) xs))
    (subst IsSmall (sym next) small) in
    record { next = next; entry = second-small sum (under os x) more; sum = more }

-- ---- one entry

pub below-small : (c : List ℕ) (s : Summary) → IsSmall (below c s) → s.files ≢ 0 → IsSmall s
below-small c s h some =
    let is : below c s
    ≡ record { files = s.files; depth = 1 + s.depth; longest = length c + 1 + s.longest } =
    rw (ne_eqb s.files 0 some) refl in
    let k = subst IsSmall is h in
    let f = k.files in let d = k.depth in let l = k.longest in
    record { files = omega arith; depth = omega arith; longest = omega arith }

-- the files of a directory stand below it
pub dir-below : (os : List Object) (w : What) (inside : Shape)
    → IsWhat os w (shape_files (stored_files os) inside)
    → IsDirectory w → AllByRecursion (λ f. f.0 ≢ [])
    (what_files (stored_files os) w (shape_files (stored_files os) inside))
dir-below os (file e) inside s d = absurd d
dir-below os (unopened id) inside s d = tree-below os id (stored_files os id) s.tree
dir-below os (opened tree) inside s d = shape_below os inside

pub small-below : (c : List ℕ) (fs : Listed) → AllByRecursion (λ f. f.0 ≢ []) fs
    → IsSmall (files_summary (moved (c ∷ []) fs)) → IsSmall (files_summary fs)
small-below c [] h small = record { files = omega arith; depth = omega arith; longest = omega arith }
small-below c (f ∷ fs) h small =
    below-small c (files_summary (f ∷ fs)) (subst IsSmall (files-below c (f ∷ fs) h) small)
    (λ z. absurd (omega arith))

-- no file
pub no_file_there : (n : Node) → ((e : Entry) → n ≡ File e → ⊥) → IsDirectory (held n).what
no_file_there (File e) h = h e refl
no_file_there (Unopened id) h = tt
no_file_there (Opened d) h = tt
