-- The summary of a tree is that of its files.
use Rattle.std.proofs.Common.{◌≡◌, ◌≢◌, ℕ, suc, ◌+◌, true, List, [], ◌∷◌, length, map, fold, Option}
use Rattle.std.proofs.Common.{Some, None, refl, sym, ap, ◌∙◌, subst, arith}
use Rattle.std.specs.List.{AllByRecursion}
use Rattle.std.proofs.lemmas.Bool.{false≢true, ne_eqb}
use Rattle.std.proofs.lemmas.List.{length-append}
use Rattle.std.specs.Str.{bytes_eq}
use Rattle.std.proofs.lemmas.Slice.Eq.{bytes_eq-Decides}
use Rattle.git_model.specs.declared.file_mode.FileMode.{FileMode}
use Rattle.git_model.specs.declared.file_mode.FileMode.TheVariants as mode
use Rattle.git_paths.specs.Paths.{joined}
use Rattle.git_paths.proofs.Cases.{by_cases}
use Rattle.git_paths.specs.Paths.{IsPath}
use Rattle.git_model.specs.ObjectName.{IsObjectName}
use Rattle.git_model.specs.Tree.{tree_contents}
use Rattle.std.specs.Option.{unwrap_or, IsSomeAnd}
use Rattle.std.proofs.lemmas.List.Elements.{All-from_recursion}
use Rattle.file_maps.proofs.Apart.{all-weaker, is_apart-below, is_apart-symmetric}
use Rattle.file_maps.proofs.Written.{can_write_tree}
use Rattle.tenant_tables.specs.declared.summary.Summary.{Summary}
use Rattle.tenant_tables.specs.View.{Entries, summary_of}
use Rattle.tenant_tables.specs.Trees as table
use Rattle.file_maps.specs.declared.entry.Entry.{Entry}
use Rattle.file_maps.specs.FileMap.{Path, Listed, is_apart, ArePairwiseApart, IsFile}
use Rattle.file_maps.specs.Trees.{Groups, grouped, add_file, file_of, depth_of, tree_name}
use Rattle.file_maps.specs.Trees.{entries_within}
use Rattle.file_maps.specs.Storable.{longest_of, files_summary, AreStorable}
use Rattle.file_maps.proofs.Nested.{direct_of}
use Rattle.file_maps.proofs.Rising.{Bytes, OfFirst, grouped-first, groups-rise}
use Rattle.file_maps.proofs.Fits.{IsGroup, groups-are}
use Rattle.file_maps.proofs.Stored.{storable-within}

pub same_summary : (s t : Summary) → s.files ≡ t.files → s.depth ≡ t.depth → s.longest ≡ t.longest
    → s ≡ t
same_summary s t a b c i = record { files = a i; depth = b i; longest = c i }

pub both-assoc : (a b c : Summary) → table.both (table.both a b) c ≡ table.both a (table.both b c)
both-assoc a b c = same_summary _ _ (omega arith) (omega arith) (omega arith)

pub both-none : (a : Summary) → table.both a table.no_files ≡ a
both-none a = same_summary _ _ (omega arith) (omega arith) (omega arith)

pub none-both : (a : Summary) → table.both table.no_files a ≡ a
none-both a = same_summary _ _ (omega arith) (omega arith) (omega arith)

-- the sum of summaries, from the back
abbrev pub sums : List Summary → Summary
sums [] = table.no_files
sums (s ∷ ss) = table.both s (sums ss)

pub fold-sums : (a : Summary) (ss : List Summary) → fold table.both a ss ≡ table.both a (sums ss)
fold-sums a [] = sym (both-none a)
fold-sums a (s ∷ ss) = fold-sums (table.both a s) ss ∙ both-assoc a s (sums ss)

-- one file, at a path
abbrev pub path_summary : Path → Summary
path_summary p = record { files = 1; depth = length p; longest = length (joined p) }

pub files-first : (p : Path) (e : Entry) (fs : Listed)
    → files_summary ((p, e) ∷ fs) ≡ table.both (path_summary p) (files_summary fs)
files-first p e fs = same_summary _ _ (omega arith) refl refl

-- what a group adds
abbrev pub group_sum : Bytes × Listed → Summary
group_sum (c, []) = table.no_files
group_sum (c, (([], e) ∷ fs)) = table.one_file c
group_sum (c, (((d ∷ q), e) ∷ fs)) = table.below c (files_summary (((d ∷ q), e) ∷ fs))

abbrev groups_sum : Groups → Summary
groups_sum gs = sums (map group_sum gs)

below-some : (c : Bytes) (f : Path × Entry) (fs : Listed)
    → table.below c (files_summary (f ∷ fs)) ≡ record { files = suc (length fs); depth = 1 + depth_of (f ∷ fs); longest = length c + 1 + longest_of (f ∷ fs) }
below-some c f fs = rw (ne_eqb (suc (length fs)) 0 (λ e. cc e)) refl

-- one file below a name
pub below-one : (c : Bytes) (d : Bytes) (q : Path) (e : Entry)
    → table.below c (files_summary (((d ∷ q), e) ∷ [])) ≡ path_summary (c ∷ d ∷ q)
below-one c d q e =
    below-some c ((d ∷ q), e) []
    ∙
    (let n = length-append c (47 ∷ joined (d ∷ q)) in same_summary _ _ refl (omega arith) (omega arith))

-- and beside others
pub below-more : (c : Bytes) (d : Bytes) (q : Path) (e : Entry) (f : Path × Entry) (fs : Listed)
    → table.below c (files_summary (((d ∷ q), e) ∷ f ∷ fs)) ≡ table.both (path_summary (c ∷ d ∷ q)) (table.below c (files_summary (f ∷ fs)))
below-more c d q e f fs =
    below-some c ((d ∷ q), e) (f ∷ fs)
    ∙
    (let n = length-append c (47 ∷ joined (d ∷ q)) in same_summary _ _ (omega arith) (omega arith) (omega arith))
    ∙ ap (table.both (path_summary (c ∷ d ∷ q))) (sym (below-some c f fs))

-- a group that a file joins has no file at its name, nor has the file
abbrev Joins : Path → Bytes × Listed → Type 0
Joins q (c, []) = ⊥
Joins q (c, (([], e) ∷ fs)) = ⊥
Joins [] (c, (((d ∷ r), e) ∷ fs)) = ⊥
Joins (x ∷ q) (c, (((d ∷ r), e) ∷ fs)) = Unit {0}

joined-sum : (c : Bytes) (q : Path) (e : Entry) (g : Bytes × Listed) → c ≡ g.0 → Joins q g
    → group_sum (c, (q, e) ∷ g.1) ≡ table.both (path_summary (c ∷ q)) (group_sum g)
joined-sum c q e (d, []) same j = absurd j
joined-sum c q e (d, (([], f) ∷ fs)) same j = absurd j
joined-sum c [] e (d, (((x ∷ r), f) ∷ fs)) same j = absurd j
joined-sum c (y ∷ q) e (d, (((x ∷ r), f) ∷ fs)) same j =
    below-more c y q e ((x ∷ r), f) fs
    ∙ ap
    (λ (n : Bytes). table.both (path_summary (c ∷ y ∷ q)) (table.below n (files_summary (((x ∷ r), f) ∷ fs)))) same

one-sum : (c : Bytes) (q : Path) (e : Entry) → group_sum (c, (q, e) ∷ []) ≡ path_summary (c ∷ q)
one-sum c [] e = refl
one-sum c (d ∷ q) e = below-one c d q e

goes_join : (c : Bytes) (q : Path) (g : Bytes × Listed) → c ≡ g.0
    → OfFirst (λ p. is_apart (c ∷ q) p ≡ true) g → Joins q g
goes_join c q (d, []) same a = absurd a
goes_join c q (d, (([], f) ∷ fs)) same a =
    let b = sym (is_apart-below (c ∷ []) q [])
    ∙ subst (λ (x : Bytes). is_apart (c ∷ q) (x ∷ []) ≡ true) (sym same) a in
    absurd (false≢true (sym (is_apart-symmetric q []) ∙ b))
goes_join c [] (d, (((x ∷ r), f) ∷ fs)) same a =
    let b = sym (is_apart-below (c ∷ []) [] (x ∷ r))
    ∙ subst (λ (y : Bytes). is_apart (c ∷ []) (y ∷ x ∷ r) ≡ true) (sym same) a in
    absurd (false≢true b)
goes_join c (y ∷ q) (d, (((x ∷ r), f) ∷ fs)) same a = tt

add-sum : (c : Bytes) (q : Path) (e : Entry) (gs : Groups)
    → AllByRecursion (OfFirst (λ p. is_apart (c ∷ q) p ≡ true)) gs
    → groups_sum (add_file c (q, e) gs) ≡ table.both (path_summary (c ∷ q)) (groups_sum gs)
add-sum c q e [] h = ap (λ (s : Summary). table.both s table.no_files) (one-sum c q e)
add-sum c q e (g ∷ gs) h =
    by_cases (bytes_eq c g.0)
    (λ yea. let same = (bytes_eq-Decides c g.0).0 yea in
    rw yea
    (ap (λ (s : Summary). table.both s (groups_sum gs)) (joined-sum c q e g same (goes_join c q g same h.0))
    ∙ both-assoc (path_summary (c ∷ q)) (group_sum g) (groups_sum gs)))
    (λ nay. rw nay (ap (λ (s : Summary). table.both s (table.both (group_sum g) (groups_sum gs))) (one-sum c q e)))

pub groups-sum : (fs : Listed) → AllByRecursion (λ f. f.0 ≢ []) fs → ArePairwiseApart fs
    → groups_sum (grouped fs) ≡ files_summary fs
groups-sum [] ne a = refl
groups-sum (([], e) ∷ fs) ne a = absurd (ne.0 refl)
groups-sum (((c ∷ q), e) ∷ fs) ne a =
    add-sum c q e (grouped fs) (grouped-first (λ p. is_apart (c ∷ q) p ≡ true) fs a.0)
    ∙ ap (table.both (path_summary (c ∷ q))) (groups-sum fs ne.1 a.1)
    ∙ sym (files-first (c ∷ q) e fs)

-- ---- of entries

pub by_file : (m : FileMode) (s t : Summary) → m ≢ mode.Directory → table.by_mode m s t ≡ t
by_file mode.Regular s t ne = refl
by_file mode.Executable s t ne = refl
by_file mode.Symlink s t ne = refl
by_file mode.Gitlink s t ne = refl
by_file mode.Directory s t ne = absurd (ne refl)

module _ (digest : List ℕ → List ℕ) (deep : ℕ) where
  -- a directory's tree stands in the table with the summary of its files
  abbrev pub IsKnown : Entries → Bytes × Listed → Type 0
  IsKnown held g =
      file_of g.1 ≡ None → summary_of (tree_name digest (entries_within digest deep g.1)) held ≡ Some (files_summary g.1)

  module _ (bound : ℕ) (held : Entries) where
    entry-sum : (g : Bytes × Listed) → IsGroup bound g → IsKnown held g
        → table.entry_summary held (direct_of digest deep g) ≡ group_sum g
    entry-sum (c, []) h k = absurd h
    entry-sum (c, (([], e) ∷ fs)) h k = by_file e.mode _ (table.one_file c) h.mode
    entry-sum (c, (((d ∷ q), e) ∷ fs)) h k =
        ap (λ (o : Option Summary). table.below c (unwrap_or o table.no_files)) (k refl)

    entries-sum : (gs : Groups) → AllByRecursion (IsGroup bound) gs
        → AllByRecursion (IsKnown held) gs
        → map (table.entry_summary held) (map (direct_of digest deep) gs) ≡ map group_sum gs
    entries-sum [] h k = refl
    entries-sum (g ∷ gs) h k =
        let one = entry-sum g h.0 k.0 in let rest = entries-sum gs h.1 k.1 in λ i. one i ∷ rest i

    stand : (gs : Groups) → AllByRecursion (IsGroup bound) gs → AllByRecursion (IsKnown held) gs
        → AllByRecursion (table.DirectoryStands held) (map (direct_of digest deep) gs)
    stand [] h k = tt
    stand (g ∷ gs) h k = (one g h.0 k.0, stand gs h.1 k.1)
      where
        one : (x : Bytes × Listed) → IsGroup bound x → IsKnown held x
            → table.DirectoryStands held (direct_of digest deep x)
        one (c, []) a b = absurd a
        one (c, (([], e) ∷ fs)) a b = λ is. absurd (a.mode is)
        one (c, (((d ∷ q), e) ∷ fs)) a b =
            λ is. subst (λ (o : Option Summary). IsSomeAnd o (λ s. s.files ≢ 0)) (sym (b refl)) (λ none. cc none)

    -- the contents are those of a tree whose directories stand in the table
    pub is-tree : (fs : Listed) (bytes : List ℕ) → bound ≡ depth_of fs → AreStorable fs
        → AllByRecursion (IsKnown held) (grouped fs)
        → AllByRecursion (λ e. IsObjectName e.id) (map (direct_of digest deep) (grouped fs))
        → bytes ≡ tree_contents (map (direct_of digest deep) (grouped fs))
        → table.IsTreeOf held bytes (files_summary fs) (map (direct_of digest deep) (grouped fs))
    is-tree fs bytes is h known ids contents =
        let groups = subst (λ (n : ℕ). AllByRecursion (IsGroup n) (grouped fs)) (sym is) (groups-are fs h) in record {
          writable =
              can_write_tree digest deep bound (grouped fs) groups
              (groups-rise fs (all-weaker IsFile (λ f. IsPath f.0) (λ f k. k.path) fs h.each) h.in_order h.apart) ids;
          contents = contents;
          directories =
              All-from_recursion (table.DirectoryStands held)
              (map (direct_of digest deep) (grouped fs)) (stand (grouped fs) groups known);
          sums =
              sym
              (groups-sum fs (all-weaker IsFile (λ f. f.0 ≢ []) (λ f k. k.below_the_root) fs h.each) h.apart)
              ∙ sym (none-both (groups_sum (grouped fs)))
              ∙ sym (fold-sums table.no_files (map group_sum (grouped fs)))
              ∙ ap (fold table.both table.no_files) (sym (entries-sum (grouped fs) groups known));
          within = storable-within fs h;
        }

    -- so they fit it
    pub fits-tree : (fs : Listed) (bytes : List ℕ) → bound ≡ depth_of fs → AreStorable fs
        → AllByRecursion (IsKnown held) (grouped fs)
        → AllByRecursion (λ e. IsObjectName e.id) (map (direct_of digest deep) (grouped fs))
        → bytes ≡ tree_contents (map (direct_of digest deep) (grouped fs))
        → table.FitsTree held bytes (files_summary fs)
    fits-tree fs bytes is h known ids contents =
        (map (direct_of digest deep) (grouped fs), is-tree fs bytes is h known ids contents)
