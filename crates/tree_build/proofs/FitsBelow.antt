-- The summary of files decides whether their paths are within the limits below another path.
use Rattle.std.proofs.Common.{◌≡◌, ◌≢◌, ℕ, zero, suc, ◌+◌, ◌≤◌, max, Bool, true, false, ◌&&◌, List, [], ◌∷◌, ◌++◌, length, refl, sym, ap, ◌∙◌, arith}
use Rattle.std.specs.Prelude.{nat_le}
use Rattle.std.proofs.lemmas.Bool.{le-leb, leb-true}
use Rattle.std.proofs.lemmas.List.{length-append, append-nil}
use Rattle.std.specs.List.{AllByRecursion, list_all}
use Rattle.git_paths.specs.Paths.{joined, is_within_limits}
use Rattle.tenant_tables.specs.declared.summary.Summary.{Summary}
use Rattle.file_maps.specs.declared.entry.Entry.{Entry}
use Rattle.file_maps.specs.FileMap.{Path, Listed}
use Rattle.file_maps.specs.Edits.{moved}
use Rattle.file_maps.specs.Storable.{files_summary}
use Rattle.tree_build.specs.Moving.{slash_between, fits_below}

-- two tests that pass together
same_test : (a b : Bool) → (a ≡ true → b ≡ true) → (b ≡ true → a ≡ true) → a ≡ b
same_test true b f g = sym (f refl)
same_test false true f g = g refl
same_test false false f g = refl

both-true : (a b : Bool) → a && b ≡ true → (a ≡ true) × (b ≡ true)
both-true true b h = (refl, h)
both-true false b h = cc h

all-true : (a b : Bool) → a ≡ true → b ≡ true → a && b ≡ true
all-true a b p q = rw (p, q) refl

-- so many bytes and components
abbrev Few : ℕ → ℕ → Bool
Few bytes components = nat_le bytes 16383 && nat_le components 256

few-max : (a b c d : ℕ) → Few a c && Few b d ≡ Few (max a b) (max c d)
few-max a b c d = same_test (Few a c && Few b d) (Few (max a b) (max c d))
    (λ h. let x = both-true (Few a c) (Few b d) h in
    let y = both-true (nat_le a 16383) (nat_le c 256) x.0 in
    let z = both-true (nat_le b 16383) (nat_le d 256) x.1 in
    let i : a ≤ 16383 = leb-true a 16383 y.0 in
    let j : c ≤ 256 = leb-true c 256 y.1 in
    let k : b ≤ 16383 = leb-true b 16383 z.0 in
    let l : d ≤ 256 = leb-true d 256 z.1 in
    all-true (nat_le (max a b) 16383) (nat_le (max c d) 256) (le-leb (max a b) 16383 (omega arith))
    (le-leb (max c d) 256 (omega arith)))
    (λ h. let x = both-true (nat_le (max a b) 16383) (nat_le (max c d) 256) h in
    let i : max a b ≤ 16383 = leb-true (max a b) 16383 x.0 in
    let j : max c d ≤ 256 = leb-true (max c d) 256 x.1 in
    all-true (Few a c) (Few b d)
    (all-true (nat_le a 16383) (nat_le c 256) (le-leb a 16383 (omega arith))
    (le-leb c 256 (omega arith)))
    (all-true (nat_le b 16383) (nat_le d 256) (le-leb b 16383 (omega arith))
    (le-leb d 256 (omega arith))))

-- the bytes of a path below another
abbrev slash : Path → ℕ
slash [] = 0
slash (c ∷ p) = 1

pub joined-below : (p : Path) (d : List ℕ) (q : Path)
    → length (joined (p ++ d ∷ q)) ≡ length (joined p) + slash p + length (joined (d ∷ q))
joined-below [] d q = omega arith
joined-below (c ∷ []) d q = let n = length-append c (47 ∷ joined (d ∷ q)) in omega arith
joined-below (c ∷ x ∷ p) d q =
    let rest = joined-below (x ∷ p) d q in
    let a = length-append c (47 ∷ joined (x ∷ p ++ d ∷ q)) in
    let b = length-append c (47 ∷ joined (x ∷ p)) in omega arith

one-below : (p : Path) (d : List ℕ) (q : Path) → is_within_limits (p ++ d ∷ q)
    ≡ Few (length (joined p) + slash p + length (joined (d ∷ q))) (length p + length (d ∷ q))
one-below p d q =
    let bytes = joined-below p d q in
    let components = length-append p (d ∷ q) in
    rw (bytes, components) refl

-- directories
abbrev few_of : Path → Summary → Bool
few_of p s = Few (length (joined p) + slash p + s.longest) (length p + s.depth)

some-below : (p : Path) (f : Path × Entry) (fs : Listed) → AllByRecursion (λ g. g.0 ≢ []) (f ∷ fs)
    → list_all (λ g. is_within_limits g.0) (moved p (f ∷ fs)) ≡ few_of p (files_summary (f ∷ fs))
some-below p ([], e) fs h = absurd (h.0 refl)
some-below p ((d ∷ q), e) [] h = last (is_within_limits (p ++ d ∷ q)) ∙ one-below p d q ∙ flat
  where
    last : (b : Bool) → b && true ≡ b
    last true = refl
    last false = refl

    flat : Few (length (joined p) + slash p + length (joined (d ∷ q))) (length p + length (d ∷ q))
        ≡ few_of p (files_summary (((d ∷ q), e) ∷ []))
    flat =
        let a : length (joined p) + slash p + length (joined (d ∷ q))
        ≡ length (joined p) + slash p + max (length (joined (d ∷ q))) 0 = omega arith in
        let b : length p + length (d ∷ q) ≡ length p + max (length (d ∷ q)) 0 = omega arith in
        λ i. Few (a i) (b i)
some-below p ((d ∷ q), e) (f ∷ fs) h =
    let rest = some-below p f fs h.1 in
    let s = files_summary (f ∷ fs) in
    ap (λ (b : Bool). b && list_all (λ g. is_within_limits g.0) (moved p (f ∷ fs)))
    (one-below p d q)
    ∙ ap (λ (b : Bool). Few (length (joined p) + slash p + length (joined (d ∷ q)))
    (length p + length (d ∷ q)) && b) rest
    ∙ few-max (length (joined p) + slash p + length (joined (d ∷ q)))
    (length (joined p) + slash p + s.longest)
    (length p + length (d ∷ q)) (length p + s.depth)
    ∙ both s.longest s.depth
  where
    both : (l m : ℕ)
        → Few (max (length (joined p) + slash p + length (joined (d ∷ q)))
        (length (joined p) + slash p + l)) (max (length p + length (d ∷ q)) (length p + m))
        ≡ Few (length (joined p) + slash p + max (length (joined (d ∷ q))) l)
        (length p + max (length (d ∷ q)) m)
    both l m =
        let a : max (length (joined p) + slash p + length (joined (d ∷ q)))
        (length (joined p) + slash p + l)
        ≡ length (joined p) + slash p + max (length (joined (d ∷ q))) l = omega arith in
        let b : max (length p + length (d ∷ q)) (length p + m)
        ≡ length p + max (length (d ∷ q)) m = omega arith in
        λ i. Few (a i) (b i)

slash-deep : (p : Path) (n : ℕ) → n ≢ 0 → slash_between p n ≡ slash p
slash-deep [] n ne = refl
slash-deep (c ∷ p) n ne = by n ne
  where
    by : (n : ℕ) → n ≢ 0 → slash_between (c ∷ p) n ≡ 1
    by zero ne = absurd (ne refl)
    by (suc n) ne = refl

-- the files of a directory
pub dir-fits : (p : Path) (fs : Listed) → fs ≢ [] → AllByRecursion (λ g. g.0 ≢ []) fs
    → list_all (λ g. is_within_limits g.0) (moved p fs) ≡ fits_below p (files_summary fs)
dir-fits p [] some h = absurd (some refl)
dir-fits p (([], e) ∷ fs) some h = absurd (h.0 refl)
dir-fits p (((d ∷ q), e) ∷ fs) some h =
    let s = files_summary (((d ∷ q), e) ∷ fs) in
    some-below p ((d ∷ q), e) fs h
    ∙ ap (λ (n : ℕ). Few (length (joined p) + n + s.longest) (length p + s.depth))
    (sym (slash-deep p s.depth (λ z. absurd (omega arith))))

-- one file
pub file-fits : (p : Path) (e : Entry)
    → list_all (λ g. is_within_limits g.0) (moved p (([], e) ∷ []))
    ≡ fits_below p (files_summary (([], e) ∷ []))
file-fits p e =
    let same : is_within_limits (p ++ []) ≡ is_within_limits p = ap is_within_limits
    (append-nil p) in
    rw same (last (is_within_limits p) ∙ flat p)
  where
    last : (b : Bool) → b && true ≡ b
    last true = refl
    last false = refl

    none_between : (p : Path) → slash_between p 0 ≡ 0
    none_between [] = refl
    none_between (c ∷ p) = refl

    flat : (p : Path) → is_within_limits p ≡ fits_below p (files_summary (([], e) ∷ []))
    flat p =
        let z = none_between p in
        let a : length (joined p) ≡ length (joined p) + slash_between p 0 + 0 = omega arith in
        let b : length p ≡ length p + 0 = omega arith in
        λ i. Few (a i) (b i)
