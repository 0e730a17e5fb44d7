-- Paths that stand apart.
use Rattle.std.proofs.Common.{◌≡◌, ℕ, Bool, true, false, not, ◌&&◌, is_some, List, [], ◌∷◌, ◌++◌}
use Rattle.std.proofs.Common.{map, filter, Option, Some, None, refl, sym, ap, ◌∙◌, subst}
use Rattle.std.proofs.lemmas.Bool.{true≢false, false≢true}
use Rattle.std.proofs.lemmas.List.{append-nil}
use Rattle.std.specs.List.{AllByRecursion}
use Rattle.std.specs.Str.{bytes_eq}
use Rattle.std.proofs.lemmas.Slice.Eq.{bytes_eq-Decides}
use Rattle.git_paths.specs.Paths.{strip_prefix}
use Rattle.git_paths.proofs.Cases.{by_cases}
use Rattle.git_paths.proofs.Below.{strip_prefix-append, after_some}
use Rattle.file_maps.specs.declared.entry.Entry.{Entry}
use Rattle.file_maps.specs.FileMap.{Path, Listed, is_apart, ArePairwiseApart}
use Rattle.file_maps.specs.Edits.{cut, cut_one, moved}

pub both_true : (a b : Bool) → (a && b) ≡ true → (a ≡ true) × (b ≡ true)
both_true true b h = (refl, h)
both_true false b h = absurd (false≢true h)

pub from_both : (a b : Bool) → a ≡ true → b ≡ true → (a && b) ≡ true
from_both true b p q = q
from_both false b p q = p

swapped : (a b : Bool) → (a && b) ≡ (b && a)
swapped true true = refl
swapped true false = refl
swapped false true = refl
swapped false false = refl

pub is_apart-symmetric : (p q : Path) → is_apart p q ≡ is_apart q p
is_apart-symmetric p q = swapped (not (is_some (strip_prefix p q))) (not (is_some (strip_prefix q p)))

-- a path stands not apart from itself
pub not_apart_itself : (p : Path) → is_apart p p ≡ true → ⊥
not_apart_itself p h =
    let here : strip_prefix p p ≡ Some [] = ap (strip_prefix p) (sym (append-nil p)) ∙ strip_prefix-append p [] in
    let no : false ≡ true = ap (λ (o : Option Path). not (is_some o) && not (is_some o)) (sym here)
    ∙ h in
    false≢true no

strip_prefix-both : (c : List ℕ) (p q : Path) → strip_prefix (c ∷ p) (c ∷ q) ≡ strip_prefix p q
strip_prefix-both c p q = rw ((bytes_eq-Decides c c).1 refl) refl

-- the same path before both changes nothing
pub is_apart-below : (p a b : Path) → is_apart (p ++ a) (p ++ b) ≡ is_apart a b
is_apart-below [] a b = refl
is_apart-below (c ∷ p) a b =
    ap
    (λ (o : Option Path). not (is_some o) && not (is_some (strip_prefix (c ∷ (p ++ b)) (c ∷ (p ++ a)))))
    (strip_prefix-both c (p ++ a) (p ++ b))
    ∙ ap (λ (o : Option Path). not (is_some (strip_prefix (p ++ a) (p ++ b))) && not (is_some o))
    (strip_prefix-both c (p ++ b) (p ++ a))
    ∙ is_apart-below p a b

-- what stands apart from a path stands apart from all below it
pub apart_below : (p a q : Path) → is_apart p q ≡ true → is_apart (p ++ a) q ≡ true
apart_below [] a q h = absurd (false≢true h)
apart_below (c ∷ p) a [] h = absurd (false≢true h)
apart_below (c ∷ p) a (d ∷ q) h =
    by_cases (bytes_eq c d)
    (λ yea. let same = (bytes_eq-Decides c d).0 yea in
    subst (λ (x : List ℕ). is_apart ((c ∷ p) ++ a) (x ∷ q) ≡ true) same
    (is_apart-below (c ∷ []) (p ++ a) q ∙ apart_below p a q (sym (is_apart-below (c ∷ []) p q) ∙ subst (λ (x : List ℕ). is_apart (c ∷ p) (x ∷ q) ≡ true) (sym same) h)))
    (λ nay. let other : bytes_eq d c ≡ false = differ d c c d nay in rw (nay, other) refl)
  where
    differ : (d c x y : List ℕ) → bytes_eq c d ≡ false → bytes_eq d c ≡ false
    differ d c x y nay =
        by_cases (bytes_eq d c)
        (λ yea. absurd (true≢false (sym ((bytes_eq-Decides c d).1 (sym ((bytes_eq-Decides d c).0 yea))) ∙ nay)))
        (λ no. no)

-- ---- what is cut from files and put elsewhere

-- what holds of all files holds of those that are cut out, with the path before them
cut_one-all : (P : Path × Entry → Type 0) (top q : Path) (e : Entry) (o : Option Path)
    → strip_prefix top q ≡ o → (fs : Listed) → P (q, e)
    → AllByRecursion (λ g. P (top ++ g.0, g.1)) fs
    → AllByRecursion (λ g. P (top ++ g.0, g.1)) (cut_one o e fs)
cut_one-all P top q e (Some r) is fs h rest =
    (subst (λ (x : Path). P (x, e)) (after_some top q r is) h, rest)
cut_one-all P top q e None is fs h rest = rest

pub cut-all : (P : Path × Entry → Type 0) (top : Path) (fs : Listed) → AllByRecursion P fs
    → AllByRecursion (λ g. P (top ++ g.0, g.1)) (cut top fs)
cut-all P top [] h = tt
cut-all P top (f ∷ fs) h =
    cut_one-all P top f.0 f.1 (strip_prefix top f.0) refl (cut top fs) h.0 (cut-all P top fs h.1)

pub all-map : {A B : Type 0} (g : A → B) (P : B → Type 0) (xs : List A)
    → AllByRecursion (λ x. P (g x)) xs → AllByRecursion P (map g xs)
all-map g P [] h = tt
all-map g P (x ∷ xs) h = (h.0, all-map g P xs h.1)

pub all-weaker : {A : Type 0} (P Q : A → Type 0) → ((x : A) → P x → Q x) → (xs : List A)
    → AllByRecursion P xs → AllByRecursion Q xs
all-weaker P Q w [] h = tt
all-weaker P Q w (x ∷ xs) h = (w x h.0, all-weaker P Q w xs h.1)

pub all-both : {A : Type 0} (P Q : A → Type 0) (xs : List A) → AllByRecursion P xs
    → AllByRecursion Q xs → AllByRecursion (λ x. P x × Q x) xs
all-both P Q [] h k = tt
all-both P Q (x ∷ xs) h k = ((h.0, k.0), all-both P Q xs h.1 k.1)

pub all-filter : {A : Type 0} (P : A → Type 0) (t : A → Bool) (xs : List A) → AllByRecursion P xs
    → AllByRecursion P (filter t xs)
all-filter P t [] h = tt
all-filter P t (x ∷ xs) h =
    by_cases (t x) (λ yea. rw yea (h.0, all-filter P t xs h.1))
    (λ nay. rw nay (all-filter P t xs h.1))

pub filter-all : {A : Type 0} (t : A → Bool) (xs : List A)
    → AllByRecursion (λ x. t x ≡ true) (filter t xs)
filter-all t [] = tt
filter-all t (x ∷ xs) =
    by_cases (t x) (λ yea. rw yea (yea, filter-all t xs)) (λ nay. rw nay (filter-all t xs))

pub apart-filter : (t : Path × Entry → Bool) (fs : Listed) → ArePairwiseApart fs
    → ArePairwiseApart (filter t fs)
apart-filter t [] h = tt
apart-filter t (f ∷ fs) h =
    by_cases (t f)
    (λ yea. rw yea (all-filter (λ (g : Path × Entry). is_apart f.0 g.0 ≡ true) t fs h.0, apart-filter t fs h.1))
    (λ nay. rw nay (apart-filter t fs h.1))

-- what is cut out of files that stand pairwise apart stands so, and after any path too
cut_one-apart : (top to q : Path) (e : Entry) (o : Option Path) → strip_prefix top q ≡ o → (fs : Listed)
    → AllByRecursion (λ g. is_apart q (top ++ g.0) ≡ true) fs → ArePairwiseApart (moved to fs)
    → ArePairwiseApart (moved to (cut_one o e fs))
cut_one-apart top to q e (Some r) is fs h rest = (
  all-map (λ (g : Path × Entry). (to ++ g.0, g.1))
      (λ (g : Path × Entry). is_apart (to ++ r) g.0 ≡ true) fs
      (all-weaker (λ (g : Path × Entry). is_apart q (top ++ g.0) ≡ true) (λ (g : Path × Entry). is_apart (to ++ r) (to ++ g.0) ≡ true)
      (λ g a. is_apart-below to r g.0 ∙ sym (is_apart-below top r g.0) ∙ subst (λ (x : Path). is_apart x (top ++ g.0) ≡ true) (after_some top q r is) a) fs h),
  rest,
)
cut_one-apart top to q e None is fs h rest = rest

pub moved-apart : (top to : Path) (fs : Listed) → ArePairwiseApart fs
    → ArePairwiseApart (moved to (cut top fs))
moved-apart top to [] h = tt
moved-apart top to (f ∷ fs) h =
    cut_one-apart top to f.0 f.1 (strip_prefix top f.0) refl (cut top fs)
    (cut-all (λ (g : Path × Entry). is_apart f.0 g.0 ≡ true) top fs h.0) (moved-apart top to fs h.1)
