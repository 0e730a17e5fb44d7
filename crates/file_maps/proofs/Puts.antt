-- Files put among files that stand in order.
use Rattle.std.proofs.Common.{◌≡◌, ◌+◌, ◌≤◌, Bool, true, false, T, cond, is_some, List, [], ◌∷◌}
use Rattle.std.proofs.Common.{length, filter, Option, None, refl, sym, ap, ◌∙◌, subst, arith}
use Rattle.std.specs.List.{AllByRecursion}
use Rattle.std.specs.Ordering.{eq_by_cmp, is_eq}
use Rattle.std.specs.declared.cmp.Ordering.{Ordering}
use Rattle.std.specs.declared.cmp.Ordering.TheVariants.{Less, Equal, Greater}
use Rattle.std.specs.FinMap.Entries.{put, find, is_sorted, by_order, is_sorted-put}
use Rattle.std.specs.FinMap.Entries.{is_sorted-where_key, length-put}
use Rattle.git_paths.specs.Order.{path_cmp, path_cmp-total, path_cmp-IsAntisymmetric}
use Rattle.git_paths.proofs.Cases.{by_cases}
use Rattle.file_maps.specs.declared.entry.Entry.{Entry}
use Rattle.file_maps.specs.declared.check.TheConstants.{FILES_LIMIT}
use Rattle.file_maps.specs.FileMap.{Path, Listed, is_apart, ArePairwiseApart, IsFile, AreFiles}
use Rattle.file_maps.specs.Kept.{put_all}
use Rattle.file_maps.proofs.Apart.{is_apart-symmetric, not_apart_itself, all-filter, apart-filter}

pub T-true : (b : Bool) → T b → b ≡ true
T-true true h = refl
T-true false h = absurd h

pub true-T : (b : Bool) → b ≡ true → T b
true-T b e = subst T (sym e) tt

equal : (r : Ordering) → is_eq r ≡ true → r ≡ Equal
equal Less e = cc
equal Equal e = refl
equal Greater e = cc

-- what holds of a file and of others holds of all of them
pub all-put : (P : Path × Entry → Type 0) (p : Path) (e : Entry) (fs : Listed) → P (p, e)
    → AllByRecursion P fs → AllByRecursion P (put path_cmp p e fs)
all-put P p e [] h rest = (h, tt)
all-put P p e (f ∷ fs) h rest =
    elim (path_cmp p f.0) as (λ r. path_cmp p f.0 ≡ r → AllByRecursion P (by_order r ((p, e) ∷ f ∷ fs) ((f.0, e) ∷ fs) (f ∷ put path_cmp p e fs))) [
      | Less ↦ λ is. (h, rest)
      | Equal ↦ λ is. (subst (λ (x : Path). P (x, e)) (path_cmp-IsAntisymmetric p f.0 is) h, rest.1)
      | Greater ↦ λ is. (rest.0, all-put P p e fs h rest.1)
    ] refl

pub all-put_all : (P : Path × Entry → Type 0) (held files : Listed) → AllByRecursion P held
    → AllByRecursion P files → AllByRecursion P (put_all held files)
all-put_all P held [] h k = h
all-put_all P held (f ∷ files) h k =
    all-put P f.0 f.1 (put_all held files) k.0 (all-put_all P held files h k.1)

apart-put : (p : Path) (e : Entry) (fs : Listed) → AllByRecursion (λ g. is_apart p g.0 ≡ true) fs
    → ArePairwiseApart fs → ArePairwiseApart (put path_cmp p e fs)
apart-put p e [] h rest = (tt, tt)
apart-put p e (f ∷ fs) h rest =
    elim (path_cmp p f.0) as (λ r. ArePairwiseApart (by_order r ((p, e) ∷ f ∷ fs) ((f.0, e) ∷ fs) (f ∷ put path_cmp p e fs))) [
      | Less ↦ (h, rest)
      | Equal ↦ rest
      | Greater ↦ (
        all-put (λ (g : Path × Entry). is_apart f.0 g.0 ≡ true) p e fs
            (is_apart-symmetric f.0 p ∙ h.0) rest.0,
        apart-put p e fs h.1 rest.1,
      )
    ]

-- nothing is found of a path that stands apart from all
none_apart : (p : Path) (fs : Listed) → AllByRecursion (λ g. is_apart p g.0 ≡ true) fs
    → find path_cmp p fs ≡ None
none_apart p [] h = refl
none_apart p (f ∷ fs) h =
    by_cases (eq_by_cmp path_cmp p f.0)
    (λ yea. let same = path_cmp-IsAntisymmetric p f.0 (equal (path_cmp p f.0) yea) in absurd (not_apart_itself p (subst (λ (x : Path). is_apart p x ≡ true) (sym same) h.0)))
    (λ nay. rw nay (none_apart p fs h.1))

-- Files that may be put: each stands apart from those that are held, and from each other.
pub record MayPut (held files : Listed) : Type 0 where
  pub outside : AllByRecursion (λ f. AllByRecursion (λ g. is_apart f.0 g.0 ≡ true) held) files
  pub apart : ArePairwiseApart files

pub sorted-put_all : (held files : Listed) → T (is_sorted path_cmp held)
    → T (is_sorted path_cmp (put_all held files))
sorted-put_all held [] h = h
sorted-put_all held (f ∷ files) h =
    is_sorted-put path_cmp path_cmp-total f.0 f.1 (put_all held files) (sorted-put_all held files h)

apart_from_all : (held files : Listed) (p : Path) → AllByRecursion (λ g. is_apart p g.0 ≡ true) held
    → AllByRecursion (λ g. is_apart p g.0 ≡ true) files
    → AllByRecursion (λ g. is_apart p g.0 ≡ true) (put_all held files)
apart_from_all held files p h k =
    all-put_all (λ (g : Path × Entry). is_apart p g.0 ≡ true) held files h k

pub apart-put_all : (held files : Listed) → MayPut held files → ArePairwiseApart held
    → ArePairwiseApart (put_all held files)
apart-put_all held [] may h = h
apart-put_all held (f ∷ files) may h =
    apart-put f.0 f.1 (put_all held files) (apart_from_all held files f.0 may.outside.0 may.apart.0)
    (apart-put_all held files (record { outside = may.outside.1; apart = may.apart.1 }) h)

pub length-put_all : (held files : Listed) → MayPut held files → T (is_sorted path_cmp held)
    → length (put_all held files) ≡ length held + length files
length-put_all held [] may h = omega arith
length-put_all held (f ∷ files) may h =
    let rest = length-put_all held files (record { outside = may.outside.1; apart = may.apart.1 }) h in
    let none = none_apart f.0 (put_all held files) (apart_from_all held files f.0 may.outside.0 may.apart.0) in
    let one = length-put path_cmp path_cmp-total f.0 f.1 (put_all held files) (sorted-put_all held files h) in
    let more : length (put path_cmp f.0 f.1 (put_all held files)) ≡ length (put_all held files) + 1 = one
    ∙ ap
    (λ (o : Option Entry). cond (is_some o) (length (put_all held files)) (length (put_all held files) + 1)) none in
    omega arith

pub AreFiles-put_all : (held files : Listed) → AreFiles held → MayPut held files
    → AllByRecursion IsFile files → length held + length files ≤ FILES_LIMIT
    → AreFiles (put_all held files)
AreFiles-put_all held files h may each few = record {
  in_order = T-true _ (sorted-put_all held files (true-T _ h.in_order));
  each = all-put_all IsFile held files h.each each;
  apart = apart-put_all held files may h.apart;
  few = let n = length-put_all held files may (true-T _ h.in_order) in omega arith;
}

pub length-filter-le : {A : Type 0} (t : A → Bool) (xs : List A) → length (filter t xs) ≤ length xs
length-filter-le t [] = omega arith
length-filter-le t (x ∷ xs) =
    let n = length-filter-le t xs in by_cases (t x) (λ yea. rw yea (omega arith)) (λ nay. rw nay (omega arith))

pub AreFiles-filter : (t : Path → Bool) (fs : Listed) → AreFiles fs
    → AreFiles (filter (λ f. t f.0) fs)
AreFiles-filter t fs h = record {
  in_order = T-true _ (is_sorted-where_key path_cmp t fs (true-T _ h.in_order));
  each = all-filter IsFile (λ f. t f.0) fs h.each;
  apart = apart-filter (λ f. t f.0) fs h.apart;
  few = let n = length-filter-le (λ (f : Path × Entry). t f.0) fs in let m = h.few in omega arith;
}

pub AreFiles-nil : (fs : Listed) → fs ≡ [] → AreFiles fs
AreFiles-nil fs e =
    subst AreFiles (sym e) (record { in_order = refl; each = tt; apart = tt; few = omega arith })
