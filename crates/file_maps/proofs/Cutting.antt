-- The files of a map below a directory are storable.
use Rattle.std.proofs.Common.{◌≡◌, ◌≢◌, ℕ, suc, ◌≤◌, true, List, [], ◌∷◌, ◌++◌, length, Option}
use Rattle.std.proofs.Common.{Some, None, refl, sym, ap, ◌∙◌, subst, arith}
use Rattle.std.specs.List.{AllByRecursion}
use Rattle.std.specs.Ordering.{nat_cmp, is_lt, ordering_then}
use Rattle.std.specs.Cmp.Lexicographic.{slice_cmp}
use Rattle.std.specs.FinMap.{is_sorted, slice_cmp-IsAntisymmetric, nat_cmp-IsAntisymmetric}
use Rattle.std.specs.FinMap.Entries.{below_all}
use Rattle.std.specs.declared.cmp.Ordering.{Ordering}
use Rattle.std.specs.declared.cmp.Ordering.TheVariants.{Less, Equal, Greater}
use Rattle.git_paths.specs.Order.{path_cmp}
use Rattle.git_paths.specs.Paths.{IsPath, joined, components_of, strip_prefix}
use Rattle.git_paths.proofs.Joined.{components_of-joined}
use Rattle.git_paths.proofs.Below.{after_some}
use Rattle.file_maps.specs.declared.entry.Entry.{Entry}
use Rattle.file_maps.specs.FileMap.{Path, Listed, is_apart, ArePairwiseApart, IsFile, AreFiles}
use Rattle.file_maps.specs.Edits.{cut, cut_one}
use Rattle.file_maps.specs.Trees.{file_of, depth_of, trees_within, entries_within}
use Rattle.file_maps.specs.Storable.{AreStorable}
use Rattle.file_maps.proofs.Apart.{both_true, cut-all, all-weaker, is_apart-below}
use Rattle.file_maps.proofs.Apart.{not_apart_itself}
use Rattle.file_maps.proofs.Rising.{below}
use Rattle.file_maps.proofs.Fits.{File, Pairs, pairs-weaker, InTurn, tails_below, tail_file}
use Rattle.file_maps.proofs.Fits.{goes_on, order-of, apart-of, none_after}

less : (o : Ordering) → is_lt o ≡ true → o ≡ Less
less Less h = refl
less Equal h = cc h
less Greater h = cc h

-- files of a map are in the order of their bytes
by_bytes : (p q : Path) → IsPath p → IsPath q → is_apart p q ≡ true → path_cmp p q ≡ Less
    → below (joined p) (joined q)
by_bytes p q a b apart h =
    elim (slice_cmp nat_cmp (joined p) (joined q)) as (λ r. slice_cmp nat_cmp (joined p) (joined q) ≡ r → ordering_then r (slice_cmp (slice_cmp nat_cmp) p q) ≡ Less → slice_cmp nat_cmp (joined p) (joined q) ≡ Less) [
      | Less ↦ λ is k. is
      | Equal ↦ λ is k.
          let bytes = slice_cmp-IsAntisymmetric nat_cmp-IsAntisymmetric (joined p) (joined q) is in
          let same : p ≡ q = sym (components_of-joined p a) ∙ ap components_of bytes
          ∙ components_of-joined q b in
          absurd (not_apart_itself p (subst (λ (x : Path). is_apart p x ≡ true) (sym same) apart))
      | Greater ↦ λ is k. cc k
    ] refl h

turns_over : (f : File) (fs : Listed) → IsFile f → AllByRecursion IsFile fs
    → below_all path_cmp f.0 fs ≡ true → AllByRecursion (λ g. is_apart f.0 g.0 ≡ true) fs
    → AllByRecursion (InTurn f) fs
turns_over f [] h k s a = tt
turns_over f (g ∷ fs) h k s a =
    let parts = both_true (is_lt (path_cmp f.0 g.0)) (below_all path_cmp f.0 fs) s in
    ((by_bytes f.0 g.0 h.path k.0.path a.0 (less (path_cmp f.0 g.0) parts.0), a.0), turns_over f fs h k.1 parts.1 a.1)

in_turn : (fs : Listed) → AllByRecursion IsFile fs → is_sorted path_cmp fs ≡ true
    → ArePairwiseApart fs → Pairs InTurn fs
in_turn [] h s a = tt
in_turn (f ∷ fs) h s a =
    let parts = both_true (below_all path_cmp f.0 fs) (is_sorted path_cmp fs) s in
    (turns_over f fs h.0 h.1 parts.0 a.0, in_turn fs h.1 parts.1 a.1)

-- ---- after a path

cut_one-pairs : (R : File → File → Type 0) (top q : Path) (e : Entry) (o : Option Path)
    → strip_prefix top q ≡ o → (fs : Listed) → AllByRecursion (λ g. R (q, e) (top ++ g.0, g.1)) fs
    → Pairs (λ a b. R (top ++ a.0, a.1) (top ++ b.0, b.1)) fs
    → Pairs (λ a b. R (top ++ a.0, a.1) (top ++ b.0, b.1)) (cut_one o e fs)
cut_one-pairs R top q e (Some r) is fs h rest =
    (all-weaker (λ (g : File). R (q, e) (top ++ g.0, g.1)) (λ (g : File). R (top ++ r, e) (top ++ g.0, g.1)) (λ g x. subst (λ (p : Path). R (p, e) (top ++ g.0, g.1)) (after_some top q r is) x) fs h, rest)
cut_one-pairs R top q e None is fs h rest = rest

cut-pairs : (R : File → File → Type 0) (top : Path) (fs : Listed) → Pairs R fs
    → Pairs (λ a b. R (top ++ a.0, a.1) (top ++ b.0, b.1)) (cut top fs)
cut-pairs R top [] h = tt
cut-pairs R top (f ∷ fs) h =
    cut_one-pairs R top f.0 f.1 (strip_prefix top f.0) refl (cut top fs) (cut-all (R f) top fs h.0)
    (cut-pairs R top fs h.1)

after_top : (top q r : Path) → is_apart q r ≡ true → below (joined (top ++ q)) (joined (top ++ r))
    → below (joined q) (joined r)
after_top [] q r a h = h
after_top (c ∷ top) q r a h =
    after_top top q r a (tails_below c (top ++ q) (top ++ r) (is_apart-below top q r ∙ a) h)

turn_after : (top : Path) (f g : File) → InTurn (top ++ f.0, f.1) (top ++ g.0, g.1) → InTurn f g
turn_after top f g h =
    let a = sym (is_apart-below top f.0 g.0) ∙ h.1 in (after_top top f.0 g.0 a h.0, a)

-- files of a map below a path are in order, and stand apart
pub turns-cut : (top : Path) (fs : Listed) → AreFiles fs → Pairs InTurn (cut top fs)
turns-cut top fs h =
    pairs-weaker (λ a b. InTurn (top ++ a.0, a.1) (top ++ b.0, b.1)) InTurn (turn_after top)
    (cut top fs)
    (cut-pairs InTurn top fs (in_turn fs h.each h.in_order h.apart))

not_root : (top q : Path) → q ≢ [] → top ++ q ≢ []
not_root [] q ne is = ne is
not_root (c ∷ top) q ne is = cc is

file_after : (top q : Path) (e : Entry) → IsFile (top ++ q, e) → q ≢ [] → IsFile (q, e)
file_after [] q e h ne = h
file_after (c ∷ top) q e h ne =
    file_after top q e (tail_file c (top ++ q) e h (not_root top q ne)) ne

files_after : (top : Path) (fs : Listed) → AllByRecursion (λ f. f.0 ≢ []) fs
    → AllByRecursion (λ f. IsFile (top ++ f.0, f.1)) fs → AllByRecursion IsFile fs
files_after top [] ne h = tt
files_after top (f ∷ fs) ne h = (file_after top f.0 f.1 h.0 ne.0, files_after top fs ne.1 h.1)

no_roots : (fs : Listed) → Pairs InTurn fs → file_of fs ≡ None → AllByRecursion (λ f. f.0 ≢ []) fs
no_roots [] h none = tt
no_roots (([], e) ∷ fs) h none = cc none
no_roots (((d ∷ q), e) ∷ fs) h none =
    ((λ is. cc is), all-weaker (InTurn ((d ∷ q), e)) (λ f. f.0 ≢ []) (λ f t. goes_on (d ∷ q) f.0 t.1) fs h.0)

cut_one-length : (o : Option Path) (e : Entry) (fs : Listed)
    → length (cut_one o e fs) ≤ suc (length fs)
cut_one-length (Some r) e fs = omega arith
cut_one-length None e fs = omega arith

cut-length : (top : Path) (fs : Listed) → length (cut top fs) ≤ length fs
cut-length top [] = omega arith
cut-length top (f ∷ fs) =
    let one = cut_one-length (strip_prefix top f.0) f.1 (cut top fs) in let rest = cut-length top fs in omega arith

pub storable-cut : (top : Path) (fs : Listed) → AreFiles fs → file_of (cut top fs) ≡ None
    → AreStorable (cut top fs)
storable-cut top fs h none =
    let pairs = turns-cut top fs h in record {
      in_order = order-of (cut top fs) pairs;
      each =
          files_after top (cut top fs) (no_roots (cut top fs) pairs none)
          (cut-all IsFile top fs h.each);
      apart = apart-of (cut top fs) pairs;
      few = let n = cut-length top fs in let m = h.few in omega arith;
    }

-- ---- a file at the path itself

alone : (fs : Listed) (e : Entry) → Pairs InTurn fs → file_of fs ≡ Some e → depth_of fs ≡ 0
alone [] e h is = refl
alone (([], f) ∷ fs) e h is = ap (λ (l : Listed). depth_of (([], f) ∷ l)) (none_after f fs h.0)
alone (((d ∷ q), f) ∷ fs) e h is = cc is

pub depth-file : (top : Path) (fs : Listed) (e : Entry) → AreFiles fs
    → file_of (cut top fs) ≡ Some e → depth_of (cut top fs) ≡ 0
depth-file top fs e h is = alone (cut top fs) e (turns-cut top fs h) is

-- whose tree is the empty one
pub trees-none : (digest : List ℕ → List ℕ) (n : ℕ) (fs : Listed) → n ≡ 0
    → trees_within digest 0 [] ≡ trees_within digest n fs
unfolding trees_within
trees-none digest n fs is = ap (λ (k : ℕ). trees_within digest k fs) (sym is)

pub entries-none : (digest : List ℕ → List ℕ) (n : ℕ) (fs : Listed) → n ≡ 0
    → entries_within digest 0 [] ≡ entries_within digest n fs
unfolding entries_within
entries-none digest n fs is = ap (λ (k : ℕ). entries_within digest k fs) (sym is)

pub storable-none : AreStorable []
storable-none = record { in_order = tt; each = tt; apart = tt; few = omega arith }
