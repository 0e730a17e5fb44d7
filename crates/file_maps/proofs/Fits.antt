-- What groups are: files, or directories whose files are storable; and the tree that they make.
use Rattle.std.proofs.Common.{◌≡◌, ◌≢◌, ℕ, suc, ◌<◌, ◌≤◌, true, [], ◌∷◌, length, refl, sym}
use Rattle.std.proofs.Common.{ap, ◌∙◌, subst, arith}
use Rattle.std.specs.List.{AllByRecursion}
use Rattle.std.specs.Ordering.{nat_cmp, ordering_then}
use Rattle.std.specs.Cmp.{nat_cmp_total}
use Rattle.std.specs.Cmp.Lexicographic.{slice_cmp}
use Rattle.std.specs.declared.cmp.Ordering.{Ordering}
use Rattle.std.proofs.lemmas.Bool.{false≢true}
use Rattle.std.proofs.lemmas.Cmp.{tied_itself}
use Rattle.std.proofs.lemmas.List.{length-append}
use Rattle.std.specs.Str.{bytes_eq}
use Rattle.std.proofs.lemmas.Slice.Eq.{bytes_eq-Decides}
use Rattle.std.proofs.lemmas.List.Elements.{All-head, All-tail}
use Rattle.git_model.specs.declared.file_mode.FileMode.TheVariants as mode
use Rattle.git_model.specs.ObjectName.{IsObjectName}
use Rattle.git_paths.specs.Paths.{IsComponent, IsPath, joined}
use Rattle.git_paths.proofs.Cases.{by_cases}
use Rattle.file_maps.specs.declared.check.TheConstants.{FILES_LIMIT}
use Rattle.file_maps.specs.declared.entry.Entry.{Entry}
use Rattle.file_maps.specs.FileMap.{Path, Listed, is_apart, ArePairwiseApart, IsFile}
use Rattle.file_maps.specs.Trees.{Groups, grouped, add_path, add_file, depth_of}
use Rattle.file_maps.specs.Storable.{AreInOrder, AreStorable}
use Rattle.file_maps.proofs.Apart.{all-weaker, is_apart-below}
use Rattle.file_maps.proofs.Rising.{Bytes, below, OfFirst, grouped-first, same_front}

abbrev pub File : Type 0
File = Path × Entry

-- ---- what holds of files holds of the members of groups

abbrev Members : (File → Type 0) → Bytes × Listed → Type 0
Members P g = AllByRecursion (λ f. P (g.0 ∷ f.0, f.1)) g.1

add_members : (P : File → Type 0) (c : Bytes) (f : File) (groups : Groups) → P (c ∷ f.0, f.1)
    → AllByRecursion (Members P) groups → AllByRecursion (Members P) (add_file c f groups)
add_members P c f [] h rest = ((h, tt), tt)
add_members P c f (g ∷ groups) h rest =
    by_cases (bytes_eq c g.0)
    (λ yea. rw yea ((h, subst (λ (x : Bytes). AllByRecursion (λ k. P (x ∷ k.0, k.1)) g.1) (sym ((bytes_eq-Decides c g.0).0 yea)) rest.0), rest.1))
    (λ nay. rw nay ((h, tt), rest))

path_members : (P : File → Type 0) (p : Path) (e : Entry) (groups : Groups) → P (p, e)
    → AllByRecursion (Members P) groups → AllByRecursion (Members P) (add_path p e groups)
path_members P [] e groups h rest = rest
path_members P (c ∷ q) e groups h rest = add_members P c (q, e) groups h rest

pub grouped-all : (P : File → Type 0) (fs : Listed) → AllByRecursion P fs
    → AllByRecursion (Members P) (grouped fs)
grouped-all P [] h = tt
grouped-all P (f ∷ fs) h = path_members P f.0 f.1 (grouped fs) h.0 (grouped-all P fs h.1)

-- what holds of each two files
abbrev pub Pairs : (File → File → Type 0) → Listed → Type 0
Pairs R [] = Unit {0}
Pairs R (f ∷ fs) = AllByRecursion (R f) fs × Pairs R fs

abbrev PairsIn : (File → File → Type 0) → Bytes × Listed → Type 0
PairsIn R g = Pairs (λ a b. R (g.0 ∷ a.0, a.1) (g.0 ∷ b.0, b.1)) g.1

add_pairs : (R : File → File → Type 0) (c : Bytes) (f : File) (groups : Groups)
    → AllByRecursion (Members (R (c ∷ f.0, f.1))) groups → AllByRecursion (PairsIn R) groups
    → AllByRecursion (PairsIn R) (add_file c f groups)
add_pairs R c f [] h rest = ((tt, tt), tt)
add_pairs R c f (g ∷ groups) h rest =
    by_cases (bytes_eq c g.0)
    (λ yea. rw yea
    (let same = (bytes_eq-Decides c g.0).0 yea in (
      (
        subst (λ (x : Bytes). AllByRecursion (λ k. R (c ∷ f.0, f.1) (x ∷ k.0, k.1)) g.1)
            (sym same) h.0,
        subst (λ (x : Bytes). Pairs (λ a b. R (x ∷ a.0, a.1) (x ∷ b.0, b.1)) g.1) (sym same) rest.0,
      ),
      rest.1,
    )))
    (λ nay. rw nay ((tt, tt), rest))

path_pairs : (R : File → File → Type 0) (p : Path) (e : Entry) (groups : Groups)
    → AllByRecursion (Members (R (p, e))) groups → AllByRecursion (PairsIn R) groups
    → AllByRecursion (PairsIn R) (add_path p e groups)
path_pairs R [] e groups h rest = rest
path_pairs R (c ∷ q) e groups h rest = add_pairs R c (q, e) groups h rest

pub grouped-pairs : (R : File → File → Type 0) (fs : Listed) → Pairs R fs
    → AllByRecursion (PairsIn R) (grouped fs)
grouped-pairs R [] h = tt
grouped-pairs R (f ∷ fs) h =
    path_pairs R f.0 f.1 (grouped fs) (grouped-all (R f) fs h.0) (grouped-pairs R fs h.1)

-- ---- how long groups are

add_few : (n : ℕ) (c : Bytes) (f : File) (groups : Groups)
    → AllByRecursion (λ g. length g.1 ≤ n) groups
    → AllByRecursion (λ g. length g.1 ≤ suc n) (add_file c f groups)
add_few n c f [] h = (omega arith, tt)
add_few n c f (g ∷ groups) h =
    let rest = all-weaker (λ (k : Bytes × Listed). length k.1 ≤ n) (λ (k : Bytes × Listed). length k.1 ≤ suc n) (λ k le. omega arith) groups h.1 in
    let one = h.0 in
    by_cases (bytes_eq c g.0) (λ yea. rw yea (omega arith, rest))
    (λ nay. rw nay (omega arith, (omega arith, rest)))

path_few : (n : ℕ) (p : Path) (e : Entry) (groups : Groups)
    → AllByRecursion (λ g. length g.1 ≤ n) groups
    → AllByRecursion (λ g. length g.1 ≤ suc n) (add_path p e groups)
path_few n [] e groups h =
    all-weaker (λ (k : Bytes × Listed). length k.1 ≤ n) (λ (k : Bytes × Listed). length k.1 ≤ suc n)
    (λ k le. omega arith) groups h
path_few n (c ∷ q) e groups h = add_few n c (q, e) groups h

pub grouped-few : (fs : Listed) → AllByRecursion (λ g. length g.1 ≤ length fs) (grouped fs)
grouped-few [] = tt
grouped-few (f ∷ fs) = path_few (length fs) f.0 f.1 (grouped fs) (grouped-few fs)

pub depth_each : (fs : Listed) (n : ℕ) → depth_of fs ≤ n → AllByRecursion (λ f. length f.0 ≤ n) fs
depth_each [] n h = tt
depth_each (f ∷ fs) n h = (omega arith, depth_each fs n (omega arith))

depth_from : (fs : Listed) (n : ℕ) → AllByRecursion (λ f. suc (length f.0) ≤ n) fs → 0 < n
    → suc (depth_of fs) ≤ n
depth_from [] n h some = omega arith
depth_from (f ∷ fs) n h some = let rest = depth_from fs n h.1 some in let one = h.0 in omega arith

-- ---- what a group is

-- files in order that stand apart, one before another
abbrev pub InTurn : File → File → Type 0
InTurn f g = below (joined f.0) (joined g.0) × (is_apart f.0 g.0 ≡ true)

pub tails_below : (c : Bytes) (q r : Path) → is_apart q r ≡ true
    → below (joined (c ∷ q)) (joined (c ∷ r)) → below (joined q) (joined r)
tails_below c [] r a h = absurd (false≢true a)
tails_below c (x ∷ q) [] a h = absurd (false≢true a)
tails_below c (x ∷ q) (y ∷ r) a h =
    sym
    (ap (λ (o : Ordering). ordering_then o (slice_cmp nat_cmp (joined (x ∷ q)) (joined (y ∷ r)))) (tied_itself nat_cmp_total 47))
    ∙ sym (same_front c (47 ∷ joined (x ∷ q)) (47 ∷ joined (y ∷ r))) ∙ h

tails_turn : (c : Bytes) (f g : File) → InTurn (c ∷ f.0, f.1) (c ∷ g.0, g.1) → InTurn f g
tails_turn c f g h =
    let a = sym (is_apart-below (c ∷ []) f.0 g.0) ∙ h.1 in
    (tails_below c f.0 g.0 a h.0, a)

pub pairs-weaker : (R S : File → File → Type 0) → ((f g : File) → R f g → S f g) → (fs : Listed)
    → Pairs R fs → Pairs S fs
pairs-weaker R S w [] h = tt
pairs-weaker R S w (f ∷ fs) h = (all-weaker (R f) (S f) (w f) fs h.0, pairs-weaker R S w fs h.1)

in_turn : (fs : Listed) → AreInOrder fs → ArePairwiseApart fs → Pairs InTurn fs
in_turn [] o a = tt
in_turn (f ∷ fs) o a = (both fs o.0 a.0, in_turn fs o.1 a.1)
  where
    both : (gs : Listed) → AllByRecursion (λ g. below (joined f.0) (joined g.0)) gs
        → AllByRecursion (λ g. is_apart f.0 g.0 ≡ true) gs → AllByRecursion (InTurn f) gs
    both [] b c = tt
    both (g ∷ gs) b c = ((b.0, c.0), both gs b.1 c.1)

pub order-of : (fs : Listed) → Pairs InTurn fs → AreInOrder fs
order-of [] h = tt
order-of (f ∷ fs) h =
    (all-weaker (InTurn f) (λ g. below (joined f.0) (joined g.0)) (λ g i. i.0) fs h.0, order-of fs h.1)

pub apart-of : (fs : Listed) → Pairs InTurn fs → ArePairwiseApart fs
apart-of [] h = tt
apart-of (f ∷ fs) h =
    (all-weaker (InTurn f) (λ g. is_apart f.0 g.0 ≡ true) (λ g i. i.1) fs h.0, apart-of fs h.1)

shorter : (c : Bytes) (d : Bytes) (q : Path) → length (joined (d ∷ q)) ≤ length (joined (c ∷ d ∷ q))
shorter c d q = let n = length-append c (47 ∷ joined (d ∷ q)) in omega arith

pub tail_file : (c : Bytes) (q : Path) (e : Entry) → IsFile (c ∷ q, e) → q ≢ [] → IsFile (q, e)
tail_file c [] e h ne = absurd (ne refl)
tail_file c (d ∷ q) e h ne = record {
  below_the_root = ne;
  path = All-tail IsComponent c (d ∷ q) h.path;
  limits = record {
    bytes = let n = shorter c d q in let m = h.limits.bytes in omega arith;
    components = let m = h.limits.components in omega arith;
  };
  mode = h.mode;
  name = h.name;
}

pub goes_on : (q r : Path) → is_apart q r ≡ true → r ≢ []
goes_on [] r h e = false≢true h
goes_on (c ∷ q) [] h e = false≢true h
goes_on (c ∷ q) (d ∷ r) h e = cc e

tail_files : (c : Bytes) (fs : Listed) → AllByRecursion (λ f. f.0 ≢ []) fs
    → AllByRecursion (λ f. IsFile (c ∷ f.0, f.1)) fs → AllByRecursion IsFile fs
tail_files c [] ne h = tt
tail_files c (f ∷ fs) ne h = (tail_file c f.0 f.1 h.0 ne.0, tail_files c fs ne.1 h.1)

-- a file, alone; or a directory of storable files with fewer components
pub record IsFileGroup (c : Bytes) (e : Entry) (fs : Listed) : Type 0 where
  pub alone : fs ≡ []
  pub component : IsComponent c
  pub mode : e.mode ≢ mode.Directory
  pub name : IsObjectName e.name

pub record IsDirectoryGroup (deep : ℕ) (c : Bytes) (fs : Listed) : Type 0 where
  pub component : IsComponent c
  pub storable : AreStorable fs
  pub depth : suc (depth_of fs) ≤ deep

abbrev pub IsGroup : ℕ → Bytes × Listed → Type 0
IsGroup deep (c, []) = ⊥
IsGroup deep (c, (([], e) ∷ fs)) = IsFileGroup c e fs
IsGroup deep (c, (((d ∷ q), e) ∷ fs)) = IsDirectoryGroup deep c (((d ∷ q), e) ∷ fs)

pub none_after : (e : Entry) (fs : Listed) → AllByRecursion (InTurn ([], e)) fs → fs ≡ []
none_after e [] h = refl
none_after e (f ∷ fs) h = absurd (false≢true h.0.1)

first_component : (c : Bytes) (q : Path) → IsPath (c ∷ q) → IsComponent c
first_component c q h = All-head IsComponent c q h

a_group : (deep n : ℕ) (c : Bytes) (fs : Listed) → n ≤ FILES_LIMIT → 0 < length fs
    → Members IsFile (c, fs) → PairsIn InTurn (c, fs) → Members (λ f. length f.0 ≤ deep) (c, fs)
    → length fs ≤ n → IsGroup deep (c, fs)
a_group deep n c [] few some files turns depth size = absurd (omega arith)
a_group deep n c (([], e) ∷ fs) few some files turns depth size =
    let pairs = pairs-weaker (λ a b. InTurn (c ∷ a.0, a.1) (c ∷ b.0, b.1)) InTurn (tails_turn c) (([], e) ∷ fs) turns in record {
      alone = none_after e fs pairs.0;
      component = first_component c [] files.0.path;
      mode = files.0.mode;
      name = files.0.name;
    }
a_group deep n c (((d ∷ q), e) ∷ fs) few some files turns depth size =
    let pairs = pairs-weaker (λ a b. InTurn (c ∷ a.0, a.1) (c ∷ b.0, b.1)) InTurn (tails_turn c) (((d ∷ q), e) ∷ fs) turns in
    let more : AllByRecursion (λ f. f.0 ≢ []) (((d ∷ q), e) ∷ fs) = ((λ is. cc is), all-weaker (InTurn ((d ∷ q), e)) (λ f. f.0 ≢ []) (λ f t. goes_on (d ∷ q) f.0 t.1) fs pairs.0) in record {
      component = first_component c (d ∷ q) files.0.path;
      storable = record {
        in_order = order-of (((d ∷ q), e) ∷ fs) pairs;
        each = tail_files c (((d ∷ q), e) ∷ fs) more files;
        apart = apart-of (((d ∷ q), e) ∷ fs) pairs;
        few = omega arith;
      };
      depth = depth_from (((d ∷ q), e) ∷ fs) deep depth (let one = depth.0 in omega arith);
    }

some_first : (g : Bytes × Listed) → OfFirst (λ p. Unit {0}) g → 0 < length g.1
some_first (c, []) h = absurd h
some_first (c, (f ∷ fs)) h = omega arith

trivial : (fs : Listed) → AllByRecursion (λ f. Unit {0}) fs
trivial [] = tt
trivial (f ∷ fs) = (tt, trivial fs)

pub groups-are : (fs : Listed) → AreStorable fs
    → AllByRecursion (IsGroup (depth_of fs)) (grouped fs)
groups-are fs h =
    each (grouped fs) (grouped-first (λ p. Unit {0}) fs (trivial fs)) (grouped-all IsFile fs h.each)
    (grouped-pairs InTurn fs (in_turn fs h.in_order h.apart))
    (grouped-all (λ f. length f.0 ≤ depth_of fs) fs (depth_each fs (depth_of fs) (omega arith))) (grouped-few fs)
  where
    each : (gs : Groups) → AllByRecursion (OfFirst (λ p. Unit {0})) gs
        → AllByRecursion (Members IsFile) gs → AllByRecursion (PairsIn InTurn) gs
        → AllByRecursion (Members (λ f. length f.0 ≤ depth_of fs)) gs
        → AllByRecursion (λ g. length g.1 ≤ length fs) gs
        → AllByRecursion (IsGroup (depth_of fs)) gs
    each [] a b c d e = tt
    each (g ∷ gs) a b c d e =
        (a_group (depth_of fs) (length fs) g.0 g.1 h.few (some_first g a.0) b.0 c.0 d.0 e.0, each gs a.1 b.1 c.1 d.1 e.1)
