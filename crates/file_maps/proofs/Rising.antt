-- The entries of a tree rise in Git's order, where files stand in the order of whole paths.
use Rattle.std.proofs.Common.{◌≡◌, ◌≢◌, ℕ, true, false, List, [], ◌∷◌, ◌++◌, refl, sym, ap, ◌∙◌}
use Rattle.std.proofs.Common.{subst}
use Rattle.std.specs.Prelude.{All}
use Rattle.std.specs.List.{AllByRecursion}
use Rattle.std.specs.Ordering.{nat_cmp, ordering_then}
use Rattle.std.specs.Cmp.{ranked, nat_cmp_total}
use Rattle.std.specs.Cmp.Lexicographic.{slice_cmp, nat_list_cmp_total}
use Rattle.std.specs.declared.cmp.Ordering.{Ordering}
use Rattle.std.specs.declared.cmp.Ordering.TheVariants.{Less, Equal, Greater}
use Rattle.std.proofs.lemmas.Bool.{true≢false, false≢true}
use Rattle.std.proofs.lemmas.Cmp.{tied_itself}
use Rattle.std.specs.Str.{bytes_eq}
use Rattle.std.proofs.lemmas.Slice.Eq.{bytes_eq-Decides}
use Rattle.std.proofs.lemmas.List.Elements.{All-head, All-tail}
use Rattle.git_paths.specs.Paths.{IsComponent, IsPath, joined}
use Rattle.git_paths.proofs.Below.{tail, joined-append}
use Rattle.git_paths.proofs.Cases.{by_cases}
use Rattle.file_maps.specs.declared.entry.Entry.{Entry}
use Rattle.file_maps.specs.FileMap.{Path, Listed, is_apart, ArePairwiseApart}
use Rattle.file_maps.specs.Trees.{Groups, grouped, add_path, add_file}
use Rattle.file_maps.specs.Storable.{AreInOrder}
use Rattle.file_maps.proofs.Apart.{all-weaker, is_apart-below}

abbrev pub Bytes : Type 0
Bytes = List ℕ

abbrev pub below : Bytes → Bytes → Type 0
below a b = slice_cmp nat_cmp a b ≡ Less

-- what follows the same bytes decides
pub same_front : (c a b : Bytes) → slice_cmp nat_cmp (c ++ a) (c ++ b) ≡ slice_cmp nat_cmp a b
same_front [] a b = refl
same_front (x ∷ c) a b =
    ap (λ (r : Ordering). ordering_then r (slice_cmp nat_cmp (c ++ a) (c ++ b)))
    (tied_itself nat_cmp_total x)
    ∙ same_front c a b

-- a slash, where a path goes on
abbrev pub mark : Path → Bytes
mark [] = []
mark (d ∷ q) = 47 ∷ []

less_or : (a b : ℕ) (r s : Ordering) → ordering_then r s ≡ Less → (r ≡ Equal → ⊥) → r ≡ Less
less_or a b Less s h ne = refl
less_or a b Equal s h ne = absurd (ne refl)
less_or a b Greater s h ne = cc h

differ : (x y : ℕ) → x ≢ y → nat_cmp x y ≡ Equal → ⊥
differ x y ne e = ne (ranked x y Equal (sym e))

-- components that differ compare in a tree as their paths do
rise : (c d : Bytes) (s t : Path) → All (λ b. b ≢ 47) c → All (λ b. b ≢ 47) d → c ≢ d
    → below (c ++ tail s) (d ++ tail t) → below (c ++ mark s) (d ++ mark t)
rise [] [] s t nc nd ne h = absurd (ne refl)
rise [] (y ∷ d) [] t nc nd ne h = refl
rise [] (y ∷ d) (e ∷ s) t nc nd ne h =
    let other : 47 ≢ y = λ e. All-head (λ b. b ≢ 47) y d nd (sym e) in
    let first : nat_cmp 47 y ≡ Less = less_or 47 y (nat_cmp 47 y) _ h (differ 47 y other) in
    rw first refl
rise (x ∷ c) [] s [] nc nd ne h = cc h
rise (x ∷ c) [] s (e ∷ t) nc nd ne h =
    let other : x ≢ 47 = All-head (λ b. b ≢ 47) x c nc in
    let first : nat_cmp x 47 ≡ Less = less_or x 47 (nat_cmp x 47) _ h (differ x 47 other) in
    rw first refl
rise (x ∷ c) (y ∷ d) s t nc nd ne h =
    elim (nat_cmp x y) as (λ r. nat_cmp x y ≡ r → ordering_then r (slice_cmp nat_cmp (c ++ tail s) (d ++ tail t)) ≡ Less → ordering_then r (slice_cmp nat_cmp (c ++ mark s) (d ++ mark t)) ≡ Less) [
      | Less ↦ λ is k. refl
      | Equal ↦ λ is k.
          let same : x ≡ y = ranked x y Equal (sym is) in
          rise c d s t (All-tail (λ b. b ≢ 47) x c nc) (All-tail (λ b. b ≢ 47) y d nd)
          (λ e. ne (λ i. same i ∷ e i)) k
      | Greater ↦ λ is k. cc k
    ] refl h

joined-first : (c : Bytes) (q : Path) → joined (c ∷ q) ≡ c ++ tail q
joined-first c [] = joined-append c [] []
joined-first c (d ∷ q) = joined-append c [] (d ∷ q)

-- the key of a path's first component in a tree
abbrev pub key : Bytes → Path → Bytes
key c q = c ++ mark q

pub key_rises : (c d : Bytes) (p q : Path) → IsComponent c → IsComponent d → c ≢ d
    → below (joined (c ∷ p)) (joined (d ∷ q)) → below (key c p) (key d q)
key_rises c d p q ic id ne h =
    rise c d p q ic.no_slash id.no_slash ne
    (subst (λ (x : Bytes). below x (d ++ tail q)) (joined-first c p) (subst (λ (y : Bytes). below (joined (c ∷ p)) y) (joined-first d q) h))

-- ---- groups and their first files

-- what holds of the path of a group's first file
abbrev pub OfFirst : (Path → Type 0) → Bytes × Listed → Type 0
OfFirst P (c, []) = ⊥
OfFirst P (c, (f ∷ fs)) = P (c ∷ f.0)

add_first : (P : Path → Type 0) (c : Bytes) (q : Path) (e : Entry) (groups : Groups) → P (c ∷ q)
    → AllByRecursion (OfFirst P) groups → AllByRecursion (OfFirst P) (add_file c (q, e) groups)
add_first P c q e [] h rest = (h, tt)
add_first P c q e (g ∷ groups) h rest =
    by_cases (bytes_eq c g.0) (λ yea. rw yea (h, rest.1)) (λ nay. rw nay (h, rest))

path_first : (P : Path → Type 0) (p : Path) (e : Entry) (groups : Groups) → P p
    → AllByRecursion (OfFirst P) groups → AllByRecursion (OfFirst P) (add_path p e groups)
path_first P [] e groups h rest = rest
path_first P (c ∷ q) e groups h rest = add_first P c q e groups h rest

pub grouped-first : (P : Path → Type 0) (fs : Listed) → AllByRecursion (λ f. P f.0) fs
    → AllByRecursion (OfFirst P) (grouped fs)
grouped-first P [] h = tt
grouped-first P (f ∷ fs) h = path_first P f.0 f.1 (grouped fs) h.0 (grouped-first P fs h.1)

-- ---- groups rise

-- the key of a group
abbrev pub group_key : Bytes × Listed → Bytes
group_key (c, []) = c
group_key (c, (f ∷ fs)) = key c f.0

abbrev pub Rises : Bytes × Listed → Bytes × Listed → Type 0
Rises g h = below (group_key g) (group_key h) × (g.0 ≢ h.0)

abbrev pub GroupsRise : Groups → Type 0
GroupsRise [] = Unit {0}
GroupsRise (g ∷ groups) = AllByRecursion (Rises g) groups × GroupsRise groups

-- a path comes before another and stands apart from it
pub record Ahead (c : Bytes) (q p : Path) : Type 0 where
  pub before : below (joined (c ∷ q)) (joined p)
  pub apart : is_apart (c ∷ q) p ≡ true
  pub path : IsPath p

-- of two paths that stand apart and have one first component both go on
goes_on : (q r : Path) → is_apart q r ≡ true → mark q ≡ mark r
goes_on [] r h = absurd (false≢true h)
goes_on (c ∷ q) [] h = absurd (false≢true h)
goes_on (c ∷ q) (d ∷ r) h = refl

same_key : (c : Bytes) (q r : Path) → is_apart (c ∷ q) (c ∷ r) ≡ true → key c q ≡ key c r
same_key c q r h = ap (λ (m : Bytes). c ++ m) (goes_on q r (sym (is_apart-below (c ∷ []) q r) ∙ h))

not_below_itself : (a : Bytes) → below a a → ⊥
not_below_itself a h =
    let e = tied_itself nat_list_cmp_total a in let no : Equal ≡ Less = sym e ∙ h in cc no

component : (c : Bytes) (q : Path) → IsPath (c ∷ q) → IsComponent c
component c q h = All-head IsComponent c q h

-- a file before groups with another first name
rises_over : (c : Bytes) (q : Path) (e : Entry) (g : Bytes × Listed) → IsPath (c ∷ q)
    → bytes_eq c g.0 ≡ false → OfFirst (Ahead c q) g → Rises (c, (q, e) ∷ []) g
rises_over c q e (d, []) path nay a = absurd a
rises_over c q e (d, (f ∷ fs)) path nay a =
    let ne : c ≢ d = λ same. true≢false (sym ((bytes_eq-Decides c d).1 same) ∙ nay) in
    (key_rises c d q f.0 (component c q path) (component d f.0 a.path) ne a.before, ne)

-- and before those after them
rises_after : (c : Bytes) (q : Path) (e : Entry) (g h : Bytes × Listed) → Rises (c, (q, e) ∷ []) g
    → Rises g h → OfFirst (Ahead c q) h → Rises (c, (q, e) ∷ []) h
rises_after c q e g (d, []) r s a = absurd a
rises_after c q e g (d, (f ∷ fs)) r s a =
    let up : below (key c q) (key d f.0) = nat_list_cmp_total.trans (key c q) (group_key g) (key d f.0) r.0 s.0 in (
      up,
      λ same.
          let one : key c q ≡ key c f.0 = same_key c q f.0 (subst (λ (x : Bytes). is_apart (c ∷ q) (x ∷ f.0) ≡ true) (sym same) a.apart) in
          not_below_itself (key c q)
          (subst (λ (k : Bytes). below (key c q) k) (sym (one ∙ ap (λ (x : Bytes). key x f.0) same)) up),
    )

all_after : (c : Bytes) (q : Path) (e : Entry) (g : Bytes × Listed) (groups : Groups)
    → Rises (c, (q, e) ∷ []) g → AllByRecursion (Rises g) groups
    → AllByRecursion (OfFirst (Ahead c q)) groups → AllByRecursion (Rises (c, (q, e) ∷ [])) groups
all_after c q e g [] r s a = tt
all_after c q e g (h ∷ groups) r s a =
    (rises_after c q e g h r s.0 a.0, all_after c q e g groups r s.1 a.1)

joins : (c : Bytes) (q : Path) (e : Entry) (g : Bytes × Listed) (groups : Groups) → c ≡ g.0
    → OfFirst (Ahead c q) g → AllByRecursion (Rises g) groups
    → AllByRecursion (Rises (c, (q, e) ∷ g.1)) groups
joins c q e (d, []) groups same a r = absurd a
joins c q e (d, (f ∷ fs)) groups same a r =
    let one : key c q ≡ key d f.0 = same_key c q f.0 (subst (λ (x : Bytes). is_apart (c ∷ q) (x ∷ f.0) ≡ true) (sym same) a.apart)
    ∙ ap (λ (x : Bytes). key x f.0) same in
    all-weaker (Rises (d, (f ∷ fs))) (Rises (c, (q, e) ∷ f ∷ fs))
    (λ h s. (subst (λ (k : Bytes). below k (group_key h)) (sym one) s.0, subst (λ (x : Bytes). x ≢ h.0) (sym same) s.1)) groups r

rise_file : (c : Bytes) (q : Path) (e : Entry) (groups : Groups) → IsPath (c ∷ q)
    → AllByRecursion (OfFirst (Ahead c q)) groups → GroupsRise groups
    → GroupsRise (add_file c (q, e) groups)
rise_file c q e [] path a r = (tt, tt)
rise_file c q e (g ∷ groups) path a r =
    by_cases (bytes_eq c g.0)
    (λ yea. rw yea (joins c q e g groups ((bytes_eq-Decides c g.0).0 yea) a.0 r.0, r.1))
    (λ nay. rw nay (let here = rises_over c q e g path nay a.0 in ((here, all_after c q e g groups here r.0 a.1), r)))

rise_path : (p : Path) (e : Entry) (fs : Listed) → IsPath p
    → AllByRecursion (λ g. below (joined p) (joined g.0)) fs
    → AllByRecursion (λ g. is_apart p g.0 ≡ true) fs → AllByRecursion (λ g. IsPath g.0) fs
    → GroupsRise (grouped fs) → GroupsRise (add_path p e (grouped fs))
rise_path [] e fs path before apart paths r = r
rise_path (c ∷ q) e fs path before apart paths r =
    rise_file c q e (grouped fs) path (grouped-first (Ahead c q) fs (ahead fs before apart paths)) r
  where
    ahead : (gs : Listed) → AllByRecursion (λ g. below (joined (c ∷ q)) (joined g.0)) gs
        → AllByRecursion (λ g. is_apart (c ∷ q) g.0 ≡ true) gs → AllByRecursion (λ g. IsPath g.0) gs
        → AllByRecursion (λ g. Ahead c q g.0) gs
    ahead [] b a p = tt
    ahead (g ∷ gs) b a p = (record { before = b.0; apart = a.0; path = p.0 }, ahead gs b.1 a.1 p.1)

pub groups-rise : (fs : Listed) → AllByRecursion (λ f. IsPath f.0) fs → AreInOrder fs
    → ArePairwiseApart fs → GroupsRise (grouped fs)
groups-rise [] paths order apart = tt
groups-rise (f ∷ fs) paths order apart =
    rise_path f.0 f.1 fs paths.0 order.0 apart.0 paths.1 (groups-rise fs paths.1 order.1 apart.1)
