-- What entries list stands in the order of whole paths: Git's order of a tree is that order, cut
-- off after the first component and its slash.
use Rattle.std.proofs.Common.{◌≡◌, ◌≢◌, ℕ, suc, ◌+◌, false, List, [], ◌∷◌, ◌++◌, get_or, refl, sym, ap, ◌∙◌, subst, arith}
use Rattle.std.specs.Prelude.{All, IsSorted}
use Rattle.std.specs.List.{AllByRecursion}
use Rattle.std.specs.Ordering.{nat_cmp, is_lt, ordering_then, ordering_reverse}
use Rattle.std.specs.Cmp.{ranked, nat_cmp_total}
use Rattle.std.specs.Cmp.Lexicographic.{slice_cmp, nat_list_cmp_total}
use Rattle.std.specs.FinMap as finmap
use Rattle.std.specs.FinMap.{entries-insert, entries-from_sorted}
use Rattle.std.specs.FinMap.Entries.{put}
use Rattle.std.specs.declared.cmp.Ordering.{Ordering}
use Rattle.std.specs.declared.cmp.Ordering.TheVariants.{Less, Equal, Greater}
use Rattle.std.proofs.lemmas.Bool.{true≢false}
use Rattle.std.proofs.lemmas.Cmp.{tied_itself}
use Rattle.std.proofs.lemmas.List.Elements.{All-head, All-tail, recursion_from_All}
use Rattle.git_model.specs.declared.file_mode.FileMode.{FileMode}
use Rattle.git_model.specs.declared.file_mode.FileMode.TheVariants as mode
use Rattle.git_model.specs.Repository.{Object}
use Rattle.git_model.specs.Tree.{TreeEntry, IsEntryName, CanWriteEntry, order_key, slash_of, tree_cmp}
use Rattle.git_paths.specs.Order.{path_cmp, path_cmp-total}
use Rattle.git_paths.specs.Paths.{joined}
use Rattle.git_paths.proofs.Below.{tail, joined-append}
use Rattle.file_maps.specs.declared.entry.Entry.{Entry}
use Rattle.file_maps.specs.FileMap.{Path, Listed, listed}
use Rattle.file_maps.specs.Edits.{moved, with_files, cut, files_at}
use Rattle.file_maps.specs.Storable.{AreInOrder}
use Rattle.file_maps.specs.StoredTree.{Lists, nothing, first_file, first_directory, ListsTree}
use Rattle.file_maps.proofs.Apart.{all-map, all-weaker}
use Rattle.file_maps.proofs.Listing.{Distinct, distinct, IsSound, tree-sound, all-append}
use Rattle.file_maps.proofs.Maps.{empty-of}
use Rattle.file_maps.proofs.Rising.{Bytes, below, mark, same_front}

abbrev cmp : Bytes → Bytes → Ordering
cmp a b = slice_cmp nat_cmp a b

-- ---- entries rise

trans : (x y z : Bytes) → cmp x y ≢ Greater → cmp y z ≢ Greater → cmp x z ≢ Greater
trans x y z h k = by (cmp x y) refl (cmp y z) refl
  where
    by : (r : Ordering) → cmp x y ≡ r → (s : Ordering) → cmp y z ≡ s → cmp x z ≢ Greater
    by Greater is s at = λ g. h is
    by Equal is s at = λ g. k (sym (nat_list_cmp_total.congr x y z is) ∙ g)
    by Less is Greater at = λ g. k at
    by Less is Less at =
        λ g. let no : Less ≡ Greater = sym (nat_list_cmp_total.trans x y z is at) ∙ g in cc no
    by Less is Equal at =
        λ g.
        let no : Less ≡ Greater =
        sym is ∙ nat_list_cmp_total.antisymm x y
        ∙ ap ordering_reverse (nat_list_cmp_total.congr y z x at)
        ∙ sym (nat_list_cmp_total.antisymm x z) ∙ g in cc no

not_greater : (x y : Bytes) → is_lt (cmp y x) ≡ false → cmp x y ≢ Greater
not_greater x y h =
    λ g. let less : cmp y x ≡ Less = nat_list_cmp_total.antisymm y x
    ∙ ap ordering_reverse g in true≢false (sym (ap is_lt less) ∙ h)

-- no entry comes after a later one, by recursion
abbrev pub Rises : List TreeEntry → Type 0
Rises [] = Unit {0}
Rises (e ∷ es) = AllByRecursion (λ d. cmp (order_key e) (order_key d) ≢ Greater) es × Rises es

pub rises : (es : List TreeEntry) → IsSorted tree_cmp es → Rises es
rises [] h = tt
rises (e ∷ []) h = (tt, tt)
rises (e ∷ d ∷ es) h =
    let rest = rises (d ∷ es) (λ k x low high. let same : suc k + 1 ≡ suc (k + 1) = omega arith in
    subst (λ (n : ℕ). is_lt
    (tree_cmp (get_or (e ∷ d ∷ es) n x) (get_or (e ∷ d ∷ es) (suc k) x)) ≡ false) same (h (suc k) x
    (omega arith) (omega arith))) in
    let next = not_greater (order_key e) (order_key d) (h 0 d (omega arith) (omega arith)) in (
      (
        next,
        all-weaker (λ x. cmp (order_key d) (order_key x) ≢ Greater)
            (λ x. cmp (order_key e) (order_key x) ≢ Greater)
            (λ x k. trans (order_key e) (order_key d) (order_key x) next k) es rest.0,
      ),
      rest,
    )

-- ---- components that differ compare in their paths as they do in a tree

less_first : (x y : ℕ) (rest : Ordering) → ordering_then (nat_cmp x y) rest ≢ Greater → x ≢ y
    → nat_cmp x y ≡ Less
less_first x y rest h ne = by (nat_cmp x y) refl
  where
    by : (r : Ordering) → nat_cmp x y ≡ r → nat_cmp x y ≡ Less
    by Less is = is
    by Equal is = absurd (ne (ranked x y Equal (sym is)))
    by Greater is = absurd (h (ap (λ (r : Ordering). ordering_then r rest) is))

fall : (c d : Bytes) (s t : Path) → All (λ b. b ≢ 47) c → All (λ b. b ≢ 47) d → c ≢ d
    → cmp (c ++ mark s) (d ++ mark t) ≢ Greater
    → below (c ++ tail s) (d ++ tail t)
fall [] [] s t nc nd ne h = absurd (ne refl)
fall [] (y ∷ d) [] t nc nd ne h = refl
fall [] (y ∷ d) (e ∷ s) t nc nd ne h =
    let first : nat_cmp 47 y ≡ Less = less_first 47 y (slice_cmp nat_cmp [] (d ++ mark t)) h
    (λ e. All-head (λ b. b ≢ 47) y d nd (sym e)) in
    rw first refl
fall (x ∷ c) [] s [] nc nd ne h = absurd (h refl)
fall (x ∷ c) [] s (e ∷ t) nc nd ne h =
    let first : nat_cmp x 47 ≡ Less = less_first x 47 (slice_cmp nat_cmp (c ++ mark s) []) h
    (All-head (λ b. b ≢ 47) x c nc) in
    rw first refl
fall (x ∷ c) (y ∷ d) s t nc nd ne h =
    elim (nat_cmp x y) as
    (λ r. nat_cmp x y ≡ r → ordering_then r
    (slice_cmp nat_cmp (c ++ mark s) (d ++ mark t)) ≢ Greater → ordering_then r
    (slice_cmp nat_cmp (c ++ tail s) (d ++ tail t)) ≡ Less) [
      | Less ↦ λ is k. refl
      | Equal ↦ λ is k.
          let same : x ≡ y = ranked x y Equal (sym is) in
          fall c d s t (All-tail (λ b. b ≢ 47) x c nc) (All-tail (λ b. b ≢ 47) y d nd)
          (λ e. ne (λ i. same i ∷ e i)) k
      | Greater ↦ λ is k. absurd (k refl)
    ] refl h

joined-first : (c : Bytes) (q : Path) → joined (c ∷ q) ≡ c ++ tail q
joined-first c [] = joined-append c [] []
joined-first c (d ∷ q) = joined-append c [] (d ∷ q)

pub key-falls : (c d : Bytes) (p q : Path) → IsEntryName c → IsEntryName d → c ≢ d
    → cmp (c ++ mark p) (d ++ mark q) ≢ Greater
    → below (joined (c ∷ p)) (joined (d ∷ q))
key-falls c d p q ic id ne h =
    subst (λ (x : Bytes). below x (joined (d ∷ q))) (sym (joined-first c p))
    (subst (λ (y : Bytes). below (c ++ tail p) y) (sym (joined-first d q))
    (fall c d p q ic.no_slash id.no_slash ne h))

-- ---- files after others

file_key : (m : FileMode) → m ≢ mode.Directory → slash_of m ≡ []
file_key mode.Directory ne = absurd (ne refl)
file_key mode.Regular ne = refl
file_key mode.Executable ne = refl
file_key mode.Symlink ne = refl
file_key mode.Gitlink ne = refl

-- an entry of another name, not before a path
abbrev Over : Bytes → Bytes → TreeEntry → Type 0
Over c key d = (c ≢ d.name) × (cmp key (order_key d) ≢ Greater) × IsEntryName d.name

above : {os : List Object} (c : Bytes) (p : Path) → IsEntryName c
    → {es : List TreeEntry} {fs : Listed} → Lists os es fs
    → AllByRecursion (Over c (c ++ mark p)) es
    → AllByRecursion (λ f. below (joined (c ∷ p)) (joined f.0)) fs
above c p nc nothing h = tt
above c p nc (first_file e es files ne l) h = (
  key-falls c e.name p [] nc h.0.2 h.0.0
      (subst (λ (s : Bytes). cmp (c ++ mark p) (e.name ++ s) ≢ Greater) (file_key e.mode ne) h.0.1),
  above c p nc l h.1,
)
above {os} c p nc (first_directory e es inside under files is has sub l) h =
    all-append (λ (f : Path × Entry). below (joined (c ∷ p)) (joined f.0))
    (moved (e.name ∷ []) under) files
    (all-map (λ (g : Path × Entry). (e.name ∷ [] ++ g.0, g.1))
    (λ (f : Path × Entry). below (joined (c ∷ p)) (joined f.0)) under
    (all-weaker IsSound (λ (g : Path × Entry). below (joined (c ∷ p)) (joined (e.name ∷ g.0)))
    (λ g s. one g.0 s.below_the_root) under
    (tree-sound os e.id under (record { direct = inside; tree = has; lists = sub }))))
    (above c p nc l h.1)
  where
    one : (q : Path) → q ≢ [] → below (joined (c ∷ p)) (joined (e.name ∷ q))
    one [] ne = absurd (ne refl)
    one (d ∷ q) ne =
        key-falls c e.name p (d ∷ q) nc h.0.2 h.0.0
        (subst (λ (s : Bytes). cmp (c ++ mark p) (e.name ++ s) ≢ Greater) (ap slash_of is) h.0.1)

over : (e : TreeEntry) (key : Bytes) → order_key e ≡ key → (es : List TreeEntry)
    → AllByRecursion (λ d. e.name ≢ d.name) es
    → AllByRecursion (λ d. cmp (order_key e) (order_key d) ≢ Greater) es
    → AllByRecursion CanWriteEntry es → AllByRecursion (Over e.name key) es
over e key is [] a b c = tt
over e key is (d ∷ es) a b c = (
  (
    a.0,
    subst
        (λ (k : Bytes). cmp k (order_key d) ≢ Greater) is b.0,
    c.0.name,
  ),
  over e key is es a.1 b.1 c.1,
)

pub order-append : (xs ys : Listed) → AreInOrder xs
    → AllByRecursion (λ f. AllByRecursion (λ g. below (joined f.0) (joined g.0)) ys) xs
    → AreInOrder ys → AreInOrder (xs ++ ys)
order-append [] ys h across k = k
order-append (x ∷ xs) ys h across k = (
  all-append
      (λ (g : Path × Entry). below (joined x.0)
      (joined g.0)) xs ys h.0 across.0,
  order-append xs ys h.1 across.1 k,
)

abbrev pub IsBelowRoot : Path × Entry → Type 0
IsBelowRoot f = f.0 ≢ []

pub tree-below : (os : List Object) (id : List ℕ) (fs : Listed) → ListsTree os id fs
    → AllByRecursion IsBelowRoot fs
tree-below os id fs t =
    all-weaker IsSound IsBelowRoot (λ f s. s.below_the_root) fs (tree-sound os id fs t)

front : (c : Bytes) (p q : Path) → p ≢ [] → q ≢ [] → below (joined p) (joined q)
    → below (joined (c ∷ p)) (joined (c ∷ q))
front c [] q np nq h = absurd (np refl)
front c (x ∷ p) [] np nq h = absurd (nq refl)
front c (x ∷ p) (y ∷ q) np nq h =
    same_front c (47 ∷ joined (x ∷ p)) (47 ∷ joined (y ∷ q))
    ∙ ap (λ (o : Ordering). ordering_then o (slice_cmp nat_cmp (joined (x ∷ p)) (joined (y ∷ q))))
    (tied_itself nat_cmp_total 47)
    ∙ h

fronts : (c : Bytes) (p : Path) → p ≢ [] → (fs : Listed) → AllByRecursion IsBelowRoot fs
    → AllByRecursion (λ g. below (joined p) (joined g.0)) fs
    → AllByRecursion (λ g. below (joined (c ∷ p)) (joined (c ∷ g.0))) fs
fronts c p ne [] s h = tt
fronts c p ne (f ∷ fs) s h = (front c p f.0 ne s.0 h.0, fronts c p ne fs s.1 h.1)

pub order-moved : (c : Bytes) (fs : Listed) → AllByRecursion IsBelowRoot fs → AreInOrder fs
    → AreInOrder (moved (c ∷ []) fs)
order-moved c [] s h = tt
order-moved c (f ∷ fs) s h = (
  all-map (λ (g : Path × Entry). (c ∷ [] ++ g.0, g.1))
      (λ (g : Path × Entry). below (joined (c ∷ f.0)) (joined g.0)) fs
      (fronts c f.0 s.0 fs s.1 h.0),
  order-moved c fs s.1 h.1,
)

pub lists-in-order : {os : List Object} {es : List TreeEntry} {fs : Listed} → Lists os es fs
    → Distinct es → Rises es → AllByRecursion CanWriteEntry es → AreInOrder fs
lists-in-order nothing d r w = tt
lists-in-order (first_file e es files ne l) d r w = (
  above e.name [] w.0.name l
      (over e (e.name ++ [])
      (ap (λ (s : Bytes). e.name ++ s)
      (file_key e.mode ne)) es d.0 r.0 w.1),
  lists-in-order l d.1 r.1 w.1,
)
lists-in-order {os} (first_directory e es inside under files is has sub l) d r w =
    let apart = tree-below os e.id under (record { direct = inside; tree = has; lists = sub }) in
    order-append (moved (e.name ∷ []) under) files
    (order-moved e.name under apart
    (lists-in-order sub (distinct inside has.entries.names_are_distinct)
    (rises inside has.entries.in_order)
    (recursion_from_All CanWriteEntry inside has.entries.entries)))
    (all-map (λ (g : Path × Entry). (e.name ∷ [] ++ g.0, g.1))
    (λ (f : Path × Entry). AllByRecursion (λ g. below (joined f.0) (joined g.0)) files) under
    (all-weaker IsBelowRoot
    (λ (g : Path × Entry). AllByRecursion
    (λ (k : Path × Entry). below (joined (e.name ∷ g.0)) (joined k.0)) files)
    (λ g ne. one g.0 ne) under apart))
    (lists-in-order l d.1 r.1 w.1)
  where
    one : (q : Path) → q ≢ []
        → AllByRecursion (λ (k : Path × Entry). below (joined (e.name ∷ q)) (joined k.0)) files
    one [] ne = absurd (ne refl)
    one (x ∷ q) ne =
        above e.name (x ∷ q) w.0.name l
        (over e (e.name ++ 47 ∷ []) (ap (λ (m : FileMode). e.name ++ slash_of m) is) es d.0 r.0 w.1)

pub tree-in-order : (os : List Object) (id : List ℕ) (fs : Listed) → ListsTree os id fs
    → AreInOrder fs
tree-in-order os id fs t =
    lists-in-order t.lists (distinct t.direct t.tree.entries.names_are_distinct)
    (rises t.direct t.tree.entries.in_order)
    (recursion_from_All CanWriteEntry t.direct t.tree.entries.entries)

-- ---- as a file map

path_less : (p q : Path) → below (joined p) (joined q) → path_cmp p q ≡ Less
path_less p q h = ap (λ (o : Ordering). ordering_then o (slice_cmp (slice_cmp nat_cmp) p q)) h

put-first : (f : Path × Entry) (fs : Listed)
    → AllByRecursion (λ g. below (joined f.0) (joined g.0)) fs → put path_cmp f.0 f.1 fs ≡ f ∷ fs
put-first f [] h = refl
put-first f (g ∷ fs) h = let less = path_less f.0 g.0 h.0 in rw less refl

pub listed-with : (fs : Listed) → AreInOrder fs → listed (with_files finmap.empty fs) ≡ fs
listed-with [] h = ap listed (sym (empty-of [] refl)) ∙ entries-from_sorted path_cmp [] tt
listed-with (f ∷ fs) h =
    entries-insert path_cmp-total (with_files finmap.empty fs) f.0 f.1
    ∙ ap (put path_cmp f.0 f.1) (listed-with fs h.1) ∙ put-first f fs h.0

pub cut-root : (fs : Listed) → cut [] fs ≡ fs
cut-root [] = refl
cut-root (f ∷ fs) = ap (λ (r : Listed). f ∷ r) (cut-root fs)

-- the files of a stored tree are those of its file map, in the same order
pub tree-listed : (os : List Object) (id : List ℕ) (fs : Listed) → ListsTree os id fs
    → files_at (with_files finmap.empty fs) [] ≡ fs
tree-listed os id fs t = ap (cut []) (listed-with fs (tree-in-order os id fs t)) ∙ cut-root fs
