-- Searches for a name in a directory, whose entries stand in Git's order.
use Rattle.std.proofs.Common.{◌≡◌, ◌≢◌, ℕ, zero, suc, ◌-◌, ◌<◌, ◌≤◌, Bool, true, false, cond, not, List, [], ◌∷◌, ◌++◌, refl, sym, ap, ◌∙◌, subst, arith}
use Rattle.std.proofs.lemmas.Bool.{true≢false, ltb-true, ltb-false, lt-ltb, le-ltb}
use Rattle.std.proofs.lemmas.Cmp.{tied_itself}
use Rattle.std.proofs.lemmas.List.{get_or_default, append-nil}
use Rattle.std.proofs.lemmas.List.Edits.{insert_end}
use Rattle.std.proofs.lemmas.List.Sums.{prefix_len_is}
use Rattle.std.proofs.lemmas.Slice.Eq.{bytes_eq-Decides}
use Rattle.std.specs.Cmp.Lexicographic.{slice_cmp, nat_list_cmp_total}
use Rattle.std.specs.List.{insert, remove, position, position_or_len}
use Rattle.std.specs.List.Sorted.{IsPartitionedBy}
use Rattle.std.specs.Cmp.{nat_cmp_total}
use Rattle.std.specs.Ordering.{nat_cmp, is_lt, ordering_reverse, ordering_then}
use Rattle.std.specs.Prelude.{Option, None, Some, MatchOption, length, slice_index_or, slice_set, nat_lt}
use Rattle.std.specs.Str.{bytes_eq}
use Rattle.std.specs.declared.cmp.Ordering.{Ordering}
use Rattle.std.specs.declared.cmp.Ordering.TheVariants.{Less, Equal, Greater}
use Rattle.git_model.specs.Repository.{Object}
use Rattle.git_paths.proofs.Cases.{by_cases}
use Rattle.tree_build.specs.declared.dir.Node.{Node}
use Rattle.tree_build.specs.Shape.{What, file, unopened, opened, Shape, none, row, Held}
use Rattle.tree_build.specs.Branch.{slash_after, key_of, IsNodeBefore, IsBeforeAll, IsShape, IsHeld}
use Rattle.tree_build.specs.Editing.{child, removed, inserted, changed}
use Rattle.tree_build.specs.Nodes.{held, shape_of, has_name}
use Rattle.tree_build.specs.Searches.{AreOrdered, is_after, IsPlaceAfter, IsNotLast, HasNone}
use Rattle.tree_build.proofs.Entries.{one_held}
use Rattle.tree_build.proofs.Look.{is_bytes, not_bytes}
use Rattle.tree_build.proofs.Named.{Rows, shape_insert}

abbrev cmp : List ℕ → List ℕ → Ordering
cmp a b = slice_cmp nat_cmp a b

abbrev key_at : List ℕ × Node → List ℕ
key_at e = key_of e.0 (held e.1).what

-- ---- every branch is in order

pub ordered : (os : List Object) (s : Shape) → IsShape os s → AreOrdered s
ordered os none h = tt
ordered os (row c w inside rest) h = (h.1, ordered os inside h.2, ordered os rest h.3)

pub ordered_held : (os : List Object) (h : Held) → IsHeld os h → AreOrdered h.inside
ordered_held os h k = ordered os h.inside k.1

before_removed : (c : List ℕ) (w : What) (s : Shape) (d : List ℕ) → IsBeforeAll c w s → IsBeforeAll c w (removed s d)
before_removed c w none d h = tt
before_removed c w (row x v inside rest) d h =
    by_cases (bytes_eq x d) (λ yea. rw yea h.1) (λ nay. rw nay (h.0, before_removed c w rest d h.1))

pub ordered_removed : (s : Shape) (c : List ℕ) → AreOrdered s → AreOrdered (removed s c)
ordered_removed none c h = tt
ordered_removed (row d w inside rest) c h =
    by_cases (bytes_eq d c) (λ yea. rw yea h.2)
    (λ nay. rw nay (before_removed d w rest c h.0, h.1, ordered_removed rest c h.2))

pub ordered_at : (es : Rows) (at : ℕ) (y : List ℕ × Node) → y ≡ slice_index_or es at y → at < length es → AreOrdered (shape_of es)
    → AreOrdered (held y.1).inside
ordered_at [] at y is within h = absurd (omega arith)
ordered_at (e ∷ es) zero y is within h = subst (λ (x : List ℕ × Node). AreOrdered (held x.1).inside) (sym is) h.1
ordered_at (e ∷ es) (suc at) y is within h = ordered_at es at y is (omega arith) h.2

-- ---- two entries of a directory

before_at : (c : List ℕ) (w : What) (es : Rows) → IsBeforeAll c w (shape_of es) → (j : ℕ) (d : List ℕ × Node) → j < length es
    → IsNodeBefore c w (slice_index_or es j d).0 (held (slice_index_or es j d).1).what
before_at c w [] h j d lt = absurd (omega arith)
before_at c w (e ∷ es) h zero d lt = h.0
before_at c w (e ∷ es) h (suc j) d lt = before_at c w es h.1 j d (omega arith)

pub pair_at : (es : Rows) → AreOrdered (shape_of es) → (i j : ℕ) (d : List ℕ × Node) → i < j → j < length es
    → IsNodeBefore (slice_index_or es i d).0 (held (slice_index_or es i d).1).what (slice_index_or es j d).0 (held (slice_index_or es j d).1).what
pair_at [] h i j d lt within = absurd (omega arith)
pair_at (e ∷ es) h i zero d lt within = absurd (omega arith)
pair_at (e ∷ es) h zero (suc j) d lt within = before_at e.0 (held e.1).what es h.0 j d (omega arith)
pair_at (e ∷ es) h (suc i) (suc j) d lt within = pair_at es h.2 i j d (omega arith) (omega arith)

-- ---- the place after a key

less : (o : Ordering) → is_lt o ≡ true → o ≡ Less
less Less h = refl
less Equal h = cc h
less Greater h = cc h

-- what stands after an entry that comes after a key comes after it too
pub parted : (key : List ℕ) (es : Rows) → AreOrdered (shape_of es) → IsPartitionedBy (λ e. not (is_after key e)) es
parted key es h i j d le within passes =
    by_cases (is_after key (slice_index_or es i d))
    (λ yea. by_cases (nat_lt i j)
    (λ before.
    let apart = (pair_at es h i j d (ltb-true i j before) within).order in
    let far = nat_list_cmp_total.trans key (key_at (slice_index_or es i d)) (key_at (slice_index_or es j d)) (less _ yea) apart in
    absurd (true≢false (sym passes ∙ ap (λ (o : Ordering). not (is_lt o)) far)))
    (λ same.
    let past = ltb-false i j same in let one : i ≡ j = omega arith in
    absurd (true≢false (sym passes ∙ ap not (sym (ap (λ (k : ℕ). is_after key (slice_index_or es k d)) one) ∙ yea)))))
    (λ nay. ap not nay)

-- the first entry that comes after it
pub place_is : (key : List ℕ) (es : Rows) (i : ℕ) → i ≤ length es → IsPlaceAfter key es i → position_or_len (is_after key) es ≡ i
place_is key [] i within point = omega arith
place_is key (e ∷ es) i within point =
    prefix_len_is (λ x. not (is_after key x)) (e ∷ es) i e within (λ k lt. point.0 k e (omega arith) lt)
    (λ lt. point.1 i e (omega arith) lt)

-- ---- the entry of a name

-- no two entries have one name
pub first_named : (c : List ℕ) (es : Rows) → AreOrdered (shape_of es) → (at : ℕ) (d : List ℕ × Node) → at < length es
    → (slice_index_or es at d).0 ≡ c → position (has_name c) es ≡ Some at
first_named c es h at d within is =
    let here : has_name c (slice_index_or es at d) ≡ true = (bytes_eq-Decides _ c).1 is in
    let n : position_or_len (has_name c) es ≡ at =
    prefix_len_is (λ x. not (has_name c x)) es at d (omega arith)
    (λ k lt. ap not (not_bytes (slice_index_or es k d).0 c (λ e. (pair_at es h k at d lt within).names (e ∙ sym is))))
    (λ lt. ap not here) in
    let found = lt-ltb at (length es) within in
    ap (λ (k : ℕ). cond (nat_lt k (length es)) (Some k) None) n ∙ ap (λ (b : Bool). cond b (Some at) None) found

-- an entry of a name and a kind stands right before the place after its key
pub none_named : (c slash : List ℕ) (es : Rows) → AreOrdered (shape_of es) → (next : ℕ) → next ≤ length es
    → IsPlaceAfter (c ++ slash) es next
    → ((d : List ℕ × Node) → 0 < next → (slice_index_or es (next - 1) d).0 ≢ c) → HasNone c slash es
none_named c slash es h next bound point other m d within is end =
    let key : key_at (slice_index_or es m d) ≡ c ++ slash =
    ap (λ (x : List ℕ). x ++ slash_after (held (slice_index_or es m d).1).what) is ∙ ap (λ (x : List ℕ). c ++ x) end in
    let tied : is_after (c ++ slash) (slice_index_or es m d) ≡ false =
    ap (λ (x : List ℕ). is_lt (cmp (c ++ slash) x)) key ∙ ap is_lt (tied_itself nat_list_cmp_total (c ++ slash)) in
    by_cases (nat_lt m next)
    (λ before. let near = ltb-true m next before in by_cases (nat_lt m (next - 1))
    (λ far. let further = ltb-true m (next - 1) far in
    let apart = (pair_at es h m (next - 1) d (omega arith) (omega arith)).order in
    let is_later : is_after (c ++ slash) (slice_index_or es (next - 1) d) ≡ true =
    ap (λ (x : List ℕ). is_lt (cmp x (key_at (slice_index_or es (next - 1) d)))) (sym key) ∙ ap is_lt apart in
    let no = point.0 (next - 1) d (omega arith) (omega arith) in
    absurd (true≢false (sym no ∙ ap not is_later)))
    (λ close. let past = ltb-false m (next - 1) close in
    let one : m ≡ next - 1 = omega arith in
    absurd (other d (omega arith) (ap (λ (k : ℕ). (slice_index_or es k d).0) (sym one) ∙ is))))
    (λ after.
    let no = point.1 m d (ltb-false m next after) within in
    absurd (true≢false (sym (ap not tied) ∙ no)))

-- ---- the last entry

-- where the last entry does not come after a key, none does
pub past_all : (key : List ℕ) (es : Rows) → AreOrdered (shape_of es) → (y : List ℕ × Node)
    → y ≡ slice_index_or es (length es - 1) y → 0 < length es → not (is_after key y) ≡ true
    → IsPlaceAfter key es (length es)
past_all key es h y is some last = (
  λ k d low lt.
      parted key es h k (length es - 1) d (omega arith) (omega arith)
      (ap (λ (e : List ℕ × Node). not (is_after key e)) (sym (is ∙ get_or_default es (length es - 1) y d (omega arith))) ∙ last),
  λ k d low lt. absurd (omega arith),
)

longer : (c : List ℕ) (b : ℕ) → cmp c (c ++ b ∷ []) ≡ Less
longer [] b = refl
longer (x ∷ c) b =
    ap (λ (o : Ordering). ordering_then o (cmp c (c ++ b ∷ []))) (tied_itself nat_cmp_total x) ∙ longer c b

-- where no entry comes after a file of a name, none comes after a directory of it
file_first : (c : List ℕ) (es : Rows) → IsPlaceAfter (c ++ []) es (length es)
    → IsPlaceAfter (c ++ 47 ∷ []) es (length es)
file_first c es point = (
  λ k d low lt.
      by_cases (is_after (c ++ 47 ∷ []) (slice_index_or es k d))
      (λ yea.
      let far = nat_list_cmp_total.trans c (c ++ 47 ∷ []) (key_at (slice_index_or es k d)) (longer c 47) (less _ yea) in
      let no = ap (λ (x : List ℕ). not (is_after x (slice_index_or es k d))) (sym (append-nil c)) ∙ point.0 k d low lt in
      absurd (true≢false (sym no ∙ ap (λ (o : Ordering). not (is_lt o)) far)))
      (λ nay. ap not nay),
  λ k d low lt. absurd (omega arith),
)

-- there one of this name goes after all others
pub shape_append : (c : List ℕ) (n : Node) (es : Rows) → IsPlaceAfter c es (length es)
    → shape_of (es ++ (c, n) ∷ []) ≡ inserted c (held n) (shape_of es)
shape_append c n es point =
    ap shape_of (sym (insert_end es (c, n)))
    ∙ ap (λ (k : ℕ). shape_of (insert es k (c, n)))
    (sym (place_is (key_of c (held n).what) es (length es) (omega arith) (past (held n).what)))
    ∙ shape_insert c n es
  where
    past_file : IsPlaceAfter (c ++ []) es (length es)
    past_file = subst (λ (key : List ℕ). IsPlaceAfter key es (length es)) (sym (append-nil c)) point

    past : (w : What) → IsPlaceAfter (key_of c w) es (length es)
    past (file e) = past_file
    past (unopened id) = file_first c es past_file
    past (opened tree) = file_first c es past_file

pub another : (es : Rows) (at : ℕ) (y : List ℕ × Node) → y ≡ slice_index_or es at y → (c : List ℕ) → at < length es → (y.0 ≡ c → ⊥)
    → (d : List ℕ × Node) → (slice_index_or es at d).0 ≢ c
another es at y is c within other d =
    λ same. other (ap (λ (x : List ℕ × Node). x.0) (is ∙ get_or_default es at y d within) ∙ same)

pub removed_set : (es : Rows) (at : ℕ) (y : List ℕ × Node) → remove (slice_set es at y) at ≡ remove es at
removed_set [] at y = refl
removed_set (e ∷ es) zero y = refl
removed_set (e ∷ es) (suc at) y = ap (λ (l : Rows). e ∷ l) (removed_set es at y)

-- an entry of a name is a directory, or has no slash after it
pub nowhere : (c : List ℕ) (es : Rows) → HasNone c (47 ∷ []) es → HasNone c [] es → position (has_name c) es ≡ None
nowhere c [] h k = refl
nowhere c (e ∷ es) h k =
    let n : position_or_len (has_name c) (e ∷ es) ≡ length (e ∷ es) =
    prefix_len_is (λ x. not (has_name c x)) (e ∷ es) (length (e ∷ es)) e (omega arith)
    (λ m lt. ap not (not_bytes (slice_index_or (e ∷ es) m e).0 c (λ is. neither (held (slice_index_or (e ∷ es) m e).1).what (h m e lt is) (k m e lt is))))
    (λ lt. absurd (omega arith)) in
    let beyond = le-ltb (length (e ∷ es)) (length (e ∷ es)) (omega arith) in
    ap (λ (m : ℕ). cond (nat_lt m (length (e ∷ es))) (Some m) None) n
    ∙ ap (λ (b : Bool). cond b (Some (length (e ∷ es))) None) beyond
  where
    neither : (w : What) → slash_after w ≢ 47 ∷ [] → slash_after w ≢ [] → ⊥
    neither (file x) a b = b refl
    neither (unopened id) a b = a refl
    neither (opened tree) a b = a refl

-- where the last entry has another name, and none comes after a file of this name
pub none_past : (c : List ℕ) (es : Rows) → AreOrdered (shape_of es) → IsNotLast c es
    → IsPlaceAfter (c ++ []) es (length es) → position (has_name c) es ≡ None
none_past c es h other point =
    nowhere c es
    (none_named c (47 ∷ []) es h (length es) (omega arith) (file_first c es point) other)
    (none_named c [] es h (length es) (omega arith) point other)

pub found_or_none : (c : List ℕ) (es : Rows) (o : Option ℕ) → HasNone c (47 ∷ []) es
    → MatchOption o (HasNone c [] es) (λ at. position (has_name c) es ≡ Some at) → o ≡ position (has_name c) es
found_or_none c es None h m = sym (nowhere c es h m)
found_or_none c es (Some at) h m = sym m

-- ---- one entry in place of another of its name and kind

turned : (c : List ℕ) (d : List ℕ) → cmp d c ≡ Less → is_lt (cmp c d) ≡ false
turned c d before = ap is_lt (nat_list_cmp_total.antisymm c d ∙ ap ordering_reverse before)

child_after : (d : List ℕ) (v : What) (s : Shape) → IsBeforeAll d v s → (c : List ℕ) (k : Held) → child s c ≡ Some k
    → cmp (key_of d v) (key_of c k.what) ≡ Less
child_after d v none h c k there = cc there
child_after d v (row x w inside rest) h c k there =
    by_cases (bytes_eq x c)
    (λ yea.
    let one = one_held (record { what = w; inside = inside }) k (subst (λ (b : Bool). cond b (Some (record { what = w; inside = inside })) (child rest c) ≡ Some k) yea there) in
    ap (λ (y : Held). cmp (key_of d v) (key_of c y.what)) (sym one)
    ∙ ap (λ (y : List ℕ). cmp (key_of d v) (key_of y w)) (sym (is_bytes x c yea))
    ∙ h.0.order)
    (λ nay. child_after d v rest h.1 c k (subst (λ (b : Bool). cond b (Some (record { what = w; inside = inside })) (child rest c) ≡ Some k) nay there))

put_first : (c : List ℕ) (w : What) (h : Held) (s : Shape) → slash_after h.what ≡ slash_after w → IsBeforeAll c w s
    → inserted c h s ≡ row c h.what h.inside s
put_first c w h none same before = refl
put_first c w h (row d v inside rest) same before =
    let first : is_lt (cmp (key_of c h.what) (key_of d v)) ≡ true =
    ap (λ (x : List ℕ). is_lt (cmp (c ++ x) (key_of d v))) same ∙ ap is_lt before.0.order in
    rw first refl

pub put_alike : (s : Shape) (c : List ℕ) (h k : Held) → AreOrdered s → child s c ≡ Some k
    → slash_after h.what ≡ slash_after k.what → changed s c h ≡ inserted c h (removed s c)
put_alike none c h k ord there same = cc there
put_alike (row d w inside rest) c h k ord there same =
    by_cases (bytes_eq d c)
    (λ yea.
    let is = is_bytes d c yea in
    let one = one_held (record { what = w; inside = inside }) k (subst (λ (b : Bool). cond b (Some (record { what = w; inside = inside })) (child rest c) ≡ Some k) yea there) in
    rw yea (
    ap (λ (x : List ℕ). row x h.what h.inside rest) is
    ∙ sym (put_first c w h rest (same ∙ ap (λ (x : Held). slash_after x.what) (sym one)) (subst (λ (x : List ℕ). IsBeforeAll x w rest) is ord.0))
    ))
    (λ nay.
    let later : child rest c ≡ Some k = subst (λ (b : Bool). cond b (Some (record { what = w; inside = inside })) (child rest c) ≡ Some k) nay there in
    let is_later : is_lt (cmp (key_of c h.what) (key_of d w)) ≡ false =
    ap (λ (x : List ℕ). is_lt (cmp (c ++ x) (key_of d w))) same ∙ turned (key_of c k.what) (key_of d w) (child_after d w rest ord.0 c k later) in
    rw nay (rw is_later (ap (row d w inside) (put_alike rest c h k ord.2 later same))))

-- ---- a search by halves

-- where an entry does not come after a key, none up to it does
pub none_up_to : (key : List ℕ) (es : Rows) → AreOrdered (shape_of es) → (m : ℕ) (y : List ℕ × Node)
    → y ≡ slice_index_or es m y → m < length es → is_after key y ≡ false
    → (i : ℕ) (d : List ℕ × Node) → i ≤ m → not (is_after key (slice_index_or es i d)) ≡ true
none_up_to key es h m y is lt early i d le =
    parted key es h i m d le lt
    (ap (λ (e : List ℕ × Node). not (is_after key e)) (sym (is ∙ get_or_default es m y d lt)) ∙ ap not early)

-- where an entry comes after a key, all from it on do
pub all_from : (key : List ℕ) (es : Rows) → AreOrdered (shape_of es) → (m : ℕ) (y : List ℕ × Node)
    → y ≡ slice_index_or es m y → m < length es → is_after key y ≡ true
    → (i : ℕ) (d : List ℕ × Node) → m ≤ i → i < length es → not (is_after key (slice_index_or es i d)) ≡ false
all_from key es h m y is lt late i d le within =
    by_cases (not (is_after key (slice_index_or es i d)))
    (λ yea.
    absurd (true≢false (sym (parted key es h m i d le within yea)
    ∙ ap (λ (e : List ℕ × Node). not (is_after key e)) (sym (is ∙ get_or_default es m y d lt)) ∙ ap not late)))
    (λ nay. nay)
