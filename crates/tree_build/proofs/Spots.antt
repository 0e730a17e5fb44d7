-- The chunks of the entries of a directory, and the place of an entry in them.
use Rattle.std.proofs.Common.{◌≡◌, ℕ, zero, suc, ◌+◌, ◌-◌, ◌<◌, ◌≤◌, List, [], ◌∷◌, ◌++◌, length, take, drop, refl, sym, ap, ◌∙◌, subst, arith, length-append, Ok, Err}
use Rattle.std.proofs.lemmas.List.{length-set, set-append_left, set-append_right, append_assoc, append-nil}
use Rattle.std.proofs.lemmas.List.Edits.{insert-append_left, insert-append_right, remove-append_left, remove-append_right}
use Rattle.std.specs.List.{insert, remove}
use Rattle.std.specs.Prelude.{slice_set, slice_index_or, OnErr, Result}
use Rattle.tree_build.specs.declared.dir.Node.{Node}
use Rattle.tree_build.specs.declared.dir.Chunk.{Chunk}
use Rattle.tree_build.specs.Chunks.{all, before, CountsTo, AreStarts, IsSpot}

abbrev pub Row : Type 0
Row = List ℕ × Node

abbrev pub Chunks : Type 0
Chunks = List Chunk

pub spot_chunk : (vs : Chunks) (p k o : ℕ) → IsSpot vs p k o → k < length vs
spot_chunk [] p k o h = absurd h
spot_chunk (v ∷ vs) p zero o h = omega arith
spot_chunk (v ∷ vs) p (suc k) o h = let n = spot_chunk vs (p - length v.entries.items) k o h.1 in omega arith

pub spot_offset : (vs : Chunks) (p k o : ℕ) → IsSpot vs p k o → (d : Chunk) → o < length (slice_index_or vs k d).entries.items
spot_offset [] p k o h d = absurd h
spot_offset (v ∷ vs) p zero o h d = h.0
spot_offset (v ∷ vs) p (suc k) o h d = spot_offset vs (p - length v.entries.items) k o h.1 d

-- where an entry stands, in chunks that were lent
pub spot_lent : (us vs : Chunks) (p k o : ℕ) → us ≡ vs → IsSpot us p k o → IsSpot vs p k o × (k < length vs)
spot_lent us vs p k o is h =
    let there = subst (λ (l : Chunks). IsSpot l p k o) is h in (there, spot_chunk vs p k o there)

get_left : (xs ys : List Row) (i : ℕ) (d : Row) → i < length xs → slice_index_or (xs ++ ys) i d ≡ slice_index_or xs i d
get_left [] ys i d lt = absurd (omega arith)
get_left (x ∷ xs) ys zero d lt = refl
get_left (x ∷ xs) ys (suc i) d lt = get_left xs ys i d (omega arith)

get_right : (xs ys : List Row) (i : ℕ) (d : Row) → length xs ≤ i → slice_index_or (xs ++ ys) i d ≡ slice_index_or ys (i - length xs) d
get_right [] ys i d le = ap (λ (k : ℕ). slice_index_or ys k d) (omega arith)
get_right (x ∷ xs) ys zero d le = absurd (omega arith)
get_right (x ∷ xs) ys (suc i) d le = get_right xs ys i d (omega arith) ∙ ap (λ (k : ℕ). slice_index_or ys k d) (omega arith)

pub spot_at : (vs : Chunks) (p k o : ℕ) → IsSpot vs p k o → (d : Chunk) (x : Row)
    → slice_index_or (slice_index_or vs k d).entries.items o x ≡ slice_index_or (all vs) p x
spot_at [] p k o h d x = absurd h
spot_at (v ∷ vs) p zero o h d x =
    sym (ap (λ (i : ℕ). slice_index_or (v.entries.items ++ all vs) i x) h.1 ∙ get_left v.entries.items (all vs) o x h.0)
spot_at (v ∷ vs) p (suc k) o h d x =
    spot_at vs (p - length v.entries.items) k o h.1 d x ∙ sym (get_right v.entries.items (all vs) p x h.0)

pub spot_set : (vs : Chunks) (p k o : ℕ) → IsSpot vs p k o → (d w : Chunk) (x : Row) → w.entries.items ≡ slice_set (slice_index_or vs k d).entries.items o x
    → all (slice_set vs k w) ≡ slice_set (all vs) p x
spot_set [] p k o h d w x is = absurd h
spot_set (v ∷ vs) p zero o h d w x is =
    ap (λ (l : List Row). l ++ all vs) is ∙ sym (set-append_left v.entries.items (all vs) o x h.0)
    ∙ ap (λ (i : ℕ). slice_set (v.entries.items ++ all vs) i x) (sym h.1)
spot_set (v ∷ vs) p (suc k) o h d w x is =
    ap (λ (l : List Row). v.entries.items ++ l) (spot_set vs (p - length v.entries.items) k o h.1 d w x is)
    ∙ sym (set-append_right v.entries.items (all vs) (length v.entries.items) p x refl h.0)

pub spot_insert : (vs : Chunks) (p k o : ℕ) → IsSpot vs p k o → (d w : Chunk) (x : Row) → w.entries.items ≡ insert (slice_index_or vs k d).entries.items o x
    → all (slice_set vs k w) ≡ insert (all vs) p x
spot_insert [] p k o h d w x is = absurd h
spot_insert (v ∷ vs) p zero o h d w x is =
    ap (λ (l : List Row). l ++ all vs) is ∙ sym (insert-append_left v.entries.items (all vs) o x (omega (arith, h.0)))
    ∙ ap (λ (i : ℕ). insert (v.entries.items ++ all vs) i x) (sym h.1)
spot_insert (v ∷ vs) p (suc k) o h d w x is =
    ap (λ (l : List Row). v.entries.items ++ l) (spot_insert vs (p - length v.entries.items) k o h.1 d w x is)
    ∙ sym (insert-append_right v.entries.items (all vs) (length v.entries.items) p x refl h.0)

pub spot_remove : (vs : Chunks) (p k o : ℕ) → IsSpot vs p k o → (d w : Chunk) → w.entries.items ≡ remove (slice_index_or vs k d).entries.items o
    → all (slice_set vs k w) ≡ remove (all vs) p
spot_remove [] p k o h d w is = absurd h
spot_remove (v ∷ vs) p zero o h d w is =
    ap (λ (l : List Row). l ++ all vs) is ∙ sym (remove-append_left v.entries.items (all vs) o h.0)
    ∙ ap (λ (i : ℕ). remove (v.entries.items ++ all vs) i) (sym h.1)
spot_remove (v ∷ vs) p (suc k) o h d w is =
    ap (λ (l : List Row). v.entries.items ++ l) (spot_remove vs (p - length v.entries.items) k o h.1 d w is)
    ∙ sym (remove-append_right v.entries.items (all vs) (length v.entries.items) p refl h.0)

-- ---- chunks without entries, and two chunks of one

pub none_removed : (vs : Chunks) (k : ℕ) (d : Chunk) → k < length vs → length (slice_index_or vs k d).entries.items ≡ 0
    → all (remove vs k) ≡ all vs
none_removed [] k d lt is = absurd (omega arith)
none_removed (v ∷ vs) zero d lt is = sym (empty_front v.entries.items (all vs) is)
  where
    empty_front : (xs ys : List Row) → length xs ≡ 0 → xs ++ ys ≡ ys
    empty_front [] ys n = refl
    empty_front (x ∷ xs) ys n = absurd (omega arith)
none_removed (v ∷ vs) (suc k) d lt is = ap (λ (l : List Row). v.entries.items ++ l) (none_removed vs k d (omega arith) is)

pub in_two : (vs : Chunks) (k : ℕ) (d e a b : Chunk) → k < length vs → a.entries.items ++ b.entries.items ≡ (slice_index_or vs k d).entries.items
    → all (slice_set (slice_set (insert vs (suc k) e) k a) (suc k) b) ≡ all vs
in_two [] k d e a b lt is = absurd (omega arith)
in_two (v ∷ vs) zero d e a b lt is =
    sym (append_assoc a.entries.items b.entries.items (all vs)) ∙ ap (λ (l : List Row). l ++ all vs) is
in_two (v ∷ vs) (suc k) d e a b lt is = ap (λ (l : List Row). v.entries.items ++ l) (in_two vs k d e a b (omega arith) is)

-- ---- where the entry of a place stands

pub before_none : (vs : Chunks) → before vs 0 ≡ 0
before_none [] = refl
before_none (v ∷ vs) = refl

pub before_next : (vs : Chunks) (k : ℕ) (d : Chunk) → k < length vs
    → before vs (suc k) ≡ before vs k + length (slice_index_or vs k d).entries.items
before_next [] k d lt = absurd (omega arith)
before_next (v ∷ vs) zero d lt = let n = before_none vs in omega arith
before_next (v ∷ vs) (suc k) d lt = let n = before_next vs k d (omega arith) in omega arith

pub before_least : (vs : Chunks) (k : ℕ) → before vs k ≤ length (all vs)
before_least [] k = omega arith
before_least (v ∷ vs) zero = omega arith
before_least (v ∷ vs) (suc k) =
    let n = length-append v.entries.items (all vs) in let m = before_least vs k in omega arith

pub before_whole : (vs : Chunks) → before vs (length vs) ≡ length (all vs)
before_whole [] = refl
before_whole (v ∷ vs) =
    let n = length-append v.entries.items (all vs) in let m = before_whole vs in omega arith

pub some_chunk : (vs : Chunks) (p : ℕ) → p < length (all vs) → 0 < length vs
some_chunk [] p lt = absurd (omega arith)
some_chunk (v ∷ vs) p lt = omega arith

pub spot_in : (vs : Chunks) (p k : ℕ) → k < length vs → before vs k ≤ p → p < before vs (suc k)
    → IsSpot vs p k (p - before vs k)
spot_in [] p k lt from to = absurd (omega arith)
spot_in (v ∷ vs) p zero lt from to = let n = before_none vs in (omega arith, omega arith)
spot_in (v ∷ vs) p (suc k) lt from to = (
  omega arith,
  subst (λ (o : ℕ). IsSpot vs (p - length v.entries.items) k o) (omega arith)
      (spot_in vs (p - length v.entries.items) k (omega arith) (omega arith) (omega arith)),
)

-- ---- what the chunks know of their starts

pub before_front : (vs us : Chunks) (c k : ℕ) → k ≤ c → take c us ≡ take c vs → before us k ≡ before vs k
before_front vs us c k le is = sym (own us c k le) ∙ ap (λ (l : Chunks). before l k) is ∙ own vs c k le
  where
    own : (vs : Chunks) (c k : ℕ) → k ≤ c → before (take c vs) k ≡ before vs k
    own [] zero k le = refl
    own [] (suc c) k le = refl
    own (v ∷ vs) zero zero le = refl
    own (v ∷ vs) zero (suc k) le = absurd (omega arith)
    own (v ∷ vs) (suc c) zero le = refl
    own (v ∷ vs) (suc c) (suc k) le = ap (λ (n : ℕ). length v.entries.items + n) (own vs c k (omega arith))

pub start_front : (vs us : Chunks) (c k : ℕ) (d : Chunk) → k < c → take c us ≡ take c vs
    → slice_index_or us k d ≡ slice_index_or vs k d
start_front vs us c k d lt is = sym (own us c k lt) ∙ ap (λ (l : Chunks). slice_index_or l k d) is ∙ own vs c k lt
  where
    own : (vs : Chunks) (c k : ℕ) → k < c → slice_index_or (take c vs) k d ≡ slice_index_or vs k d
    own [] zero k lt = refl
    own [] (suc c) k lt = refl
    own (v ∷ vs) zero k lt = absurd (omega arith)
    own (v ∷ vs) (suc c) zero lt = refl
    own (v ∷ vs) (suc c) (suc k) lt = own vs c k (omega arith)

pub counts_front : (vs us : Chunks) (c : ℕ) → c ≤ length vs → take c us ≡ take c vs → AreStarts vs → CountsTo c us
counts_front vs us c le is h k d lt =
    ap (λ (v : Chunk). v.start) (start_front vs us c k d lt is) ∙ h k d (omega arith)
    ∙ sym (before_front vs us c k (omega arith) is)

pub take_set : (vs : Chunks) (c k : ℕ) (w : Chunk) → k ≤ c → take k (slice_set vs c w) ≡ take k vs
take_set vs c zero w le = refl
take_set [] c (suc k) w le = refl
take_set (v ∷ vs) zero (suc k) w le = absurd (omega arith)
take_set (v ∷ vs) (suc c) (suc k) w le = ap (λ (l : Chunks). v ∷ l) (take_set vs c k w (omega arith))

pub counts_set : (vs us : Chunks) (k : ℕ) (w : Chunk) → k < length vs
    → take k us ≡ take k (slice_set vs k w) → AreStarts vs → CountsTo k us
counts_set vs us k w lt front = counts_front vs us k (omega arith) (front ∙ take_set vs k k w (omega arith))

pub take_remove : (vs : Chunks) (c : ℕ) → take c (remove vs c) ≡ take c vs
take_remove vs zero = refl
take_remove [] (suc c) = refl
take_remove (v ∷ vs) (suc c) = ap (λ (l : Chunks). v ∷ l) (take_remove vs c)

length_insert : (xs : List Row) (i : ℕ) (x : Row) → i ≤ length xs → length (insert xs i x) ≡ suc (length xs)
length_insert xs zero x le = refl
length_insert [] (suc i) x le = absurd (omega arith)
length_insert (y ∷ ys) (suc i) x le = ap suc (length_insert ys i x (omega arith))

pub length_remove : {A : Type 0} (xs : List A) (i : ℕ) → i < length xs → suc (length (remove xs i)) ≡ length xs
length_remove [] i lt = absurd (omega arith)
length_remove (y ∷ ys) zero lt = refl
length_remove (y ∷ ys) (suc i) lt = ap suc (length_remove ys i (omega arith))

-- how many there are after one more, or one less
pub len_inserted : (us xs : List Row) (p n : ℕ) (x : Row) → us ≡ insert xs p x
    → n ≡ length xs + 1 → p + 1 < n → n ≡ length us
len_inserted us xs p n x is len place =
    let more = ap (λ (l : List Row). length l) is in
    let one = length_insert xs p x (omega arith) in omega arith

pub len_removed : (us xs : List Row) (p n : ℕ) → us ≡ remove xs p → n + 1 ≡ length xs → p ≤ n → n ≡ length us
len_removed us xs p n is len place =
    let less = ap (λ (l : List Row). length l) is in let one = length_remove xs p (omega arith) in omega arith

-- one chunk changed, that has as many entries as before
pub before_set : (vs : Chunks) (c k : ℕ) (d w : Chunk)
    → length w.entries.items ≡ length (slice_index_or vs c d).entries.items
    → before (slice_set vs c w) k ≡ before vs k
before_set [] c k d w is = refl
before_set (v ∷ vs) zero zero d w is = refl
before_set (v ∷ vs) zero (suc k) d w is = ap (λ (n : ℕ). n + before vs k) is
before_set (v ∷ vs) (suc c) zero d w is = refl
before_set (v ∷ vs) (suc c) (suc k) d w is =
    ap (λ (n : ℕ). length v.entries.items + n) (before_set vs c k d w is)

pub start_set : (vs : Chunks) (c k : ℕ) (d w e : Chunk) → w.start ≡ (slice_index_or vs c d).start
    → k < length vs → (slice_index_or (slice_set vs c w) k e).start ≡ (slice_index_or vs k e).start
start_set [] c k d w e is lt = absurd (omega arith)
start_set (v ∷ vs) zero zero d w e is lt = is
start_set (v ∷ vs) zero (suc k) d w e is lt = refl
start_set (v ∷ vs) (suc c) zero d w e is lt = refl
start_set (v ∷ vs) (suc c) (suc k) d w e is lt = start_set vs c k d w e is (omega arith)

pub starts_set : (vs : Chunks) (c : ℕ) (d w : Chunk) → w.start ≡ (slice_index_or vs c d).start
    → length w.entries.items ≡ length (slice_index_or vs c d).entries.items
    → AreStarts vs → AreStarts (slice_set vs c w)
starts_set vs c d w start many h k e lt =
    let n = length-set vs c w in
    start_set vs c k d w e start (omega arith) ∙ h k e (omega arith) ∙ sym (before_set vs c k d w many)

-- the last chunk changed
pub starts_last : (vs : Chunks) (c : ℕ) (d w : Chunk) → length vs ≡ suc c
    → w.start ≡ (slice_index_or vs c d).start → AreStarts vs → AreStarts (slice_set vs c w)
starts_last vs c d w last start h k e lt =
    let n = length-set vs c w in
    start_set vs c k d w e start (omega arith) ∙ h k e (omega arith)
    ∙ sym (before_front vs (slice_set vs c w) c k (omega arith) (take_set vs c c w (omega arith)))

up_to : (P : ℕ → Type 0) (n : ℕ) → ((k : ℕ) → k < n → P k) → P n → (k : ℕ) → k < suc n → P k
up_to P zero h last zero lt = last
up_to P zero h last (suc k) lt = absurd (omega arith)
up_to P (suc n) h last zero lt = h 0 (omega arith)
up_to P (suc n) h last (suc k) lt =
    up_to (λ (m : ℕ). P (suc m)) n (λ m less. h (suc m) (omega arith)) last k (omega arith)

-- one chunk more knows its start
pub counts_more : (vs : Chunks) (i : ℕ) (d w : Chunk) → i < length vs → w.start ≡ before vs i
    → length w.entries.items ≡ length (slice_index_or vs i d).entries.items
    → CountsTo i vs → CountsTo (suc i) (slice_set vs i w)
counts_more vs i d w lt start many h k e less =
    up_to (λ (m : ℕ). (slice_index_or (slice_set vs i w) m e).start ≡ before (slice_set vs i w) m) i
    (λ m under.
    ap (λ (v : Chunk). v.start) (start_front vs (slice_set vs i w) i m e under (take_set vs i i w (omega arith)))
    ∙ h m e under ∙ sym (before_set vs i m d w many))
    (here vs i lt ∙ start ∙ sym (before_set vs i i d w many)) k less
  where
    here : (us : Chunks) (j : ℕ) → j < length us → (slice_index_or (slice_set us j w) j e).start ≡ w.start
    here [] j lt = absurd (omega arith)
    here (u ∷ us) zero lt = refl
    here (u ∷ us) (suc j) lt = here us j (omega arith)

-- a chunk more at the end
pub starts_more : (vs : Chunks) (w : Chunk) → w.start ≡ length (all vs) → AreStarts vs → AreStarts (vs ++ w ∷ [])
starts_more vs w start h k e lt =
    let n = length-append vs (w ∷ []) in
    up_to (λ (m : ℕ). (slice_index_or (vs ++ w ∷ []) m e).start ≡ before (vs ++ w ∷ []) m) (length vs)
    (λ m under.
    ap (λ (v : Chunk). v.start) (start_front vs (vs ++ w ∷ []) (length vs) m e under (front vs))
    ∙ h m e under ∙ sym (before_front vs (vs ++ w ∷ []) (length vs) m (omega arith) (front vs)))
    (here vs ∙ start ∙ sym (before_whole vs)
    ∙ sym (before_front vs (vs ++ w ∷ []) (length vs) (length vs) (omega arith) (front vs)))
    k (omega arith)
  where
    here : (us : Chunks) → (slice_index_or (us ++ w ∷ []) (length us) e).start ≡ w.start
    here [] = refl
    here (u ∷ us) = here us

    front : (us : Chunks) → take (length us) (us ++ w ∷ []) ≡ take (length us) us
    front [] = refl
    front (u ∷ us) = ap (λ (l : Chunks). u ∷ l) (front us)

-- ---- chunks at the end and between

pub one_more : (vs : Chunks) (e : Chunk) → e.entries.items ≡ [] → all (vs ++ e ∷ []) ≡ all vs
one_more [] e is = ap (λ (l : List Row). l ++ []) is
one_more (v ∷ vs) e is = ap (λ (l : List Row). v.entries.items ++ l) (one_more vs e is)

pub one_between : (vs : Chunks) (k : ℕ) (e : Chunk) → k ≤ length vs → e.entries.items ≡ [] → all (insert vs k e) ≡ all vs
one_between [] zero e le is = ap (λ (l : List Row). l ++ []) is
one_between [] (suc k) e le is = absurd (omega arith)
one_between (v ∷ vs) zero e le is = ap (λ (l : List Row). l ++ (v.entries.items ++ all vs)) is
one_between (v ∷ vs) (suc k) e le is = ap (λ (l : List Row). v.entries.items ++ l) (one_between vs k e (omega arith) is)

pub at_end : (vs : Chunks) (k : ℕ) (d w : Chunk) (x : Row) → length vs ≡ suc k → w.entries.items ≡ (slice_index_or vs k d).entries.items ++ x ∷ []
    → all (slice_set vs k w) ≡ all vs ++ x ∷ []
at_end [] k d w x n is = absurd (omega arith)
at_end (v ∷ []) zero d w x n is =
    append-nil w.entries.items ∙ is ∙ ap (λ (l : List Row). l ++ x ∷ []) (sym (append-nil v.entries.items))
at_end (v ∷ []) (suc k) d w x n is = absurd (omega arith)
at_end (v ∷ u ∷ vs) zero d w x n is = absurd (omega arith)
at_end (v ∷ u ∷ vs) (suc k) d w x n is =
    ap (λ (l : List Row). v.entries.items ++ l) (at_end (u ∷ vs) k d w x (omega arith) is)
    ∙ sym (append_assoc v.entries.items (all (u ∷ vs)) (x ∷ []))

pub all_same : (vs : Chunks) (k : ℕ) (d w : Chunk) → k < length vs → w.entries.items ≡ (slice_index_or vs k d).entries.items
    → all (slice_set vs k w) ≡ all vs
all_same [] k d w lt is = absurd (omega arith)
all_same (v ∷ vs) zero d w lt is = ap (λ (l : List Row). l ++ all vs) is
all_same (v ∷ vs) (suc k) d w lt is = ap (λ (l : List Row). v.entries.items ++ l) (all_same vs k d w (omega arith) is)

pub one_less : (xs : List Row) (n : ℕ) → take n xs ++ drop n xs ≡ xs
one_less [] zero = refl
one_less [] (suc n) = refl
one_less (x ∷ xs) zero = refl
one_less (x ∷ xs) (suc n) = ap (λ (l : List Row). x ∷ l) (one_less xs n)

before_insert : (vs : Chunks) (k : ℕ) (e d : Chunk) → k < length vs → slice_index_or (insert vs (suc k) e) k d ≡ slice_index_or vs k d
before_insert [] k e d lt = absurd (omega arith)
before_insert (v ∷ vs) zero e d lt = refl
before_insert (v ∷ vs) (suc k) e d lt = before_insert vs k e d (omega arith)

pub two_of_one : (vs us : Chunks) (k : ℕ) (d e a b : Chunk) → k < length vs → us ≡ insert vs (k + 1) e
    → a.entries.items ++ b.entries.items ≡ (slice_index_or us k d).entries.items → all (slice_set (slice_set us k a) (k + 1) b) ≡ all vs
two_of_one vs us k d e a b lt is parts =
    let one : k + 1 ≡ suc k = omega arith in
    let next : us ≡ insert vs (suc k) e = is ∙ ap (λ (m : ℕ). insert vs m e) one in
    ap (λ (m : ℕ). all (slice_set (slice_set us k a) m b)) one
    ∙ ap (λ (l : Chunks). all (slice_set (slice_set l k a) (suc k) b)) next
    ∙ in_two vs k d e a b lt
    (parts ∙ ap (λ (l : Chunks). (slice_index_or l k d).entries.items) next ∙ ap (λ (v : Chunk). v.entries.items) (before_insert vs k e d lt))

pub on_err : {A E : Type 0} {P : Type 0} (r : Result A E) → P → OnErr r P
on_err (Ok x) p = tt
on_err (Err e) p = p
