-- What a map's changes do to the finite map that its entries stand for.
use Rattle.std.proofs.Common.{◌≡◌, ℕ, Bool, true, false, cond, T, List, [], ◌∷◌, map, length, not, Option, None, Some, refl, sym, ap, subst, ◌∙◌}
use Rattle.std.specs.Borrow.{Bor}
use Rattle.std.specs.declared.cmp.Ordering.{Ordering}
use Rattle.std.specs.declared.cmp.Ordering.TheVariants.{Less, Equal, Greater}
use Rattle.std.specs.Ordering.{nat_cmp, is_eq, is_lt, eq_by_cmp, match_ordering}
use Rattle.std.specs.Cmp.Lexicographic.{slice_cmp}
use Rattle.std.specs.Map.{remove_entry}
use Rattle.std.specs.BTreeMap.{insert_entry}
use Rattle.std.specs.FinMap as finite
use Rattle.std.specs.FinMap.{IsAntisymmetric, slice_cmp-IsAntisymmetric, nat_cmp-IsAntisymmetric, get-remove, get-from_sorted, entries-from_sorted, entries-insert, empty_of_len, len-entries, same_entries_map, same_map}
use Rattle.std.specs.FinMap.Entries.{by_order, put, find, is_sorted, below_all, where_key, is_sorted-put, is_sorted-where_key, find-where_key}
use Rattle.std.specs.Cmp.{IsTotalOrder, eq_by_cmp_equiv, alike_right}
use Rattle.std.proofs.lemmas.Cmp.{nat_list_cmp_total}
use Rattle.tenant_refs.proofs.Entries.{first, second, less, equal}
use Rattle.store_format.specs.Saying.{Targets}

abbrev pub bytes_cmp : List ℕ → List ℕ → Ordering
bytes_cmp = slice_cmp nat_cmp

abbrev pub Lent : Type 0
Lent = Bor (List ℕ) × ℕ

abbrev pub Listed : Type 0
Listed = List (List ℕ × ℕ)

-- An entry of a map whose keys are lent.
abbrev pub entry_of : Lent → List ℕ × ℕ
entry_of e = (e.0.now, e.1)

abbrev pub listed : List Lent → Listed
listed es = map entry_of es

abbrev pub lent_cmp : Bor (List ℕ) → Bor (List ℕ) → Ordering
lent_cmp x y = slice_cmp nat_cmp x.now y.now

inserted_by : (o : Ordering) (x y z : List Lent) (w : Listed) → listed z ≡ w → listed (match_ordering o x y z) ≡ by_order o (listed x) (listed y) w
inserted_by Less x y z w e = refl
inserted_by Equal x y z w e = refl
inserted_by Greater x y z w e = e

-- A map's insertion is that of finite maps.
pub inserted : (es : List Lent) (k : Bor (List ℕ)) (v : ℕ) → listed (insert_entry lent_cmp es k v) ≡ put bytes_cmp k.now v (listed es)
inserted [] k v = refl
inserted (e ∷ es) k v =
    inserted_by (bytes_cmp k.now e.0.now) ((k, v) ∷ e ∷ es) ((e.0, v) ∷ es) (e ∷ insert_entry lent_cmp es k v) (entry_of e ∷ put bytes_cmp k.now v (listed es))
    (ap (λ (l : Listed). entry_of e ∷ l) (inserted es k v))

-- ---- a key that is taken out

is_kept : List ℕ → List ℕ → Bool
is_kept k x = not (eq_by_cmp bytes_cmp k x)

abbrev without : List ℕ → Listed → Listed
without k es = where_key bytes_cmp (λ x. not (eq_by_cmp bytes_cmp k x)) es

bytes_exact : IsAntisymmetric bytes_cmp
bytes_exact = slice_cmp-IsAntisymmetric nat_cmp-IsAntisymmetric

-- Keys above one are none of it.
all_kept : (k : List ℕ) (es : Listed) → T (below_all bytes_cmp k es) → without k es ≡ es
all_kept k [] h = refl
all_kept k (e ∷ es) h = rw (less (bytes_cmp k e.0) (first _ _ h)) (ap (λ (l : Listed). e ∷ l) (all_kept k es (second _ _ h)))

removed_by : (k : List ℕ) (e : Lent) (es : List Lent) (o : Ordering) → bytes_cmp k e.0.now ≡ o → T (below_all bytes_cmp e.0.now (listed es))
    → listed (remove_entry (λ x. is_eq (bytes_cmp k x.now)) es) ≡ without k (listed es)
    → listed (cond (is_eq o) es (e ∷ remove_entry (λ x. is_eq (bytes_cmp k x.now)) es)) ≡ cond (not (is_eq o)) (entry_of e ∷ without k (listed es)) (without k (listed es))
removed_by k e es Less is above rest = ap (λ (l : Listed). entry_of e ∷ l) rest
removed_by k e es Greater is above rest = ap (λ (l : Listed). entry_of e ∷ l) rest
removed_by k e es Equal is above rest = sym (all_kept k (listed es) (subst (λ (x : List ℕ). T (below_all bytes_cmp x (listed es))) (sym (bytes_exact k e.0.now is)) above))

-- A map's removal takes out the one entry of the key.
removed : (k : List ℕ) (es : List Lent) → T (is_sorted bytes_cmp (listed es)) → listed (remove_entry (λ x. is_eq (bytes_cmp k x.now)) es) ≡ without k (listed es)
removed k [] h = refl
removed k (e ∷ es) h = removed_by k e es (bytes_cmp k e.0.now) refl (first _ _ h) (removed k es (second _ _ h))

-- ---- the finite map

-- The finite map of entries in order.
abbrev pub made : Listed → Targets
made es = finite.from_sorted es

pub made-nil : made [] ≡ finite.empty
made-nil = empty_of_len _ (len-entries _ ∙ ap (λ (l : Listed). length l) (entries-from_sorted bytes_cmp [] tt))

pub inserts : (es : List Lent) (k : Bor (List ℕ)) (v : ℕ) (new : List Lent) → T (is_sorted bytes_cmp (listed es)) → new ≡ insert_entry lent_cmp es k v
    → T (is_sorted bytes_cmp (listed new)) × (made (listed new) ≡ finite.insert (made (listed es)) k.now v)
inserts es k v new sorted is =
    let listing : listed new ≡ put bytes_cmp k.now v (listed es) = ap listed is ∙ inserted es k v in
    let after : T (is_sorted bytes_cmp (listed new)) = subst (λ (l : Listed). T (is_sorted bytes_cmp l)) (sym listing) (is_sorted-put bytes_cmp nat_list_cmp_total k.now v (listed es) sorted) in (
      after,
      same_entries_map _ _ (entries-from_sorted bytes_cmp (listed new) after ∙ listing
          ∙ sym (entries-insert nat_list_cmp_total (made (listed es)) k.now v ∙ ap (put bytes_cmp k.now v) (entries-from_sorted bytes_cmp (listed es) sorted))),
    )

chosen : {A : Type 0} (a b : Bool) (x y : A) → a ≡ b → cond (not a) x y ≡ cond b y x
chosen true b x y is = rw (sym is) refl
chosen false b x y is = rw (sym is) refl

pub removes : (es : List Lent) (k : List ℕ) (new : List Lent) → T (is_sorted bytes_cmp (listed es)) → new ≡ remove_entry (λ x. is_eq (bytes_cmp k x.now)) es
    → T (is_sorted bytes_cmp (listed new)) × (made (listed new) ≡ finite.remove (made (listed es)) k)
removes es k new sorted is =
    let listing : listed new ≡ without k (listed es) = ap listed is ∙ removed k es sorted in
    let after : T (is_sorted bytes_cmp (listed new)) = subst (λ (l : Listed). T (is_sorted bytes_cmp l)) (sym listing) (is_sorted-where_key bytes_cmp (λ x. not (eq_by_cmp bytes_cmp k x)) (listed es) sorted) in (
      after,
      same_map nat_list_cmp_total bytes_exact _ _ (λ q.
          get-from_sorted bytes_cmp (listed new) q after ∙ ap (find bytes_cmp q) listing
          ∙ find-where_key bytes_cmp (λ x. not (eq_by_cmp bytes_cmp k x)) q (λ x t. ap (λ (r : Ordering). not (is_eq r)) (sym (alike_right nat_list_cmp_total q x k t))) (listed es)
          ∙ chosen (eq_by_cmp bytes_cmp k q) (eq_by_cmp bytes_cmp q k) (find bytes_cmp q (listed es)) None ((eq_by_cmp_equiv nat_list_cmp_total).symm k q)
          ∙ ap (λ (x : Option ℕ). cond (eq_by_cmp bytes_cmp q k) None x) (sym (get-from_sorted bytes_cmp (listed es) q sorted))
          ∙ sym (get-remove nat_list_cmp_total (made (listed es)) k q)),
    )
