-- What an edit of a list of entries in order does to the store that it stands for.
use Rattle.std.proofs.Common.{◌≡◌, ◌≢◌, ℕ, suc, Bool, true, false, cond, T, List, [], ◌∷◌, ◌++◌, length, get_or, set, drop, Option, None, Some, refl, sym, ap, subst, ◌∙◌}
use Rattle.std.specs.declared.cmp.Ordering.{Ordering}
use Rattle.std.specs.Ordering.{nat_cmp, eq_by_cmp, is_eq}
use Rattle.std.specs.Cmp.Lexicographic.{slice_cmp}
use Rattle.std.specs.List.{insert, remove}
use Rattle.std.specs.FinMap as map
use Rattle.std.specs.FinMap.{IsAntisymmetric, slice_cmp-IsAntisymmetric, nat_cmp-IsAntisymmetric, get-insert, get-remove, get-from_sorted, entries-from_sorted, entries-insert, empty_of_len, len-entries, same_entries_map, same_map}
use Rattle.std.specs.FinMap.Entries.{put, find, is_sorted, is_sorted-put}
use Rattle.std.proofs.lemmas.Cmp.{nat_list_cmp_total, tied_itself}
use Rattle.std.proofs.Math.Seq.{take-append_seam, drop-append_seam, get_or-append_seam}
use Rattle.tenant_refs.specs.Place.{Entries, IsPlaceOf, IsGapFor}
use Rattle.git_model.specs.RefName.{is_ref_name}
use Rattle.git_model.specs.RefStore.{RefMap, RefStore, first_head, with_ref, without_ref, ChangesRef}
use Rattle.tenant_refs.proofs.Entries.{equal, put-gap, put-place, find-gap, find-place, find-out, is_sorted-out, before-sorted, after-sorted}

abbrev pub bytes_cmp : List ℕ → List ℕ → Ordering
bytes_cmp = slice_cmp nat_cmp

pub bytes_exact : IsAntisymmetric bytes_cmp
bytes_exact = slice_cmp-IsAntisymmetric nat_cmp-IsAntisymmetric

-- the map that a list of entries in order stands for
abbrev pub made : Entries → RefMap
made es = map.from_sorted es

-- the store of a list of entries in order and a HEAD
abbrev pub store_of : Entries → List ℕ → RefStore
store_of es head = record { refs = made es; head = head }

-- a store of no refs, and the first HEAD
pub made-nil : made [] ≡ map.empty
made-nil = empty_of_len _ (len-entries _ ∙ ap length (entries-from_sorted bytes_cmp [] tt))

pub is_ref_name-first_head : is_ref_name first_head ≡ true
unfolding is_ref_name
is_ref_name-first_head = refl

-- edits of a list, cut at the place
module _ {X : Type 0} where
  set-length : (before after : List X) (x y : X)
      → set (before ++ x ∷ after) (length before) y ≡ before ++ y ∷ after
  set-length [] after x y = refl
  set-length (b ∷ bs) after x y = ap (λ l. b ∷ l) (set-length bs after x y)

  drop-past : (before after : List X) (x : X)
      → drop (suc (length before)) (before ++ x ∷ after) ≡ after
  drop-past [] after x = refl
  drop-past (b ∷ bs) after x = drop-past bs after x

  pub set-seam : (before after : List X) (x y : X) (i : ℕ) → length before ≡ i
      → set (before ++ x ∷ after) i y ≡ before ++ y ∷ after
  set-seam before after x y i e =
      subst (λ n. set (before ++ x ∷ after) n y ≡ before ++ y ∷ after) e
      (set-length before after x y)

  pub insert-seam : (before after : List X) (y : X) (i : ℕ) → length before ≡ i
      → insert (before ++ after) i y ≡ before ++ y ∷ after
  insert-seam before after y i e =
      subst (λ n. insert (before ++ after) n y ≡ before ++ y ∷ after) e
      (rw (take-append_seam, drop-append_seam))

  pub remove-seam : (before after : List X) (x : X) (i : ℕ) → length before ≡ i
      → remove (before ++ x ∷ after) i ≡ before ++ after
  remove-seam before after x i e =
      subst (λ n. remove (before ++ x ∷ after) n ≡ before ++ after) e
      (rw (take-append_seam, drop-past))

  get_or-seam : (before after : List X) (x d : X) (i : ℕ) → length before ≡ i
      → get_or (before ++ x ∷ after) i d ≡ x
  get_or-seam before after x d i e =
      subst (λ n. get_or (before ++ x ∷ after) n d ≡ x) e (get_or-append_seam before x after d)

module _ (es : Entries) (sorted : T (is_sorted bytes_cmp es)) where
  pub entries-made : map.entries (made es) ≡ es
  entries-made = entries-from_sorted bytes_cmp es sorted

  get-made : (ref : List ℕ) → map.get (made es) ref ≡ find bytes_cmp ref es
  get-made ref = get-from_sorted bytes_cmp es ref sorted

  -- an entry that is put in its place is inserted into the map
  made-put : (ref target : List ℕ) (new : Entries) → put bytes_cmp ref target es ≡ new
      → T (is_sorted bytes_cmp new) × (made new ≡ map.insert (made es) ref target)
  made-put ref target new is =
      let sorted_new = subst (λ l. T (is_sorted bytes_cmp l)) is (is_sorted-put bytes_cmp nat_list_cmp_total ref target es sorted) in (
        sorted_new,
        same_entries_map _ _ (entries-from_sorted bytes_cmp new sorted_new ∙ sym is
            ∙ sym (entries-insert nat_list_cmp_total (made es) ref target ∙ ap (put bytes_cmp ref target) entries-made)),
      )

  module _ (ref : List ℕ) (i : ℕ) (at : IsPlaceOf es ref i) where
    sorted_here : T (is_sorted bytes_cmp (at.before ++ (ref, at.target) ∷ at.after))
    sorted_here = subst (λ l. T (is_sorted bytes_cmp l)) at.stands sorted

    pub entry-place : (d : List ℕ × List ℕ) → get_or es i d ≡ (ref, at.target)
    entry-place d =
        ap (λ l. get_or l i d) at.stands
        ∙ get_or-seam at.before at.after (ref, at.target) d i at.position_is

    pub get-place : map.get (made es) ref ≡ Some at.target
    get-place =
        get-made ref ∙ ap (find bytes_cmp ref) at.stands
        ∙ find-place bytes_cmp nat_list_cmp_total ref at.target at.before at.after
        (before-sorted bytes_cmp nat_list_cmp_total ref at.target at.before at.after sorted_here)

    pub set-place : (target : List ℕ)
        → T (is_sorted bytes_cmp (set es i (ref, target))) × (made (set es i (ref, target)) ≡ map.insert (made es) ref target)
    set-place target = made-put ref target _ (ap (put bytes_cmp ref target) at.stands
        ∙ put-place bytes_cmp nat_list_cmp_total ref at.target target at.before at.after
        (before-sorted bytes_cmp nat_list_cmp_total ref at.target at.before at.after sorted_here)
        ∙ sym (ap (λ l. set l i (ref, target)) at.stands ∙ set-seam at.before at.after _ _ i at.position_is))

    pub remove-place : T (is_sorted bytes_cmp (remove es i)) × (made (remove es i) ≡ map.remove (made es) ref)
    remove-place =
        let out = ap (λ l. remove l i) at.stands ∙ remove-seam at.before at.after (ref, at.target) i at.position_is in
        let sorted_out = subst (λ l. T (is_sorted bytes_cmp l)) (sym out) (is_sorted-out bytes_cmp nat_list_cmp_total ref at.target at.before at.after sorted_here) in (
          sorted_out,
          same_map nat_list_cmp_total bytes_exact _ _ (λ q.
              get-from_sorted bytes_cmp (remove es i) q sorted_out ∙ ap (find bytes_cmp q) out
              ∙ find-out bytes_cmp nat_list_cmp_total bytes_exact ref at.target at.before at.after
              (before-sorted bytes_cmp nat_list_cmp_total ref at.target at.before at.after sorted_here)
              (after-sorted bytes_cmp nat_list_cmp_total ref at.target at.before at.after sorted_here) q
              ∙ ap (λ l. cond (eq_by_cmp bytes_cmp q ref) None (find bytes_cmp q l)) (sym at.stands)
              ∙ sym (get-remove nat_list_cmp_total (made es) ref q ∙ ap (cond (eq_by_cmp bytes_cmp q ref) None) (get-made q))),
        )

  module _ (ref : List ℕ) (i : ℕ) (gap : IsGapFor es ref i) where
    pub get-gap : map.get (made es) ref ≡ None
    get-gap =
        get-made ref ∙ ap (find bytes_cmp ref) gap.parts
        ∙ find-gap bytes_cmp ref gap.before gap.after gap.below gap.above

    pub insert-gap : (target : List ℕ)
        → T (is_sorted bytes_cmp (insert es i (ref, target))) × (made (insert es i (ref, target)) ≡ map.insert (made es) ref target)
    insert-gap target = made-put ref target _ (ap (put bytes_cmp ref target) gap.parts
        ∙ put-gap bytes_cmp ref target gap.before gap.after gap.below gap.above
        ∙ sym (ap (λ l. insert l i (ref, target)) gap.parts ∙ insert-seam gap.before gap.after _ i gap.position_is))

-- a ref that is not there is not taken out
kept_where_none : (b : Bool) (x : Option (List ℕ)) → (b ≡ true → x ≡ None) → cond b None x ≡ x
kept_where_none true x none = sym (none refl)
kept_where_none false x none = refl

pub remove-none : (refs : RefMap) (ref : List ℕ) → map.get refs ref ≡ None
    → map.remove refs ref ≡ refs
remove-none refs ref none = same_map nat_list_cmp_total bytes_exact _ _ (λ q.
    get-remove nat_list_cmp_total refs ref q ∙ kept_where_none _ _ (λ e. subst (λ x. map.get refs x ≡ None) (sym (bytes_exact q ref (equal _ e))) none))

-- the laws of setting and of taking out
tied_same : (x y : List ℕ) → x ≢ y → eq_by_cmp bytes_cmp x y ≡ false
tied_same x y apart = go _ refl
  where
    go : (b : Bool) → eq_by_cmp bytes_cmp x y ≡ b → b ≡ false
    go true e = absurd (apart (bytes_exact x y (equal _ e)))
    go false e = refl

tied_here : (x : List ℕ) → eq_by_cmp bytes_cmp x x ≡ true
tied_here x = ap is_eq (tied_itself nat_list_cmp_total x)

pub ChangesRef-with_ref : (store : RefStore) (ref target : List ℕ)
    → ChangesRef store (with_ref store ref target) ref (Some target)
ChangesRef-with_ref store ref target = record {
  this_ref =
      get-insert nat_list_cmp_total store.refs ref target ref
      ∙ ap (λ b. cond b (Some target) (map.get store.refs ref)) (tied_here ref);
  other_refs = λ other apart. get-insert nat_list_cmp_total store.refs ref target other ∙ ap (λ b. cond b (Some target) (map.get store.refs other)) (tied_same other ref apart);
  head = refl;
}

pub ChangesRef-without_ref : (store : RefStore) (ref : List ℕ)
    → ChangesRef store (without_ref store ref) ref None
ChangesRef-without_ref store ref = record {
  this_ref =
      get-remove nat_list_cmp_total store.refs ref ref
      ∙ ap (λ b. cond b None (map.get store.refs ref)) (tied_here ref);
  other_refs = λ other apart. get-remove nat_list_cmp_total store.refs ref other ∙ ap (λ b. cond b None (map.get store.refs other)) (tied_same other ref apart);
  head = refl;
}
