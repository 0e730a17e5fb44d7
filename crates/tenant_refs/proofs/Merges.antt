-- Changes that are sorted by their refs, and entries in order in two parts.
use Rattle.std.proofs.Common.{◌≡◌, ℕ, Bool, true, false, cond, not, ◌&&◌, T, List, [], ◌∷◌, ◌++◌, Option, None, Some, refl, sym, ap, subst, ◌∙◌}
use Rattle.std.specs.declared.cmp.Ordering.{Ordering}
use Rattle.std.specs.declared.cmp.Ordering.TheVariants.{Less, Equal, Greater}
use Rattle.std.specs.Ordering.{nat_cmp, is_eq, is_lt, ordering_reverse}
use Rattle.std.specs.Cmp.Lexicographic.{slice_cmp}
use Rattle.std.specs.List.{AllByRecursion, filter}
use Rattle.std.specs.List.Sorted.{IsStableBy, ties}
use Rattle.std.specs.FinMap.{get-insert, get-remove, same_map}
use Rattle.std.specs.FinMap.Entries.{is_sorted, below_all}
use Rattle.std.proofs.lemmas.Cmp.{nat_list_cmp_total}
use Rattle.git_model.specs.RefStore.{RefStore, target_of}
use Rattle.tenant_refs.specs.declared.changes.RefChange.{RefChange}
use Rattle.tenant_refs.specs.Changes.{with_target, with_changes}
use Rattle.tenant_refs.specs.Place.{AreAbove, Entries, starts_up_to}
use Rattle.tenant_refs.proofs.Entries.{both, first, second, less, after-below_all, sorted_tail}
use Rattle.tenant_refs.proofs.Stores.{bytes_cmp, bytes_exact}

got : (store : RefStore) (ref q : List ℕ) (target : Option (List ℕ))
    → target_of (with_target store ref target) q
    ≡ cond (is_eq (bytes_cmp q ref)) target (target_of store q)
got store ref q None = get-remove nat_list_cmp_total store.refs ref q
got store ref q (Some id) = get-insert nat_list_cmp_total store.refs ref id q

keeps_head : (store : RefStore) (ref : List ℕ) (target : Option (List ℕ))
    → (with_target store ref target).head ≡ store.head
keeps_head store ref None = refl
keeps_head store ref (Some id) = refl

keep_head : (store : RefStore) (changes : List RefChange)
    → (with_changes store changes).head ≡ store.head
keep_head store [] = refl
keep_head store (c ∷ cs) =
    keep_head (with_target store c.ref_name c.target) cs ∙ keeps_head store c.ref_name c.target

-- whether the first change is of a lower ref
abbrev pub comes_before : RefChange → RefChange → Bool
comes_before one other = is_lt (bytes_cmp one.ref_name other.ref_name)

neither : (r : Ordering) → not (is_lt r) && not (is_lt (ordering_reverse r)) ≡ is_eq r
neither Less = refl
neither Equal = refl
neither Greater = refl

tied : (c d : RefChange) → ties comes_before c d ≡ is_eq (bytes_cmp c.ref_name d.ref_name)
tied c d =
    ap (λ r. not (is_lt (bytes_cmp c.ref_name d.ref_name)) && not (is_lt r))
    (nat_list_cmp_total.antisymm d.ref_name c.ref_name)
    ∙ neither _

-- what a ref holds after changes: only those of the ref count
module _ (c : RefChange) where
  abbrev At : RefStore → Option (List ℕ)
  At store = target_of store c.ref_name

  alike : (f g : RefStore) (d : RefChange) → At f ≡ At g
      → At (with_target f d.ref_name d.target) ≡ At (with_target g d.ref_name d.target)
  alike f g d is =
      got f d.ref_name c.ref_name d.target
      ∙ ap (cond (is_eq (bytes_cmp c.ref_name d.ref_name)) d.target) is
      ∙ sym (got g d.ref_name c.ref_name d.target)

  passed : (f : RefStore) (d : RefChange) → ties comes_before c d ≡ false
      → At (with_target f d.ref_name d.target) ≡ At f
  passed f d apart =
      got f d.ref_name c.ref_name d.target
      ∙ ap (λ b. cond b d.target (At f)) (sym (tied c d) ∙ apart)

  only_its : (f g : RefStore) → At f ≡ At g → (ds : List RefChange)
      → At (with_changes f ds) ≡ At (with_changes g (filter (ties comes_before c) ds))
  only_its f g is [] = is
  only_its f g is (d ∷ ds) = go (ties comes_before c d) refl (λ f g is. only_its f g is ds)
    where
      go : (b : Bool) → ties comes_before c d ≡ b
          → ((f g : RefStore) → At f ≡ At g
          → At (with_changes f ds) ≡ At (with_changes g (filter (ties comes_before c) ds)))
          → At (with_changes f (d ∷ ds))
          ≡ At (with_changes g (cond b (d ∷ filter (ties comes_before c) ds)
          (filter (ties comes_before c) ds)))
      go true e next = next _ _ (alike f g d is)
      go false e next = next _ g (passed f d e ∙ is)

same_store : (f g : RefStore) → ((q : List ℕ) → target_of f q ≡ target_of g q)
    → f.head ≡ g.head → f ≡ g
same_store f g targets heads =
    let maps = same_map nat_list_cmp_total bytes_exact f.refs g.refs targets in
    λ i. record { refs = maps i; head = heads i }

-- a stable sort by refs changes nothing
pub sorted_changes : (old new : List RefChange) → IsStableBy comes_before old new
    → (store : RefStore) → with_changes store new ≡ with_changes store old
sorted_changes old new stable store =
    same_store _ _
    (λ q.
    let c : RefChange = record { ref_name = q; target = None } in
    only_its c store store refl new ∙ ap (λ cs. target_of (with_changes store cs) q) (stable c)
    ∙ sym (only_its c store store refl old))
    (keep_head store new ∙ sym (keep_head store old))

-- the parts of entries in order
below-front : (x : List ℕ) (es rest : Entries) → T (below_all bytes_cmp x (es ++ rest))
    → T (below_all bytes_cmp x es)
below-front x [] rest h = tt
below-front x (e ∷ es) rest h = both _ _ (first _ _ h) (below-front x es rest (second _ _ h))

pub sorted-front : (es rest : Entries) → T (is_sorted bytes_cmp (es ++ rest))
    → T (is_sorted bytes_cmp es)
sorted-front [] rest h = tt
sorted-front (e ∷ es) rest h =
    both _ _ (below-front e.0 es rest (first _ _ h)) (sorted-front es rest (second _ _ h))

sorted-back : (es rest : Entries) → T (is_sorted bytes_cmp (es ++ rest))
    → T (is_sorted bytes_cmp rest)
sorted-back [] rest h = h
sorted-back (e ∷ es) rest h = sorted-back es rest (second _ _ h)

further : (ref x : List ℕ) → bytes_cmp ref x ≡ Less → (es : Entries) → AreAbove x es
    → AreAbove ref es
further ref x low [] high = tt
further ref x low (e ∷ es) high =
    (nat_list_cmp_total.trans ref x e.0 low high.0, further ref x low es high.1)

not_less : (b : Bool) → not b ≡ false → b ≡ true
not_less true e = refl
not_less false e = cc

all_above : (ref : List ℕ) (rest : Entries) → T (is_sorted bytes_cmp rest)
    → starts_up_to ref rest ≡ false → AreAbove ref rest
all_above ref [] h e = tt
all_above ref (x ∷ rest) h e =
    let low = less _ (subst T (sym (not_less _ e)) tt) in
    (low, further ref x.0 low rest (after-below_all bytes_cmp x.0 rest (first _ _ h)))

-- what is left when its first entry is not up to the ref
pub above-rest : (ref : List ℕ) (es rest : Entries) → T (is_sorted bytes_cmp (es ++ rest))
    → starts_up_to ref rest ≡ false → AreAbove ref rest
above-rest ref es rest h e = all_above ref rest (sorted-back es rest h) e
