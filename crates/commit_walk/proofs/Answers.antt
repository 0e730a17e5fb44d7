-- What a walk answers, as the definition's test.
use Rattle.std.proofs.Common.{◌≡◌, ℕ, ◌+◌, ◌-◌, ◌<◌, ◌≤◌, Bool, true, false, ◌&&◌, List, [], ◌∷◌, length, get_or, set, map, take, drop, ◌++◌, replicate, All, Option, Some, None, inl, inr, refl, sym, ap, subst, ◌∙◌, arith, get_or-set_other, get_or-set_same}
use Rattle.std.specs.Prelude.{IsTrue, ◌↔◌, nat_le, unwrap_or}
use Rattle.std.proofs.lemmas.Bool.{cases_eq, cases_Bool, and_parts}
use Rattle.std.proofs.lemmas.Bool.Decides.{nat_tests}
use Rattle.std.proofs.lemmas.List.{length-set, get_or-replicate, get_or-map, ext_get_or, length-map}
use Rattle.std.proofs.lemmas.Grind.{common_steps}
use Rattle.std.proofs.lemmas.List.Elements.{All-nil, All-cons, All-head, All-tail, All-weaker}
use Rattle.git_model.specs.declared.kind.Kind.{Kind}
use Rattle.git_model.specs.declared.kind.Kind.TheVariants as kind
use Rattle.git_model.specs.CommitReading.{commit_read}
use Rattle.git_model.specs.Content.{Content, no_content}
use Rattle.git_model.specs.Repository.{Object, object_named}
use Rattle.git_model.specs.References.{Reference, reference, references_of, references_in, kind_named, place_of, object_at, no_object, parents_in, parents_of}
use Rattle.git_model.specs.GoodRepository.{StandsBefore}
use Rattle.git_model.specs.HeldObjects.{AreHeld}
use Rattle.git_model.specs.Peeling.{is_of}
use Rattle.git_model.specs.Reach.{IsClosed, Reaches, is_reachable, reaches}
use Rattle.git_model.proofs.Least.{least}
use Rattle.git_model.proofs.Earlier.{place_within, parents_fall}
use Rattle.git_model.proofs.Peelings.{is_of_kind}
use Rattle.git_model.proofs.Places.{stands_at}
use Rattle.commit_walk.specs.Marks.{is_marked, IsReached}
use Rattle.commit_walk.proofs.Named.{there}
use Rattle.commit_walk.proofs.Flags.{has_flag, is_flagged}
use Rattle.commit_walk.proofs.Walks.{IsWalk, Reaches-itself}

-- ---- where a walk begins

module _ (os : List Object) (floor top : ℕ) (flags : List Bool) (above : floor ≤ top)
    (within : top < floor + length flags) (blank : flags ≡ replicate (length flags) false)
    (distinct : place_of (object_at top os).id os ≡ top) where
  first : List Bool
  first = set flags (top - floor) true

  top_flag : IsTrue (is_marked floor first top)
  unfolding first
  top_flag =
      is_flagged floor (set flags (top - floor) true) top above
      (get_or-set_same flags (top - floor) true false (omega arith))

  no_flag : (k : ℕ) → k < length flags → get_or flags k false ≡ false
  no_flag k lt =
      ap (λ (fs : List Bool). get_or fs k false) blank ∙ get_or-replicate (length flags) k false false lt

  top_alone : (p : ℕ) → IsTrue (is_marked floor first p) → p ≡ top
  unfolding first
  top_alone p marked = let h = has_flag floor (set flags (top - floor) true) p marked in
      elim (cases_eq p top) [
        | inl same ↦ same
        | inr other ↦
            let n = length-set flags (top - floor) true in
            let from = h.above in
            let lt : p - floor < length flags = let w = h.within in omega arith in
            let none : get_or (set flags (top - floor) true) (p - floor) false ≡ false =
            get_or-set_other flags (top - floor) (p - floor) true false
            (λ (same : p - floor ≡ top - floor). other (omega arith)) ∙ no_flag (p - floor) lt in
            let some = h.flag in cc
      ]

  pub Walk-begin : (from : ℕ) → top < floor + from
      → IsWalk os (object_at top os).id floor from (set flags (top - floor) true)
  unfolding first
  Walk-begin from is_after = record {
    start = rw distinct top_flag;
    only = λ p marked. rw (top_alone p marked) (Reaches-itself (parents_of os) (object_at top os).id);
    done = λ p marked ge. let same = top_alone p marked in absurd (omega arith);
  }

-- ---- what a commit reaches is a commit

of_parents : (P : Reference → Type 0) (ids : List (List ℕ))
    → All P (map (reference kind.Commit) ids) → All (λ id. P (reference kind.Commit id)) ids
of_parents P [] h = All-nil (λ id. P (reference kind.Commit id))
of_parents P (id ∷ ids) h =
    All-cons (λ x. P (reference kind.Commit x)) id ids
    (All-head P (reference kind.Commit id) (map (reference kind.Commit) ids) h)
    (of_parents P ids (All-tail P (reference kind.Commit id) (map (reference kind.Commit) ids) h))

abbrev IsCommit : List Object → List ℕ → Type 0
IsCommit os id = kind_named id os ≡ Some kind.Commit

in_kind : (os : List Object) (place : ℕ) (k : Kind) (bytes : List ℕ)
    → All (StandsBefore os place) (references_of k bytes) → All (IsCommit os) (parents_in k bytes)
in_kind os place kind.Commit bytes h =
    All-weaker (λ id. StandsBefore os place (reference kind.Commit id)) (IsCommit os) (λ id s. s.kind)
    (commit_read bytes).parents
    (of_parents (StandsBefore os place) (commit_read bytes).parents
    (All-tail (StandsBefore os place) (reference kind.Tree (commit_read bytes).tree) _ h))
in_kind os place kind.Blob bytes h = All-nil (IsCommit os)
in_kind os place kind.Tree bytes h = All-nil (IsCommit os)
in_kind os place kind.Tag bytes h = All-nil (IsCommit os)

-- of two tests that say the same
pub same_test : (a b : Bool) → (a ≡ true → b ≡ true) → (b ≡ true → a ≡ true) → a ≡ b
same_test true b f g = sym (f refl)
same_test false true f g = g refl
same_test false false f g = refl

module _ (digest : List ℕ → List ℕ) (os : List Object) (good : AreHeld digest os) where
  parents_named : (id : List ℕ) (o : Option Content) → object_named id os ≡ o
      → All (IsCommit os) (parents_in (unwrap_or o no_content).kind (unwrap_or o no_content).bytes)
  parents_named id None e = All-nil (IsCommit os)
  parents_named id (Some c) e =
      let at = stands_at id os c e in
      in_kind os (place_of id os) c.kind c.bytes
      (subst (λ (o : Object). All (StandsBefore os (place_of id os)) (references_in o.content)) at.object
      (good.connected (place_of id os) at.within))

  parents_are_commits : (id : List ℕ) → All (IsCommit os) (parents_of os id)
  parents_are_commits id = parents_named id (object_named id os) refl

  reached_is_commit : (tip id : List ℕ) → IsTrue (is_of os kind.Commit tip)
      → Reaches (parents_of os) tip id → IsTrue (is_of os kind.Commit id)
  reached_is_commit tip id there r = r.in_each (is_of os kind.Commit) there
      (λ c in_set k d lt. (is_of_kind os kind.Commit _).1 (parents_are_commits c k d lt))

  by_least : (tip id : List ℕ) → IsTrue (is_reachable os (parents_of os) tip id)
      ↔ Reaches (parents_of os) tip id
  by_least tip id =
      least (parents_of os) (λ x. place_of x os) (parents_fall digest os good) (length os) tip id
      (place_within tip os)

  pub reaches_parts : (tip id : List ℕ) → reaches os tip id ≡ true → Reaches (parents_of os) tip id
  unfolding reaches
  reaches_parts tip id e = (by_least tip id).0 (and_parts _ _ e).1

  pub reaches_all : (tip id : List ℕ) → IsTrue (is_of os kind.Commit tip)
      → Reaches (parents_of os) tip id → reaches os tip id ≡ true
  unfolding reaches
  reaches_all tip id there r =
      rw (there, reached_is_commit tip id there r, (by_least tip id).1 r) refl

  -- a mark is the test
  pub mark_tells : (tip : List ℕ) (floor : ℕ) (flags : List Bool) → IsReached os tip floor flags
      → IsTrue (is_of os kind.Commit tip) → (id : List ℕ) → floor ≤ place_of id os
      → place_of id os < length os → is_marked floor flags (place_of id os) ≡ reaches os tip id
  mark_tells tip floor flags r commit id above within =
      same_test (is_marked floor flags (place_of id os)) (reaches os tip id)
      (λ marked. reaches_all tip id commit
      (subst (λ (x : List ℕ). Reaches (parents_of os) tip x) (there id os within).id_is
      (r.only (place_of id os) marked)))
      (λ e. r.every id above (reaches_parts tip id e))

  pub place_tells : (tip old : List ℕ) (floor place top : ℕ) (flags : List Bool) (answer : Bool)
      → IsTrue (is_of os kind.Commit tip) → place_of tip os ≡ top → top < length os
      → place_of old os ≡ place → place < length os → floor ≤ place
      → IsReached os (object_at top os).id floor flags → is_marked floor flags place ≡ answer
      → answer ≡ reaches os tip old
  place_tells tip old floor place top flags answer commit top_is top_in place_is place_in above r e =
      let tip_is : (object_at top os).id ≡ tip =
      subst (λ (p : ℕ). (object_at p os).id ≡ tip) top_is (there tip os (omega arith)).id_is in
      let told = mark_tells tip floor flags (rw tip_is at r) commit old (omega arith) (omega arith) in
      sym e ∙ (rw place_is at told)

  -- what stands after the tip is not reached
  pub not_after : (tip old : List ℕ) → place_of tip os < place_of old os → reaches os tip old ≡ false
  not_after tip old is_after = elim (cases_Bool (reaches os tip old)) [
    | inl yea ↦
        let in_set = (reaches_parts tip old yea).in_each (λ id. nat_le (place_of id os) (place_of tip os))
        (grind (arith, nat_tests)) before in absurd (grind (arith, nat_tests, in_set))
    | inr nay ↦ nay
  ]
    where
      before : IsClosed (parents_of os) (λ id. nat_le (place_of id os) (place_of tip os))
      before c in_set k d lt =
          let f = parents_fall digest os good c k d lt in grind (arith, nat_tests, in_set, f)

  pub all_flags : (tip : List ℕ) (flags : List Bool) → length flags ≡ length os
      → IsReached os tip 0 flags → IsTrue (is_of os kind.Commit tip)
      → flags ≡ map (λ (o : Object). reaches os tip o.id) os
  unfolding object_at
  all_flags tip flags size r commit =
      ext_get_or false flags (map (λ (o : Object). reaches os tip o.id) os)
      (size ∙ sym (length-map os (λ (o : Object). reaches os tip o.id))) at
    where
      at : (i : ℕ) → i < length flags
          → get_or flags i false ≡ get_or (map (λ (o : Object). reaches os tip o.id) os) i false
      at i lt =
          let within : i < length os = omega arith in
          let here = good.distinct i within in
          let same : i - 0 ≡ i = omega arith in
          let flag : is_marked 0 flags i ≡ get_or flags i false = rw same (grind (arith, nat_tests)) in
          let told = mark_tells tip 0 flags r commit (object_at i os).id (omega arith) (rw here within) in
          sym flag ∙ (rw here at told)
          ∙ sym (get_or-map (λ (o : Object). reaches os tip o.id) os i no_object false within)

  pub all_tell : (tip : List ℕ) (top : ℕ) (flags : List Bool)
      → IsTrue (is_of os kind.Commit tip) → place_of tip os ≡ top → top < length os
      → length flags ≡ length os → IsReached os (object_at top os).id 0 flags
      → flags ≡ map (λ (o : Object). reaches os tip o.id) os
  all_tell tip top flags commit top_is top_in size r =
      let tip_is : (object_at top os).id ≡ tip =
      subst (λ (p : ℕ). (object_at p os).id ≡ tip) top_is (there tip os (omega arith)).id_is in
      all_flags tip flags size (rw tip_is at r) commit

-- nothing is reached where one of the names is no commit
pub no_tip : (os : List Object) (tip old : List ℕ) → is_of os kind.Commit tip ≡ false
    → reaches os tip old ≡ false
unfolding reaches
no_tip os tip old e = rw e refl

pub no_old : (os : List Object) (tip old : List ℕ) → is_of os kind.Commit old ≡ false
    → reaches os tip old ≡ false
unfolding reaches
no_old os tip old e = by (is_of os kind.Commit tip)
  where
    by : (b : Bool) → ((b && is_of os kind.Commit old) && is_reachable os (parents_of os) tip old) ≡ false
    by true = rw e refl
    by false = refl

-- flags that are lent as a slice come back whole
pub lent : (n : ℕ) (new old : List Bool) → n ≡ length old → length new ≡ length old
    → take n (new ++ drop (length new) old) ≡ new
lent n new old size same = grind (arith, common_steps)

pub no_flags : (os : List Object) (tip : List ℕ) → is_of os kind.Commit tip ≡ false
    → replicate (length os) false ≡ map (λ (o : Object). reaches os tip o.id) os
no_flags os tip none = on os
  where
    on : (xs : List Object) → replicate (length xs) false ≡ map (λ (o : Object). reaches os tip o.id) xs
    on [] = refl
    on (x ∷ xs) = rw (no_tip os tip x.id none) (ap (λ (fs : List Bool). false ∷ fs) (on xs))

-- a flag tells
pub flag_tells : (floor place : ℕ) (flags : List Bool) (told : Bool) → floor ≤ place
    → told ≡ get_or flags (place - floor) false → is_marked floor flags place ≡ told
flag_tells floor place flags told above is = rw is (grind (arith, nat_tests))
