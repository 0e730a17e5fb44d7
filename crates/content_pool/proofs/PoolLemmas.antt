-- Lemmas on the pool's own invariant: what stays true when a count changes, a content is given up
-- or a new one is stored.
use Rattle.std.proofs.Common.{◌≡◌, ◌≢◌, ◌⊎◌, ℕ, ◌+◌, ◌<◌, ◌==◌, if◌then◌else◌, false, List, length, get_or, Option, Some, None, IsSome, refl, sym, ap, ◌∙◌, arith, inl, inr, subst, slice_set}
use Rattle.std.specs.Str.{bytes_eq}
use Rattle.std.specs.Cmp.Lexicographic.{bytes_decides}
use Rattle.std.proofs.lemmas.Bool.{cases_eq, cases_Bool, ne_eqb}
use Rattle.std.proofs.lemmas.Bool.Decides.{nat_tests}
use Rattle.std.proofs.lemmas.Option.{same_Some, none-some}
use Rattle.std.proofs.lemmas.List.{get_or-set_same, get_or-set_other, get_or_past, set-get_or}
use Rattle.slab.specs.Slab.{Slab, Updates}
use Rattle.git_model.specs.Content.{Content, name_by}
use Rattle.content_pool.specs.Pool.{Cells, cell, content_of, holds, content, IsLive, HoldsEachOnce, Puts, Releases}
use Rattle.content_pool.specs.Index.{Buckets, prefix_of, bucket, times, one_at, has_prefix, IsPool, IsIndexed, Stores, Notes, Forgets}
use Rattle.content_pool.proofs.IndexLemmas.{times_at_place, place_from_times}
use Rattle.content_pool.specs.declared.stored.Stored.{Stored}

-- One slot has this now, and every other has what it had.
pub record Writes (p q : Cells) (k : ℕ) (o : Option Stored) : Type 0 where
  pub here : cell q k ≡ o
  pub others : (s : ℕ) → s ≢ k → cell q s ≡ cell p s

-- A write into a slot that stores something.
pub Writes-set : (p : Cells) (k : ℕ) (e : Stored) (o : Option Stored) → cell p k ≡ Some e
    → Writes p (slice_set p k o) k o
Writes-set p k e o was =
    record {
      here = get_or-set_same p k o None (grind (arith, get_or_past));
      others = λ s apart. get_or-set_other p k s o None apart;
    }

-- What is stored, written where it is stored, changes nothing.
pub set_as_was : (p : Cells) (k : ℕ) (e f : Stored) → cell p k ≡ Some e → f ≡ e → slice_set p k (Some f) ≡ p
set_as_was p k e f was same =
    ap (λ (o : Option Stored). slice_set p k o) (ap Some same ∙ sym was) ∙ set-get_or p k None

-- A slab's update is a write.
pub Writes-updates : (old new : Slab Stored) (k : ℕ) (o : Option Stored) → Updates old new k o
    → Writes old.slots new.slots k o
Writes-updates old new k o updates = record { here = updates.changed; others = updates.others }

-- A slab's update after a change of its capacity alone, at a vacant key that was told before.
pub Writes-after : (first old new : Slab Stored) (k key : ℕ) (o : Option Stored)
    → old.slots ≡ first.slots → cell old.slots key ≡ None → k ≡ key → Updates old new k o
    → (cell first.slots key ≡ None) × Writes first.slots new.slots key o
Writes-after first old new k key o same vacant told updates =
    (ap (λ p. cell p key) (sym same) ∙ vacant, rw (← same, ← told) (Writes-updates old new k o updates))

-- What a slot holds, from what is stored there.
pub holds-at : (p : Cells) (s : ℕ) (e : Stored) → cell p s ≡ Some e → holds p s ≡ e.holds
unfolding holds
holds-at p s e is = rw is

pub content-at : (p : Cells) (s : ℕ) (e : Stored) → cell p s ≡ Some e → content p s ≡ content_of e
unfolding content
content-at p s e is = rw is

pub holds-vacant : (p : Cells) (s : ℕ) → cell p s ≡ None → holds p s ≡ 0
unfolding holds
holds-vacant p s is = rw is

pub holds-same : (p q : Cells) (s : ℕ) → cell q s ≡ cell p s → holds q s ≡ holds p s
unfolding holds
holds-same p q s is = rw is

pub content-same : (p q : Cells) (s : ℕ) → cell q s ≡ cell p s → content q s ≡ content p s
unfolding content
content-same p q s is = rw is

one_at-here : (id n : List ℕ) (k : ℕ) → one_at id k n k ≡ (if bytes_eq id n then 1 else 0)
one_at-here id n k =
    elim (cases_Bool (bytes_eq id n)) [
      | inl named ↦ rw named (grind (arith, nat_tests))
      | inr other ↦ rw other
    ]

one_at-apart : (id n : List ℕ) (k s : ℕ) → s ≢ k → one_at id k n s ≡ 0
one_at-apart id n k s apart =
    let different : (k == s) ≡ false = ne_eqb k s (λ same. apart (sym same)) in
    elim (cases_Bool (bytes_eq id n)) [
      | inl named ↦ rw (named, different)
      | inr other ↦ rw other
    ]

-- A change at one slot, and at that slot in the buckets.
IsIndexed-changed : (p q : Cells) (k : ℕ) (m m' : Buckets) → IsIndexed p m
    → ((s : ℕ) → s ≢ k → cell q s ≡ cell p s)
    → ((name : List ℕ) → times (bucket m' name) k ≡ (if has_prefix q k name then 1 else 0))
    → ((name : List ℕ) (s : ℕ) → s ≢ k → times (bucket m' name) s ≡ times (bucket m name) s)
    → IsIndexed q m'
IsIndexed-changed p q k m m' indexed others at_k apart name s =
    elim (cases_eq s k) [
      | inl same ↦ rw same (at_k name)
      | inr other ↦ rw (others s other) (apart name s other ∙ indexed name s)
    ]

-- A live slot stores something.
pub stored_at : (p : Cells) (s : ℕ) → IsLive p s → (e : Stored) × (cell p s ≡ Some e)
stored_at p s live = by (cell p s) refl
  where
    by : (o : Option Stored) → cell p s ≡ o → (e : Stored) × (cell p s ≡ Some e)
    by None is = absurd (omega (arith, holds-vacant p s is, live))
    by (Some e) is = (e, is)

-- In a sound pool two live slots never have the same content.
pub IsPool-once : (digest : List ℕ → List ℕ) (p : Cells) → IsPool digest p → HoldsEachOnce p
IsPool-once digest p sound s t live_s live_t same =
    let e = stored_at p s live_s in
    let f = stored_at p t live_t in
    sound.distinct s t e.0 f.0 e.1 f.1
    (sym (content-at p s e.0 e.1) ∙ same ∙ content-at p t f.0 f.1)

-- A pool stays sound where each slot that stores something stored the same content before, and is
-- held.
pub IsPool-within : (digest : List ℕ → List ℕ) (p q : Cells) → IsPool digest p
    → ((s : ℕ) (e : Stored) → cell q s ≡ Some e → (f : Stored) × (cell p s ≡ Some f) × (content_of e ≡ content_of f) × (e.prefix ≡ f.prefix) × (0 < e.holds))
    → IsPool digest q
IsPool-within digest p q sound before =
    record {
      counted = λ s e is. (before s e is).4;
      named = λ s e is. let b = before s e is in b.3 ∙ sound.named s b.0 b.1 ∙ ap (λ x. prefix_of (name_by digest x)) (sym b.2);
      distinct = λ s t e f is_e is_f same.
          let b = before s e is_e in
          let d = before t f is_f in
          sound.distinct s t b.0 d.0 b.1 d.1 (sym b.2 ∙ same ∙ d.2);
    }

module _ (p q : Cells) (k : ℕ) (e : Stored) (n : ℕ) (was : cell p k ≡ Some e)
    (w : Writes p q k (Some (record e { holds = n }))) where
  -- A new count that is not 0 keeps a pool sound.
  pub IsPool-recounted : (digest : List ℕ → List ℕ) → IsPool digest p → 0 < n → IsPool digest q
  IsPool-recounted digest sound positive = IsPool-within digest p q sound before
    where
      before : (s : ℕ) (f : Stored) → cell q s ≡ Some f
          → (g : Stored) × (cell p s ≡ Some g) × (content_of f ≡ content_of g) × (f.prefix ≡ g.prefix) × (0 < f.holds)
      before s f is =
          elim (cases_eq s k) [
            | inl same ↦
                let now : record e { holds = n } ≡ f =
                same_Some _ _ (sym w.here ∙ ap (cell q) (sym same) ∙ is) in
                (e, ap (cell p) same ∙ was, sym (ap content_of now), sym (ap (λ (x : Stored). x.prefix) now), subst (λ (x : Stored). 0 < x.holds) now positive)
            | inr apart ↦
                let old : cell p s ≡ Some f = sym (w.others s apart) ∙ is in
                (f, old, refl, refl, sound.counted s f old)
          ]

  pub IsIndexed-recounted : (m : Buckets) → IsIndexed p m → IsIndexed q m
  IsIndexed-recounted m indexed name s = indexed name s ∙ ap (λ b. if b then 1 else 0) same_name
    where
      same_name : has_prefix p s name ≡ has_prefix q s name
      same_name =
          elim (cases_eq s k) [
            | inl same ↦ rw (same, was, w.here)
            | inr apart ↦ rw (w.others s apart)
          ]

  -- One hold more.
  pub Puts-recounted : n ≡ e.holds + 1 → Puts p q k (content p k)
  Puts-recounted more =
      record {
        has = content-at q k _ w.here ∙ sym (content-at p k e was);
        had = λ _. refl;
        held = holds-at q k _ w.here ∙ more ∙ ap (λ h. h + 1) (sym (holds-at p k e was));
        others = λ s apart. holds-same p q s (w.others s apart);
        other_contents = λ s apart. content-same p q s (w.others s apart);
      }

  -- One hold less, where others are left.
  pub Releases-recounted : n + 1 ≡ e.holds → Releases p q k
  Releases-recounted less =
      record {
        held = ap (λ h. h + 1) (holds-at q k _ w.here) ∙ less ∙ sym (holds-at p k e was);
        others = λ s apart. holds-same p q s (w.others s apart);
        contents = λ s _.
            elim (cases_eq s k) [
              | inl same ↦ rw same (content-at q k _ w.here ∙ sym (content-at p k e was))
              | inr apart ↦ content-same p q s (w.others s apart)
            ];
      }

module _ (p q : Cells) (k : ℕ) (e : Stored) (was : cell p k ≡ Some e) (w : Writes p q k None) where
  -- What is given up leaves a sound pool.
  pub IsPool-given_up : (digest : List ℕ → List ℕ) → IsPool digest p → IsPool digest q
  IsPool-given_up digest sound = IsPool-within digest p q sound before
    where
      before : (s : ℕ) (f : Stored) → cell q s ≡ Some f
          → (g : Stored) × (cell p s ≡ Some g) × (content_of f ≡ content_of g) × (f.prefix ≡ g.prefix) × (0 < f.holds)
      before s f is =
          elim (cases_eq s k) [
            | inl same ↦ absurd (none-some f (sym w.here ∙ ap (cell q) (sym same) ∙ is))
            | inr apart ↦
                let old : cell p s ≡ Some f = sym (w.others s apart) ∙ is in
                (f, old, refl, refl, sound.counted s f old)
          ]

  pub IsIndexed-given_up : (m m' : Buckets) → IsIndexed p m → Forgets m m' e.prefix k → IsIndexed q m'
  IsIndexed-given_up m m' indexed forgets =
      IsIndexed-changed p q k m m' indexed w.others
      (λ name. let at_k : times (bucket m name) k ≡ (if bytes_eq e.prefix name then 1 else 0) = indexed name k ∙ rw was in
      rw w.here (omega (arith, one_at-here e.prefix name k, forgets.taken name k, at_k)))
      (λ name s apart. omega (arith, one_at-apart e.prefix name k s apart, forgets.taken name s))

  pub Releases-given_up : e.holds ≡ 1 → Releases p q k
  Releases-given_up last =
      record {
        held = ap (λ h. h + 1) (holds-vacant q k w.here) ∙ sym last ∙ sym (holds-at p k e was);
        others = λ s apart. holds-same p q s (w.others s apart);
        contents = λ s live.
            elim (cases_eq s k) [
              | inl same ↦ absurd (omega (arith, live, holds-vacant q k w.here, ap (holds q) same))
              | inr apart ↦ content-same p q s (w.others s apart)
            ];
      }

module _ (p q : Cells) (k : ℕ) (e : Stored) (was : cell p k ≡ None)
    (w : Writes p q k (Some e)) where
  -- A content that was not held is stored.
  pub IsPool-stored : (digest : List ℕ → List ℕ) → IsPool digest p
      → e.prefix ≡ prefix_of (name_by digest (content_of e)) → e.holds ≡ 1
      → ((s : ℕ) → IsLive p s → content p s ≡ content_of e → ⊥) → IsPool digest q
  IsPool-stored digest sound named once absent =
      record {
        counted = λ s f is.
            elim (source s f is) [
              | inl new ↦ subst (λ (x : Stored). 0 < x.holds) new.1 (omega (arith, once))
              | inr old ↦ sound.counted s f old
            ];
        named = λ s f is.
            elim (source s f is) [
              | inl new ↦ subst (λ (x : Stored). x.prefix ≡ prefix_of (name_by digest (content_of x))) new.1 named
              | inr old ↦ sound.named s f old
            ];
        distinct = λ s t f g is_f is_g same.
            elim (source s f is_f) [
              | inl new_f ↦
                  elim (source t g is_g) [
                    | inl new_g ↦ new_f.0 ∙ sym new_g.0
                    | inr old_g ↦
                        absurd (no_other t g old_g (sym same ∙ sym (ap content_of new_f.1)))
                  ]
              | inr old_f ↦
                  elim (source t g is_g) [
                    | inl new_g ↦ absurd (no_other s f old_f (same ∙ sym (ap content_of new_g.1)))
                    | inr old_g ↦ sound.distinct s t f g old_f old_g same
                  ]
            ];
      }
    where
      source : (s : ℕ) (f : Stored) → cell q s ≡ Some f → ((s ≡ k) × (e ≡ f)) ⊎ (cell p s ≡ Some f)
      source s f is =
          elim (cases_eq s k) [
            | inl same ↦ inl (same, same_Some _ _ (sym w.here ∙ ap (cell q) (sym same) ∙ is))
            | inr apart ↦ inr (sym (w.others s apart) ∙ is)
          ]

      no_other : (s : ℕ) (f : Stored) → cell p s ≡ Some f → content_of f ≡ content_of e → ⊥
      no_other s f is same =
          absent s (subst (λ h. 0 < h) (sym (holds-at p s f is)) (sound.counted s f is))
          (content-at p s f is ∙ same)

  pub IsIndexed-stored : (m m' : Buckets) → IsIndexed p m → Notes m m' e.prefix k → IsIndexed q m'
  IsIndexed-stored m m' indexed notes =
      IsIndexed-changed p q k m m' indexed w.others
      (λ name. let at_k : times (bucket m name) k ≡ 0 = indexed name k ∙ rw was in
      rw w.here (omega (arith, one_at-here e.prefix name k, notes.added name k, at_k)))
      (λ name s apart. omega (arith, one_at-apart e.prefix name k s apart, notes.added name s))

  pub Puts-stored : e.holds ≡ 1 → Puts p q k (content_of e)
  Puts-stored once =
      record {
        has = content-at q k e w.here;
        had = λ live. absurd (omega (arith, live, holds-vacant p k was));
        held = holds-at q k e w.here ∙ once ∙ ap (λ h. h + 1) (sym (holds-vacant p k was));
        others = λ s apart. holds-same p q s (w.others s apart);
        other_contents = λ s apart. content-same p q s (w.others s apart);
      }

-- What is stored stands in the bucket of its prefix.
pub times-at : (p : Cells) (m : Buckets) (s : ℕ) (e : Stored) → cell p s ≡ Some e → IsIndexed p m
    → 0 < times (bucket m e.prefix) s
times-at p m s e is indexed =
    let once : times (bucket m e.prefix) s ≡ (if bytes_eq e.prefix e.prefix then 1 else 0) =
    indexed e.prefix s ∙ rw is in
    omega (arith, rw ((bytes_decides e.prefix e.prefix).1 refl) at once)

-- A slot in a bucket stores something.
pub stored_in_bucket : (p : Cells) (m : Buckets) (prefix : List ℕ) → IsIndexed p m → (k : ℕ)
    → k < length (bucket m prefix) → IsSome (cell p (get_or (bucket m prefix) k 0))
stored_in_bucket p m prefix indexed k within =
    let s : ℕ = get_or (bucket m prefix) k 0 in
    by (cell p s) refl (subst (λ n. 0 < n) (indexed prefix s) (times_at_place (bucket m prefix) k within))
  where
    by : (o : Option Stored) → cell p (get_or (bucket m prefix) k 0) ≡ o
        → 0 < (if has_prefix p (get_or (bucket m prefix) k 0) prefix then 1 else 0)
        → IsSome (cell p (get_or (bucket m prefix) k 0))
    by None is named = absurd (omega (arith, rw is at named))
    by (Some e) is named = rw is refl

-- A content that is stored under no slot of its bucket is not held.
pub held_nowhere : (digest : List ℕ → List ℕ) (p : Cells) (m : Buckets) (prefix : List ℕ) (c : Content)
    → IsPool digest p → IsIndexed p m → prefix ≡ prefix_of (name_by digest c)
    → ((k : ℕ) → k < length (bucket m prefix) → Stores p (get_or (bucket m prefix) k 0) c → ⊥) → (s : ℕ)
    → IsLive p s → content p s ≡ c → ⊥
held_nowhere digest p m prefix c sound indexed named nowhere s live same =
    let e = stored_at p s live in
    let is : content_of e.0 ≡ c = sym (content-at p s e.0 e.1) ∙ same in
    let prefix_is : e.0.prefix ≡ prefix =
    sound.named s e.0 e.1 ∙ ap (λ x. prefix_of (name_by digest x)) is ∙ sym named in
    let stands : 0 < times (bucket m prefix) s =
    subst (λ n. 0 < times (bucket m n) s) prefix_is (times-at p m s e.0 e.1 indexed) in
    let place = place_from_times (bucket m prefix) s stands in
    nowhere place.0 place.1 (rw place.2 (record { stored = e.0; there = e.1; same = is }))

-- A content that a slot stores is what the live slot holds.
pub Stores-live : (digest : List ℕ → List ℕ) (p : Cells) (s : ℕ) (c : Content) → IsPool digest p
    → Stores p s c → IsLive p s × (content p s ≡ c)
Stores-live digest p s c sound stores =
    (subst (λ n. 0 < n) (sym (holds-at p s stores.stored stores.there)) (sound.counted s stores.stored stores.there), content-at p s stores.stored stores.there ∙ stores.same)
