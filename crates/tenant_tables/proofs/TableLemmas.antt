-- How a table stands in its pool, through each change of its own and of another table.
use Rattle.std.proofs.Common.{◌≡◌, ℕ, suc, ◌+◌, ◌-◌, ◌<◌, ◌≤◌, ◌==◌, inl, inr, cond, List, [], ◌∷◌, ◌++◌, length, take, None, refl, sym, ap, subst, ◌∙◌, arith}
use Rattle.std.specs.Prelude.{All}
use Rattle.std.proofs.lemmas.Bool.{cases_eq}
use Rattle.std.proofs.lemmas.Bool.Decides.{nat_tests}
use Rattle.std.proofs.Math.ListN.{get_or-append}
use Rattle.std.proofs.Math.Seq.{take-append_seam}
use Rattle.std.proofs.lemmas.List.{length-append, take-map, take-take, take_all}
use Rattle.std.proofs.lemmas.List.Elements.{All-nil, All-push}
use Rattle.git_model.specs.Content.{Content, name_by}
use Rattle.content_pool.specs.Pool.{Cells, holds, content, IsLive, Puts, Releases}
use Rattle.tenant_tables.specs.declared.entry.Entry.{Entry}
use Rattle.tenant_tables.specs.declared.table.TheConstants.{CONTENTS_LIMIT}
use Rattle.tenant_tables.specs.View.{Entries, entry_named, held}
use Rattle.tenant_tables.specs.Objects.{objects}
use Rattle.tenant_tables.specs.IsBackedBy.{IsBackedBy, PreservesOthers, AreCounted}
use Rattle.tenant_tables.specs.Summed.{SummedAfter}
use Rattle.tenant_tables.proofs.HoldLemmas.{Keeps, IsNamed, IsShort, short-kept, held-push, held-nil, held-absent, objects-kept, named-kept}
use Rattle.tenant_tables.proofs.SummaryLemmas.{IsSummed-nil, IsSummed-kept, IsSummed-prefix, IsSummed-push}

pub All-front : {X : Type 0} (P : X → Type 0) (xs : List X) (x : X) → All P (xs ++ x ∷ [])
    → All P xs
All-front P xs x h k d within =
    subst P (get_or-append xs (x ∷ []) d k within)
    (h k d (let n = length-append xs (x ∷ []) in omega arith))

-- ---- an empty table

pub IsBackedBy-nil : (digest : List ℕ → List ℕ) (p : Cells) → IsBackedBy digest p []
IsBackedBy-nil digest p = record {
  named = All-nil (IsNamed digest p);
  short = All-nil (IsShort p);
  once = λ s. rw (held-nil s) (omega arith);
  counted = λ s. rw (held-nil s) (omega arith);
  summed = IsSummed-nil p;
}

-- ---- a pool that changed under a table

-- entries stand where they stood, if their slots keep their contents and are still counted
pub IsBackedBy-kept : (digest : List ℕ → List ℕ) (p q : Cells) (es : Entries) → IsBackedBy digest p es
    → Keeps p q es
    → ((s : ℕ) → held es s ≤ holds q s) → IsBackedBy digest q es
IsBackedBy-kept digest p q es h k counted = record {
  named = named-kept digest p q es k h.named;
  short = short-kept p q es k h.short;
  once = h.once;
  counted = counted;
  summed = IsSummed-kept p q es k h.summed;
}

live_here : (p : Cells) (slot s : ℕ) → s ≡ slot → 0 < holds p s → 0 < holds p slot
live_here p slot s here h = rw here at h

-- a put keeps what is live
pub Keeps-put : (p q : Cells) (slot : ℕ) (c : Content) (es : Entries) → Puts p q slot c
    → ((s : ℕ) → held es s ≤ holds p s) → Keeps p q es
Keeps-put p q slot c es h counted = record { contents = by }
  where
    by : (s : ℕ) → 0 < held es s → content q s ≡ content p s
    by s some =
        elim (cases_eq s slot) [
          | inl here ↦
              let live = live_here p slot s here (let n = counted s in omega arith) in
              rw here (h.has ∙ sym (h.had live))
          | inr other ↦ h.other_contents s other
        ]

-- a release keeps what is live afterwards
pub Keeps-release : (p q : Cells) (slot : ℕ) (es : Entries) → Releases p q slot
    → ((s : ℕ) → held es s ≤ holds q s) → Keeps p q es
Keeps-release p q slot es h counted =
    record { contents = λ s some. h.contents s (let n = counted s in omega arith) }

-- ---- one entry more

pub IsBackedBy-put : (digest : List ℕ → List ℕ) (p q : Cells) (es : Entries) (id : List ℕ) (e : Entry)
    (c : Content)
    → IsBackedBy digest p es → Puts p q e.slot c → id ≡ name_by digest c → entry_named id es ≡ None
    → SummedAfter es c e.summary → length c.bytes ≤ CONTENTS_LIMIT
    → IsBackedBy digest q (es ++ (id, e) ∷ [])
IsBackedBy-put digest p q es id e c h puts named none summed within =
    let k = Keeps-put p q e.slot c es puts h.counted in record {
      named =
          All-push (IsNamed digest q) es (id, e) (named-kept digest p q es k h.named)
          (named ∙ ap (name_by digest) (sym puts.has));
      short =
          All-push (IsShort q) es (id, e) (short-kept p q es k h.short)
          (subst (λ (d : Content). length d.bytes ≤ CONTENTS_LIMIT) (sym puts.has) within);
      once = once;
      counted = counted;
      summed =
          IsSummed-push q es id e (IsSummed-kept p q es k h.summed)
          (subst (λ (d : Content). SummedAfter es d e.summary) (sym puts.has) summed);
    }
  where
    absent : IsLive p e.slot → held es e.slot ≡ 0
    absent live =
        held-absent digest p es id e.slot h.named none
        (named ∙ ap (name_by digest) (sym (puts.had live)))

    fresh : held es e.slot ≡ 0
    fresh =
        elim (cases_eq (held es e.slot) 0) [
          | inl none ↦ none
          | inr some ↦ let n = h.counted e.slot in absent (omega arith)
        ]

    once : (s : ℕ) → held (es ++ (id, e) ∷ []) s ≤ 1
    once s =
        elim (cases_eq e.slot s) [
          | inl here ↦
              let z = rw here at fresh in rw (held-push es id e s) (grind (arith, nat_tests, z))
          | inr other ↦ let n = h.once s in rw (held-push es id e s) (grind (arith, nat_tests, n))
        ]

    counted : (s : ℕ) → held (es ++ (id, e) ∷ []) s ≤ holds q s
    counted s =
        let n = h.counted s in
        elim (cases_eq s e.slot) [
          | inl here ↦
              let m = puts.held in rw (held-push es id e s) (grind (arith, nat_tests, n, m))
          | inr other ↦
              let m = puts.others s other in rw (held-push es id e s) (grind (arith, nat_tests, n, m))
        ]

pub PreservesOthers-put : (p q : Cells) (es : Entries) (id : List ℕ) (e : Entry) (c : Content)
    → Puts p q e.slot c
    → PreservesOthers p es q (es ++ (id, e) ∷ [])
PreservesOthers-put p q es id e c puts = record { rest = rest; kept = kept }
  where
    rest : (s : ℕ) → holds q s + held es s ≡ holds p s + held (es ++ (id, e) ∷ []) s
    rest s =
        elim (cases_eq s e.slot) [
          | inl here ↦ let m = puts.held in rw (held-push es id e s) (grind (arith, nat_tests, m))
          | inr other ↦
              let m = puts.others s other in rw (held-push es id e s) (grind (arith, nat_tests, m))
        ]

    kept : (s : ℕ) → held es s < holds p s → content q s ≡ content p s
    kept s more =
        elim (cases_eq s e.slot) [
          | inl here ↦
              let live = live_here p e.slot s here (omega arith) in rw here (puts.has ∙ sym (puts.had live))
          | inr other ↦ puts.other_contents s other
        ]

-- ---- one entry less

pub IsBackedBy-release : (digest : List ℕ → List ℕ) (p q : Cells) (es : Entries) (id : List ℕ)
    (e : Entry)
    → IsBackedBy digest p (es ++ (id, e) ∷ []) → Releases p q e.slot → IsBackedBy digest q es
IsBackedBy-release digest p q es id e h releases =
    let k = Keeps-release p q e.slot es releases counted in record {
      named = named-kept digest p q es k (All-front (IsNamed digest p) es (id, e) h.named);
      short = short-kept p q es k (All-front (IsShort p) es (id, e) h.short);
      once = λ s. let n = h.once s in omega (arith, held-push es id e s);
      counted = counted;
      summed = IsSummed-kept p q es k (IsSummed-prefix p es ((id, e) ∷ []) h.summed);
    }
  where
    counted : (s : ℕ) → held es s ≤ holds q s
    counted s =
        let n = h.counted s in
        let m = held-push es id e s in
        elim (cases_eq s e.slot) [
          | inl here ↦ let r = releases.held in grind (arith, nat_tests, n, m, r)
          | inr other ↦ let r = releases.others s other in grind (arith, nat_tests, n, m, r)
        ]

pub PreservesOthers-release : (p q : Cells) (es : Entries) (id : List ℕ) (e : Entry)
    → Releases p q e.slot
    → PreservesOthers p (es ++ (id, e) ∷ []) q es
PreservesOthers-release p q es id e releases = record { rest = rest; kept = kept }
  where
    rest : (s : ℕ) → holds q s + held (es ++ (id, e) ∷ []) s ≡ holds p s + held es s
    rest s =
        elim (cases_eq s e.slot) [
          | inl here ↦
              let m = releases.held in rw (held-push es id e s) (grind (arith, nat_tests, m))
          | inr other ↦
              let m = releases.others s other in rw (held-push es id e s) (grind (arith, nat_tests, m))
        ]

    kept : (s : ℕ) → held (es ++ (id, e) ∷ []) s < holds p s → content q s ≡ content p s
    kept s more = releases.contents s (let r = rest s in omega (arith, held-push es id e s))

-- ---- calls one after another

pub PreservesOthers-refl : (p : Cells) (es : Entries) → PreservesOthers p es p es
PreservesOthers-refl p es = record { rest = λ s. refl; kept = λ s more. refl }

pub PreservesOthers-then : (p q r : Cells) (es fs gs : Entries) → PreservesOthers p es q fs
    → PreservesOthers q fs r gs → PreservesOthers p es r gs
PreservesOthers-then p q r es fs gs first second = record {
  rest = λ s. let a = first.rest s in let b = second.rest s in omega arith;
  kept = λ s more. let a = first.rest s in second.kept s (omega arith) ∙ first.kept s more;
}

-- ---- what another table sees of it

others_keep : (p q : Cells) (es fs os : Entries) → AreCounted p es os → PreservesOthers p es q fs
    → Keeps p q os
others_keep p q es fs os counted leaves =
    record { contents = λ s some. leaves.kept s (let n = counted.sum s in omega arith) }

pub other_objects : (p q : Cells) (es fs os : Entries) → AreCounted p es os → PreservesOthers p es q fs
    → objects q os ≡ objects p os
other_objects p q es fs os counted leaves =
    objects-kept p q os (others_keep p q es fs os counted leaves)

pub other_counted : (p q : Cells) (es fs os : Entries) → AreCounted p es os → PreservesOthers p es q fs
    → AreCounted q fs os
other_counted p q es fs os counted leaves =
    record { sum = λ s. let n = counted.sum s in let r = leaves.rest s in omega arith }

pub other_stands : (digest : List ℕ → List ℕ) (p q : Cells) (es fs os : Entries)
    → IsBackedBy digest p os → AreCounted p es os
    → PreservesOthers p es q fs → IsBackedBy digest q os
other_stands digest p q es fs os stands counted leaves =
    let still = other_counted p q es fs os counted leaves in
    IsBackedBy-kept digest p q os stands (others_keep p q es fs os counted leaves)
    (λ s. let n = still.sum s in omega arith)

-- ---- the last entry of a table

-- its slot is live
pub last_live : (digest : List ℕ → List ℕ) (p : Cells) (es fs : Entries) (id : List ℕ) (e : Entry)
    → es ≡ fs ++ (id, e) ∷ []
    → IsBackedBy digest p es → IsLive p e.slot
last_live digest p es fs id e is h =
    let n = h.counted e.slot in
    let m : held es e.slot ≡ held fs e.slot + cond (e.slot == e.slot) 1 0 = rw is (held-push fs id e e.slot) in
    grind (arith, nat_tests, n, m)

-- without it the others stand
pub last_given_up : (digest : List ℕ → List ℕ) (p q : Cells) (es fs : Entries) (id : List ℕ)
    (e : Entry)
    → es ≡ fs ++ (id, e) ∷ []
    → IsBackedBy digest p es → Releases p q e.slot → IsBackedBy digest q fs × PreservesOthers p es q fs
last_given_up digest p q es fs id e is h releases = (
  IsBackedBy-release digest p q fs id e (rw is at h) releases,
  rw is (PreservesOthers-release p q fs id e releases),
)

-- and they are all but the last
pub but_last : (es fs : Entries) (x : List ℕ × Entry) → es ≡ fs ++ x ∷ []
    → fs ≡ take (length es - 1) es
but_last es fs x is =
    let n = length-append fs (x ∷ []) in
    let k : length (fs ++ x ∷ []) - 1 ≡ length fs = omega (arith, n) in
    rw (is, k) (sym (take-append_seam fs (x ∷ [])))

-- the objects of the first entries are the first objects
pub objects-take : (p : Cells) (n : ℕ) (es : Entries)
    → objects p (take n es) ≡ take n (objects p es)
unfolding objects
objects-take p n es =
    sym (take-map (λ (e : List ℕ × Entry). record { id = e.0; content = content p e.1.slot }) n es)

-- and they stay the same
pub last_objects : (digest : List ℕ → List ℕ) (p q : Cells) (es fs : Entries) (id : List ℕ)
    (e : Entry)
    → es ≡ fs ++ (id, e) ∷ []
    → IsBackedBy digest p es → Releases p q e.slot
    → objects q fs ≡ take (length es - 1) (objects p es)
last_objects digest p q es fs id e is h releases =
    objects-kept p q fs
    (Keeps-release p q e.slot fs releases (last_given_up digest p q es fs id e is h releases).0.counted)
    ∙ ap (objects p) (but_last es fs (id, e) is) ∙ objects-take p (length es - 1) es

pub length-objects : (p : Cells) (es : Entries) → length (objects p es) ≡ length es
unfolding objects
length-objects p [] = refl
length-objects p (x ∷ es) = ap (λ (n : ℕ). suc n) (length-objects p es)

-- ---- the objects from a position on are released, the last one first

pub record Released (digest : List ℕ → List ℕ) (p : Cells) (es : Entries) (n : ℕ) (q : Cells)
    : Type 0 where
  pub stands : IsBackedBy digest q (take n es)
  pub others : PreservesOthers p es q (take n es)
  pub left : objects q (take n es) ≡ take n (objects p es)

pub Released-none : (digest : List ℕ → List ℕ) (p : Cells) (es : Entries) (n : ℕ)
    → n ≡ length es → IsBackedBy digest p es → Released digest p es n p
Released-none digest p es n size h =
    let whole : take n es ≡ es = take_all n es (omega (arith, size)) in
    let len = length-objects p es in record {
      stands = rw whole h;
      others = rw whole (PreservesOthers-refl p es);
      left = rw whole (sym (take_all n (objects p es) (omega (arith, len, size))));
    }

pub Released-one : (digest : List ℕ → List ℕ) (p q r : Cells) (es : Entries) (i : ℕ)
    → Released digest p es (i + 1) q → IsBackedBy digest r (take i es)
    → PreservesOthers q (take (i + 1) es) r (take i es)
    → objects r (take i es) ≡ take i (objects q (take (i + 1) es)) → Released digest p es i r
Released-one digest p q r es i h stands others left = record {
  stands = stands;
  others = PreservesOthers-then p q r es (take (i + 1) es) (take i es) h.others others;
  left =
      left ∙ ap (λ os. take i os) h.left ∙ take-take i (i + 1) (objects p es) (omega arith);
}
