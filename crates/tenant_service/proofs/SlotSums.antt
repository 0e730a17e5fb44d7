-- Sums over the slots of a pool that have a content: how often it is held there, and how often a
-- table holds it.
use Rattle.std.proofs.Common.{◌≡◌, ℕ, zero, suc, ◌+◌, ◌<◌, ◌≤◌, ◌==◌, Bool, true, false, cond, [], ◌∷◌, map, None, Some, refl, sym, ap, ◌∙◌, inl, inr, arith}
use Rattle.std.specs.Prelude.{count_by, filter_map}
use Rattle.std.proofs.lemmas.Bool.{cases_eq}
use Rattle.std.proofs.lemmas.Bool.Decides.{nat_tests}
use Rattle.std.proofs.lemmas.List.Sums.{sum_by-cons}
use Rattle.git_model.specs.Content.{Content, same_content}
use Rattle.git_model.specs.Repository.{Object}
use Rattle.content_pool.specs.Pool.{Cells, content_of, holds, content}
use Rattle.content_pool.specs.declared.stored.Stored.{Stored}
use Rattle.tenant_tables.specs.View.{Entries, held}
use Rattle.tenant_tables.specs.Objects.{objects}
use Rattle.tenant_tables.proofs.HoldLemmas.{held-nil, held-cons, held-head, held-tail}
use Rattle.tenant_service.specs.Tenants.{holds_of}

-- ---- sums over the slots that have a content

pub over : Cells → Content → (ℕ → ℕ) → ℕ
over [] c h = 0
over (None ∷ p) c h = over p c (λ s. h (suc s))
over (Some e ∷ p) c h = cond (same_content c (content_of e)) (h zero) 0 + over p c (λ s. h (suc s))

pub holds-over : (p : Cells) (c : Content) → holds_of p c ≡ over p c (holds p)
unfolding over holds
holds-over [] c = refl
holds-over (None ∷ p) c = holds-over p c
holds-over (Some e ∷ p) c =
    sum_by-cons (λ (x : Stored). cond (same_content c (content_of x)) x.holds 0) e (filter_map (λ o. o) p)
    ∙ ap (λ n. cond (same_content c (content_of e)) e.holds 0 + n) (holds-over p c)

pub over-same : (p : Cells) (c : Content) (h k : ℕ → ℕ) → ((s : ℕ) → h s ≡ k s) → over p c h ≡ over p c k
over-same p c h k same = λ i. over p c (λ s. same s i)

pub over-none : (p : Cells) (c : Content) → over p c (λ s. 0) ≡ 0
unfolding over
over-none [] c = refl
over-none (None ∷ p) c = over-none p c
over-none (Some e ∷ p) c = by (same_content c (content_of e)) (over-none p c)
  where
    by : (b : Bool) → over p c (λ s. 0) ≡ 0 → cond b 0 0 + over p c (λ s. 0) ≡ 0
    by true none = omega (arith, none)
    by false none = omega (arith, none)

pub over-sum : (p : Cells) (c : Content) (h k : ℕ → ℕ)
    → over p c (λ s. h s + k s) ≡ over p c h + over p c k
unfolding over
over-sum [] c h k = refl
over-sum (None ∷ p) c h k = over-sum p c (λ s. h (suc s)) (λ s. k (suc s))
over-sum (Some e ∷ p) c h k =
    by (same_content c (content_of e)) (over-sum p c (λ s. h (suc s)) (λ s. k (suc s)))
  where
    by : (b : Bool)
        → over p c (λ s. h (suc s) + k (suc s)) ≡ over p c (λ s. h (suc s)) + over p c (λ s. k (suc s))
        → cond b (h zero + k zero) 0 + over p c (λ s. h (suc s) + k (suc s))
        ≡ (cond b (h zero) 0 + over p c (λ s. h (suc s))) + (cond b (k zero) 0 + over p c (λ s. k (suc s)))
    by true sum = omega (arith, sum)
    by false sum = omega (arith, sum)

next-slot : (t s : ℕ) → ◌≡◌ {A = ℕ} (cond (suc t == suc s) 1 0) (cond (t == s) 1 0)
next-slot t s = elim (cases_eq t s) [
  | inl here ↦ grind (arith, nat_tests, here)
  | inr other ↦ grind (arith, nat_tests, other)
]

-- one slot
over-one : (p : Cells) (c : Content) (slot : ℕ) → 0 < holds p slot
    → over p c (λ s. cond (slot == s) 1 0) ≡ cond (same_content c (content p slot)) 1 0
unfolding over holds content
over-one [] c slot live = absurd (omega (arith, live))
over-one (None ∷ p) c zero live = absurd (omega (arith, live))
over-one (None ∷ p) c (suc slot) live =
    over-same p c _ _ (next-slot slot) ∙ over-one p c slot live
over-one (Some e ∷ p) c zero live =
    let here : ◌≡◌ {A = ℕ} (cond (zero == zero) 1 0) 1 = grind (arith, nat_tests) in
    let later : over p c (λ s. cond (zero == suc s) 1 0) ≡ 0 =
    over-same p c _ (λ s. 0) (λ s. grind (arith, nat_tests)) ∙ over-none p c in
    by (same_content c (content_of e)) here later
  where
    by : (b : Bool) → ◌≡◌ {A = ℕ} (cond (zero == zero) 1 0) 1
        → over p c (λ s. cond (zero == suc s) 1 0) ≡ 0
        → cond b (cond (zero == zero) 1 0) 0 + over p c (λ s. cond (zero == suc s) 1 0) ≡ cond b 1 0
    by true here later = omega (arith, here, later)
    by false here later = omega (arith, later)
over-one (Some e ∷ p) c (suc slot) live =
    let other : ◌≡◌ {A = ℕ} (cond (suc slot == zero) 1 0) 0 = grind (arith, nat_tests) in
    let later : over p c (λ s. cond (suc slot == suc s) 1 0) ≡ cond (same_content c (content p slot)) 1 0 =
    over-same p c _ _ (next-slot slot) ∙ over-one p c slot live in
    by (same_content c (content_of e)) other later
  where
    by : (b : Bool) → ◌≡◌ {A = ℕ} (cond (suc slot == zero) 1 0) 0
        → over p c (λ s. cond (suc slot == suc s) 1 0) ≡ cond (same_content c (content p slot)) 1 0
        → cond b (cond (suc slot == zero) 1 0) 0 + over p c (λ s. cond (suc slot == suc s) 1 0)
        ≡ cond (same_content c (content p slot)) 1 0
    by true other later = omega (arith, other, later)
    by false other later = omega (arith, later)

-- ---- the entries of a table

pub over-entries : (p : Cells) (c : Content) (es : Entries) → ((s : ℕ) → held es s ≤ holds p s)
    → over p c (held es) ≡ count_by (same_content c) (map (λ (o : Object). o.content) (objects p es))
unfolding objects
over-entries p c [] counted = over-same p c (held []) (λ s. 0) held-nil ∙ over-none p c
over-entries p c (x ∷ es) counted =
    let live : 0 < holds p x.1.slot =
    let head = held-head x es in let bound = counted x.1.slot in omega (arith, head, bound) in
    let rest = over-entries p c es
    (λ s. let tail = held-tail x es s in let bound = counted s in omega (arith, tail, bound)) in
    let one = over-one p c x.1.slot live in
    over-same p c (held (x ∷ es)) (λ s. cond (x.1.slot == s) 1 0 + held es s) (held-cons x es)
    ∙ over-sum p c (λ s. cond (x.1.slot == s) 1 0) (held es)
    ∙ (λ i. one i + rest i)
    ∙ sym (sum_by-cons (λ (d : Content). cond (same_content c d) 1 0) (content p x.1.slot)
    (map (λ (o : Object). o.content) (objects p es)))
