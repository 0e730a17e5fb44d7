-- Sums of bytes that are added part by part.
use Rattle.std.proofs.Common.{◌≡◌, ◌+◌, ◌*◌, ◌%◌, ◌<◌, ℕ, List, [], ◌∷◌, ◌++◌, length, take, drop, get_or, arith, ap, refl, sym, ◌∙◌, append_assoc, append-nil}
use Rattle.std.specs.List.{sum}
use Rattle.std.proofs.lemmas.Nat.{mul-mod_second}
use Rattle.std.proofs.lemmas.List.{take_more, take-append-drop}
use Rattle.std.proofs.lemmas.List.Sums.{sum_by-cons, sum_by-append, sum_by_more}
use Rattle.pack_text.specs.Adler.{high_sum}

sum-append : (xs ys : List ℕ) → sum (xs ++ ys) ≡ sum xs + sum ys
sum-append xs ys = sum_by-append (λ (n : ℕ). n) xs ys

sum-cons : (x : ℕ) (xs : List ℕ) → sum (x ∷ xs) ≡ x + sum xs
sum-cons x xs = sum_by-cons (λ (n : ℕ). n) x xs

high-append : (low : ℕ) (xs ys : List ℕ)
    → high_sum low (xs ++ ys) ≡ high_sum low xs + high_sum (low + sum xs) ys
unfolding high_sum
high-append low [] ys =
    let e : high_sum low ys ≡ high_sum (low + 0) ys =
    ap (λ (n : ℕ). high_sum n ys) (omega arith) in omega (arith, e)
high-append low (x ∷ xs) ys =
    let e : low + x + sum xs ≡ low + sum (x ∷ xs) = omega (arith, sum-cons x xs) in
    let at = ap (λ (n : ℕ). high_sum n ys) e in
    omega (arith, high-append (low + x) xs ys, at)

high-one : (low b : ℕ) → high_sum low (b ∷ []) ≡ low + b
unfolding high_sum
high-one low b = omega arith

-- What stands before the bytes counts once for each of them.
high-from : (low : ℕ) (bs : List ℕ) → high_sum low bs ≡ length bs * low + high_sum 0 bs
unfolding high_sum
high-from low [] = omega arith
high-from low (b ∷ bs) =
    let n = length bs in
    let left : n * (low + b) ≡ n * low + n * b = grind arith in
    let same : high_sum (0 + b) bs ≡ high_sum b bs =
    ap (λ (n : ℕ). high_sum n bs) (omega arith) in
    omega (arith, high-from (low + b) bs, high-from b bs, left, same)

-- ---- one more byte

pub sum-next : (bs : List ℕ) (i : ℕ) → i < length bs
    → sum (take (i + 1) bs) ≡ sum (take i bs) + get_or bs i 0
sum-next bs i lt = sum_by_more (λ (x : ℕ). x) bs i 0 lt

pub high-next : (low : ℕ) (bs : List ℕ) (i : ℕ) → i < length bs
    → high_sum low (take (i + 1) bs)
    ≡ high_sum low (take i bs) + (low + sum (take i bs) + get_or bs i 0)
high-next low bs i lt =
    ap (high_sum low) (take_more bs i 0 lt)
    ∙ high-append low (take i bs) (get_or bs i 0 ∷ [])
    ∙ ap (λ (n : ℕ). high_sum low (take i bs) + n) (high-one (low + sum (take i bs)) (get_or bs i 0))

-- ---- one more part

-- The two sums of what stands before `left`, each modulo 65521.
pub record IsSummed (bytes left : List ℕ) (s1 s2 : ℕ) : Type 0 where
  pub front : List ℕ
  pub parts : bytes ≡ front ++ left
  pub low : s1 ≡ (1 + sum front) % 65521
  pub high : s2 ≡ high_sum 1 front % 65521

low-on : (low front few : ℕ) → low ≡ (1 + front) % 65521
    → (low + few) % 65521 ≡ (1 + (front + few)) % 65521
low-on low front few e = omega (arith, e)

high-on : (low high front : ℕ) (old : ℕ) (few : List ℕ) → low ≡ front % 65521
    → high ≡ old % 65521
    → (high + high_sum low few) % 65521 ≡ (old + high_sum front few) % 65521
high-on low high front old few l h =
    let n = length few in
    let same : (n * (front % 65521)) % 65521 ≡ (n * front) % 65521 = mul-mod_second n front 65521 in
    let left : n * low ≡ n * (front % 65521) = ap (λ (m : ℕ). n * m) l in
    omega (arith, h, same, left, high-from low few, high-from front few)

pub summed-next : (bytes left few more : List ℕ) (n low high new-low new-high : ℕ)
    → few ≡ take n left → more ≡ drop n left
    → new-low ≡ low + sum few → new-high ≡ high + high_sum low few
    → IsSummed bytes left low high
    → IsSummed bytes more (new-low % 65521) (new-high % 65521)
summed-next bytes left few more n low high new-low new-high front back l h was = record {
  front = was.front ++ few;
  parts = was.parts ∙ ap (λ (x : List ℕ). was.front ++ x) (sym (take-append-drop n left)
      ∙ ap (λ (x : List ℕ). x ++ drop n left) (sym front)
      ∙ ap (λ (x : List ℕ). few ++ x) (sym back))
      ∙ sym (append_assoc was.front few more);
  low = ap (λ (x : ℕ). x % 65521) l ∙ low-on low (sum was.front) (sum few) was.low
      ∙ ap (λ (x : ℕ). (1 + x) % 65521) (sym (sum-append was.front few));
  high = ap (λ (x : ℕ). x % 65521) h
      ∙ high-on low high (1 + sum was.front) (high_sum 1 was.front) few was.low was.high
      ∙ ap (λ (x : ℕ). x % 65521) (sym (high-append 1 was.front few));
}

pub summed-none : (bytes : List ℕ) → IsSummed bytes bytes 1 0
unfolding high_sum
summed-none bytes = record { front = []; parts = refl; low = refl; high = refl }

pub summed-all : (bytes left : List ℕ) (low high : ℕ) → left ≡ [] → IsSummed bytes left low high
    → high * 65536 + low ≡ high_sum 1 bytes % 65521 * 65536 + (1 + sum bytes) % 65521
summed-all bytes left low high none was =
    let whole : bytes ≡ was.front =
    was.parts ∙ ap (λ (x : List ℕ). was.front ++ x) none ∙ append-nil was.front in
    let s = ap sum whole in
    let h = ap (high_sum 1) whole in
    omega (arith, was.low, was.high, s, h)
