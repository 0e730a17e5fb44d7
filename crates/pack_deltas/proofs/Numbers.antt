-- The sizes of a delta, byte by byte.
use Rattle.std.proofs.Common.{◌≡◌, ◌+◌, ◌*◌, ◌-◌, ◌%◌, ◌^◌, ◌<◌, ◌≤◌, ℕ, zero, suc, Bool, cond, List, [], ◌∷◌, length, None, Some, refl, sym, ap, ◌∙◌, subst, arith, pow-suc}
use Rattle.std.specs.Option.{option_map}
use Rattle.std.proofs.lemmas.Bool.{lt-ltb, le-ltb}
use Rattle.std.proofs.Math.Nat.{mul_assoc, mul-add, mul-le-mul_left}
use Rattle.pack_deltas.specs.Delta.{size_in, Taken}

-- what is read so far, before what the rest says
abbrev pub sized : ℕ → ℕ → Taken ℕ → Taken ℕ
sized size scale more = option_map (λ m. (size + scale * m.0, m.1)) more

-- So many bytes may follow, and the size is below what they count.
pub record IsSizeSo (text rest : List ℕ) (size scale left : ℕ) : Type 0 where
  pub few : left ≤ 5
  pub small : size < scale
  pub counts : scale ≡ 128 ^ (5 - left)
  pub reads : sized size scale (size_in left rest) ≡ size_in 5 text

pub begun : (text : List ℕ) → IsSizeSo text text 0 1 5
begun text = record {
  few = omega arith;
  small = omega arith;
  counts = refl;
  reads = same (size_in 5 text);
}
  where
    same : (o : Taken ℕ) → sized 0 1 o ≡ o
    same None = refl
    same (Some m) = ap (λ (n : ℕ). Some (n, m.1)) (omega arith)

pub scale-bound : (n : ℕ) → n < 5 → 128 ^ n ≤ 268435456
scale-bound zero h = omega arith
scale-bound (suc zero) h = omega arith
scale-bound (suc (suc zero)) h = omega arith
scale-bound (suc (suc (suc zero))) h = omega arith
scale-bound (suc (suc (suc (suc zero)))) h = omega arith
scale-bound (suc (suc (suc (suc (suc n))))) h = absurd (omega arith)

-- a byte that another one follows
more-digits : (size scale d m : ℕ) → size + scale * d + scale * 128 * m ≡ size + scale * (d + 128 * m)
more-digits size scale d m =
    let one = mul_assoc scale 128 m in
    let two = mul-add scale d (128 * m) in
    omega (arith, one, two)

sized-more : (size scale d : ℕ) (o : Taken ℕ)
    → sized (size + scale * d) (scale * 128) o
    ≡ sized size scale (option_map (λ more. (d + 128 * more.0, more.1)) o)
sized-more size scale d None = refl
sized-more size scale d (Some m) = ap (λ (n : ℕ). Some (n, m.1)) (more-digits size scale d m.0)

module _ (text : List ℕ) (byte : ℕ) (after : List ℕ) (size scale left : ℕ)
    (so : IsSizeSo text (byte ∷ after) size scale (suc left)) where
  digit-bound : scale * (byte % 128) ≤ scale * 127
  digit-bound = mul-le-mul_left scale (omega arith)

  pub sum-bound : size + scale * (byte % 128) < scale * 128
  sum-bound =
      let d = digit-bound in let s = so.small in omega (arith, d, s)

  -- it is the last one
  pub last-read : byte < 128 → Some (size + scale * (byte % 128), after) ≡ size_in 5 text
  unfolding size_in
  last-read lt =
      let same : byte % 128 ≡ byte = omega (arith, lt) in
      ap (λ (d : ℕ). Some (size + scale * d, after)) same
      ∙ ap (λ (b : Bool). sized size scale (cond b (Some (byte, after)) (option_map (λ more. (byte % 128 + 128 * more.0, more.1)) (size_in left after)))) (sym (lt-ltb byte 128 lt))
      ∙ so.reads

  -- more follow
  pub next-size : 128 ≤ byte
      → IsSizeSo text after (size + scale * (byte % 128)) (scale * 128) left
  unfolding size_in
  next-size le = record {
    few = let f = so.few in omega arith;
    small = sum-bound;
    counts =
        ap (λ (n : ℕ). n * 128) so.counts
        ∙ sym (pow-suc 128 (5 - suc left))
        ∙ ap (λ (n : ℕ). 128 ^ n) (let f = so.few in omega arith);
    reads =
        sized-more size scale (byte % 128) (size_in left after)
        ∙ ap (λ (b : Bool). sized size scale (cond b (Some (byte, after)) (option_map (λ more. (byte % 128 + 128 * more.0, more.1)) (size_in left after)))) (sym (le-ltb byte 128 le))
        ∙ so.reads;
  }

  pub scale-small : scale ≤ 268435456
  scale-small =
      subst (λ (n : ℕ). n ≤ 268435456) (sym so.counts)
      (scale-bound (5 - suc left) (let f = so.few in omega arith))

-- where bytes may follow, one does
pub one-left : (text rest : List ℕ) (byte : ℕ) (after : List ℕ) (size scale left : ℕ)
    → rest ≡ byte ∷ after → 0 < left → IsSizeSo text rest size scale left
    → IsSizeSo text (byte ∷ after) size scale (suc (left - 1))
one-left text rest byte after size scale left is some so =
    let same : left ≡ suc (left - 1) = omega arith in
    subst (λ (n : ℕ). IsSizeSo text (byte ∷ after) size scale n) same
    (subst (λ (r : List ℕ). IsSizeSo text r size scale left) is so)

-- nothing is left to read
pub none-read : (text rest : List ℕ) (size scale left : ℕ) → length rest ≡ 0 → 0 < left
    → IsSizeSo text rest size scale left → None ≡ size_in 5 text
unfolding size_in
none-read text (byte ∷ rest) size scale left none some so = absurd (omega arith)
none-read text [] size scale zero none some so = absurd (omega arith)
none-read text [] size scale (suc left) none some so = so.reads

-- no byte may follow
pub none-left : (text rest : List ℕ) (size scale left : ℕ) → left ≡ 0
    → IsSizeSo text rest size scale left → None ≡ size_in 5 text
unfolding size_in
none-left text rest size scale left none so =
    ap (λ (n : ℕ). sized size scale (size_in n rest)) (sym none) ∙ so.reads
