-- The type and the size of an entry are read back.
use Rattle.std.proofs.Common.{◌≡◌, ◌≢◌, ◌+◌, ◌-◌, ◌*◌, ◌/◌, ◌%◌, ◌^◌, ◌<◌, ◌≤◌, ℕ, zero, suc, List, [], ◌∷◌, ◌++◌, Some, arith, refl, ap, ◌∙◌, pow-suc}
use Rattle.std.specs.Option.{option_map}
use Rattle.std.proofs.lemmas.Bool.Decides.{nat_tests}
use Rattle.git_model.specs.declared.kind.Kind.{Kind}
use Rattle.git_model.specs.declared.kind.Kind.TheVariants as kind
use Rattle.pack_text.specs.PackText.{head_text, number_of, size_text}
use Rattle.pack_text.specs.PackReading.{head_read, rest_read}

pub size-last : (n byte : ℕ) → size_text n byte 0 ≡ byte ∷ []
unfolding size_text
size-last zero byte = refl
size-last (suc n) byte = refl

pub size-step : (n byte rest : ℕ) → rest ≢ 0
    → size_text (suc n) byte rest ≡ (byte + 128) ∷ size_text n (rest % 128) (rest / 128)
unfolding size_text
size-step n byte rest more = grind (arith, nat_tests)

read-last : (n b : ℕ) (bs : List ℕ) → b < 128 → rest_read (suc n) (b ∷ bs) ≡ Some (b, bs)
unfolding rest_read
read-last n b bs low = grind (arith, nat_tests)

read-more : (n b : ℕ) (bs : List ℕ) → 128 ≤ b → rest_read (suc n) (b ∷ bs)
    ≡ option_map (λ (r : ℕ × List ℕ). (b % 128 + 128 * r.0, r.1)) (rest_read n bs)
unfolding rest_read
read-more n b bs high = grind (arith, nat_tests)

rest-back : (n byte rest : ℕ) (bs : List ℕ) → byte < 128 → rest < 128 ^ n
    → rest_read (suc n) (size_text n byte rest ++ bs) ≡ Some (byte + 128 * rest, bs)
rest-back n byte zero bs low few =
    ap (λ (l : List ℕ). rest_read (suc n) (l ++ bs)) (size-last n byte) ∙ read-last n byte bs low
    ∙ ap (λ (m : ℕ). Some (m, bs)) (omega arith)
rest-back zero byte (suc rest) bs low few = absurd (omega (arith, few))
rest-back (suc n) byte (suc rest) bs low few =
    let r = suc rest in
    ap (λ (l : List ℕ). rest_read (suc (suc n)) (l ++ bs)) (size-step n byte r (omega arith))
    ∙ read-more (suc n) (byte + 128) (size_text n (r % 128) (r / 128) ++ bs) (omega arith)
    ∙ ap (option_map (λ (x : ℕ × List ℕ). ((byte + 128) % 128 + 128 * x.0, x.1)))
    (rest-back n (r % 128) (r / 128) bs (omega arith) (omega (arith, few, pow-suc 128 n)))
    ∙ ap (λ (m : ℕ). Some (m, bs)) (omega (arith, low))

head-last : (b : ℕ) (bs : List ℕ) → b < 128
    → head_read (b ∷ bs) ≡ Some ((b / 16, b % 16), bs)
head-last b bs low = grind (arith, nat_tests)

head-more : (b : ℕ) (bs : List ℕ) → 128 ≤ b → head_read (b ∷ bs)
    ≡ option_map (λ (r : ℕ × List ℕ). ((b / 16 % 8, b % 16 + 16 * r.0), r.1)) (rest_read 10 bs)
head-more b bs high = grind (arith, nat_tests)

-- Of a type below 8.
head-back : (number size rest : ℕ) (bs : List ℕ) → number < 8 → size < 2 ^ 64 → rest ≡ size / 16
    → head_read (size_text 10 (number * 16 + size % 16) rest ++ bs) ≡ Some ((number, size), bs)
head-back number size zero bs small fits is =
    let byte = number * 16 + size % 16 in
    let number-is : byte / 16 ≡ number = omega arith in
    let size-is : byte % 16 ≡ size = omega (arith, is) in
    ap (λ (l : List ℕ). head_read (l ++ bs)) (size-last 10 byte)
    ∙ head-last byte bs (omega (arith, small))
    ∙ ap (λ (m : ℕ). Some ((m, byte % 16), bs)) number-is
    ∙ ap (λ (m : ℕ). Some ((number, m), bs)) size-is
head-back number size (suc rest) bs small fits is =
    let byte = number * 16 + size % 16 in
    let r = suc rest in
    let number-is : (byte + 128) / 16 % 8 ≡ number = omega (arith, small) in
    let size-is : (byte + 128) % 16 + 16 * (r % 128 + 128 * (r / 128)) ≡ size = omega (arith, is) in
    ap (λ (l : List ℕ). head_read (l ++ bs)) (size-step 9 byte r (omega arith))
    ∙ head-more (byte + 128) (size_text 9 (r % 128) (r / 128) ++ bs) (omega arith)
    ∙ ap (option_map (λ (x : ℕ × List ℕ). (((byte + 128) / 16 % 8, (byte + 128) % 16 + 16 * x.0), x.1)))
    (rest-back 9 (r % 128) (r / 128) bs (omega arith) (omega (arith, fits, is)))
    ∙ ap (λ (m : ℕ). Some ((m, (byte + 128) % 16 + 16 * (r % 128 + 128 * (r / 128))), bs)) number-is
    ∙ ap (λ (m : ℕ). Some ((number, m), bs)) size-is

small_number : (k : Kind) → number_of k < 8
small_number kind.Commit = omega arith
small_number kind.Tree = omega arith
small_number kind.Blob = omega arith
small_number kind.Tag = omega arith

pub heads-back : (k : Kind) (size : ℕ) (bs : List ℕ) → size < 2 ^ 64
    → head_read (head_text k size ++ bs) ≡ Some ((number_of k, size), bs)
heads-back k size bs fits = head-back (number_of k) size (size / 16) bs (small_number k) fits refl

pub size-more : (n byte rest : ℕ) → n ≢ 0 → rest ≢ 0
    → size_text n byte rest
    ≡ ((byte + 128) ∷ []) ++ size_text (n - 1) (rest % 128) (rest / 128)
size-more zero byte rest some more = absurd (omega (arith, some))
size-more (suc n) byte rest some more =
    size-step n byte rest more
    ∙ ap (λ (m : ℕ). (byte + 128) ∷ size_text m (rest % 128) (rest / 128)) (omega arith)
