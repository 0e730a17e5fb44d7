-- Lists compare as the numbers that their first eight bytes spell, unless these are equal.
use Rattle.std.proofs.Common.{◌≡◌, ◌≢◌, ℕ, zero, suc, ◌+◌, ◌*◌, ◌<◌, ◌≤◌, List, [], ◌∷◌, length, take, get_or, refl, sym, ap, subst, ◌∙◌, arith, Ordering, Less, Equal, Greater}
use Rattle.std.proofs.lemmas.List.{length-take-le}
use Rattle.std.specs.Cmp.{nat_cmp_is, ranks}
use Rattle.std.specs.Cmp.Lexicographic.{slice_cmp}
use Rattle.std.specs.Int.{w64, from_be_bytes}
use Rattle.std.specs.Ordering.{nat_cmp, ordering_then, MatchOrdering}

abbrev AreBytes : List ℕ → Type 0
AreBytes bytes = (place : ℕ) → get_or bytes place 0 < 256

-- The number that the digits of n and then the bytes spell to the base 256.
abbrev number_after : ℕ → List ℕ → ℕ
number_after n [] = n
number_after n (byte ∷ bytes) = number_after (n * 256 + byte) bytes

abbrev front : ℕ → ℕ → List ℕ → ℕ
front count n bytes = number_after n (take count bytes)

-- The lists compare as the numbers do, unless these are equal.
abbrev Decide : ℕ → ℕ → List ℕ → List ℕ → Type 0
Decide m n xs ys = m ≢ n → nat_cmp m n ≡ slice_cmp nat_cmp xs ys

-- A smaller number stays smaller, whatever bytes come after it.
rises : (count m n : ℕ) (xs ys : List ℕ) → count ≤ length xs → count ≤ length ys → AreBytes xs
    → m < n → front count m xs < front count n ys
rises zero m n xs ys long wide small less = less
rises (suc count) m n [] ys long wide small less = absurd (omega (arith, long))
rises (suc count) m n (x ∷ xs) [] long wide small less = absurd (omega (arith, wide))
rises (suc count) m n (x ∷ xs) (y ∷ ys) long wide small less =
    let byte : x < 256 = small 0 in
    let later : m * 256 + x < n * 256 + y = omega (arith, less, byte) in
    rises count (m * 256 + x) (n * 256 + y) xs ys (omega (arith, long)) (omega (arith, wide))
    (λ k. small (suc k)) later

numbers_decide : (count n : ℕ) (xs ys : List ℕ) → count ≤ length xs → count ≤ length ys
    → AreBytes xs → AreBytes ys → Decide (front count n xs) (front count n ys) xs ys
numbers_decide zero n xs ys long wide small tiny = λ differ. absurd (differ refl)
numbers_decide (suc count) n [] ys long wide small tiny = absurd (omega (arith, long))
numbers_decide (suc count) n (x ∷ xs) [] long wide small tiny = absurd (omega (arith, wide))
numbers_decide (suc count) n (x ∷ xs) (y ∷ ys) long wide small tiny =
    by (nat_cmp x y) refl (ranks x y)
    (numbers_decide count (n * 256 + x) xs ys fits room (λ k. small (suc k)) (λ k. tiny (suc k)))
  where
    fits : count ≤ length xs
    fits = omega (arith, long)

    room : count ≤ length ys
    room = omega (arith, wide)

    first : (r : Ordering) → nat_cmp x y ≡ r
        → ordering_then r (slice_cmp nat_cmp xs ys) ≡ slice_cmp nat_cmp (x ∷ xs) (y ∷ ys)
    first r is = sym (ap (λ o. ordering_then o (slice_cmp nat_cmp xs ys)) is)

    by : (r : Ordering) → nat_cmp x y ≡ r → MatchOrdering r (x < y) (x ≡ y) (y < x)
        → Decide (front count (n * 256 + x) xs) (front count (n * 256 + x) ys) xs ys
        → Decide (front count (n * 256 + x) xs) (front count (n * 256 + y) ys) (x ∷ xs) (y ∷ ys)
    by Less is less rest differ =
        let below : x < y = less in
        let later : n * 256 + x < n * 256 + y = omega (arith, below) in
        let rise = rises count (n * 256 + x) (n * 256 + y) xs ys fits room (λ k. small (suc k)) later in
        sym (nat_cmp_is _ _ Less rise) ∙ first Less is
    by Equal is same rest differ =
        let to_y : ℕ → Type 0 = λ byte.
        Decide (front count (n * 256 + x) xs) (front count (n * 256 + byte) ys) xs ys in
        subst to_y same rest differ ∙ first Equal is
    by Greater is greater rest differ =
        let above : y < x = greater in
        let later : n * 256 + y < n * 256 + x = omega (arith, above) in
        let rise = rises count (n * 256 + y) (n * 256 + x) ys xs room fits (λ k. tiny (suc k)) later in
        sym (nat_cmp_is _ _ Greater rise) ∙ first Greater is

-- The same number, by the places of its bytes.
abbrev number_from : ℕ → ℕ → ℕ → List ℕ → ℕ
number_from n place zero bytes = n
number_from n place (suc count) bytes =
    number_from (n * 256 + get_or bytes place 0) (suc place) count bytes

moved : (n place count byte : ℕ) (bytes : List ℕ)
    → number_from n (suc place) count (byte ∷ bytes) ≡ number_from n place count bytes
moved n place zero byte bytes = refl
moved n place (suc count) byte bytes =
    moved (n * 256 + get_or bytes place 0) (suc place) count byte bytes

by_places : (n : ℕ) (bytes : List ℕ) → number_from n 0 (length bytes) bytes ≡ number_after n bytes
by_places n [] = refl
by_places n (byte ∷ bytes) =
    moved (n * 256 + byte) 0 (length bytes) byte bytes ∙ by_places (n * 256 + byte) bytes

eight_spell : (bytes : List ℕ) → length bytes ≡ 8 → from_be_bytes w64 bytes ≡ number_after 0 bytes
eight_spell bytes eight =
    let sum : from_be_bytes w64 bytes ≡ number_from 0 0 8 bytes = omega arith in
    sum ∙ ap (λ (count : ℕ). number_from 0 0 count bytes) (sym eight) ∙ by_places 0 bytes

pub fronts_decide : (m n : ℕ) (xs ys : List ℕ) → AreBytes xs → AreBytes ys
    → 8 ≤ length xs → 8 ≤ length ys
    → m ≡ from_be_bytes w64 (take 8 xs) → n ≡ from_be_bytes w64 (take 8 ys) → Decide m n xs ys
fronts_decide m n xs ys small tiny long wide is are =
    let first = is ∙ eight_spell (take 8 xs) (length-take-le 8 xs long) in
    let second = are ∙ eight_spell (take 8 ys) (length-take-le 8 ys wide) in
    rw (first, second) (numbers_decide 8 0 xs ys long wide small tiny)
