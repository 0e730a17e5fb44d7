-- The bodies of a Missing and an Entries are those of the requests that are read of them.
use Rattle.std.proofs.Common.{◌≡◌, ℕ, zero, suc, ◌+◌, ◌/◌, ◌≤◌, List, [], ◌∷◌, ◌++◌, length, take, drop, ap, ◌∙◌, arith}
use Rattle.std.specs.Int.{w32, w64, from_be_bytes, to_be_bytes}
use Rattle.std.proofs.lemmas.Nat.{be_bytes_4, be_bytes_8}
use Rattle.std.proofs.lemmas.List.{length-take, take-append-drop}
use Rattle.byte_devices.specs.Reading.{AreBytes}
use Rattle.service_steps.specs.Requests.{entries_body, missing_body}

-- The first bytes of bytes are bytes.
first_bytes : (n : ℕ) (body : List ℕ) → AreBytes body → AreBytes (take n body)
first_bytes zero body small i = omega arith
first_bytes (suc n) [] small i = omega arith
first_bytes (suc n) (x ∷ xs) small zero = small 0
first_bytes (suc n) (x ∷ xs) small (suc i) = first_bytes n xs (λ k. small (suc k)) i

first_size : (n : ℕ) (body : List ℕ) → n ≤ length body → length (take n body) ≡ n
first_size n body there = let l = length-take n body in omega (arith, l, there)

-- A chunk at the beginning, and what follows it.
abbrev pub Splits : ℕ → List ℕ → List ℕ → List ℕ → Type 0
Splits n body chunk names = (chunk ≡ take n body) × (names ≡ drop n body) × (length names + n ≡ length body)

pub entries_told : (body chunk names : List ℕ) (limit : ℕ) → AreBytes body → Splits 8 body chunk names
    → limit ≡ from_be_bytes w64 chunk → entries_body limit names ≡ body
entries_told body chunk names limit small splits is =
    let there : 8 ≤ length body = let s = splits.2 in omega (arith, s) in
    ap (λ (l : List ℕ). l ++ names)
    (be_bytes_8 (take 8 body) limit (first_size 8 body there) (first_bytes 8 body small) (is ∙ ap (from_be_bytes w64) splits.0))
    ∙ ap (λ (l : List ℕ). take 8 body ++ l) splits.1 ∙ take-append-drop 8 body

-- The names are cut anywhere after so many whole ones.
pub missing_told : (body chunk names wants haves : List ℕ) (count cut : ℕ) → AreBytes body → Splits 4 body chunk names
    → count ≡ from_be_bytes w32 chunk → wants ≡ take cut names → haves ≡ drop cut names → length wants / 20 ≡ count
    → missing_body wants haves ≡ body
missing_told body chunk names wants haves count cut small splits is front back many =
    let there : 4 ≤ length body = let s = splits.2 in omega (arith, s) in
    let parts : wants ++ haves ≡ drop 4 body = ap (λ (l : List ℕ). l ++ haves) front ∙ ap (λ (l : List ℕ). take cut names ++ l) back
    ∙ take-append-drop cut names ∙ splits.1 in
    ap (λ (n : ℕ). to_be_bytes w32 n ++ (wants ++ haves)) many
    ∙ ap (λ (l : List ℕ). l ++ (wants ++ haves))
    (be_bytes_4 (take 4 body) count (first_size 4 body there) (first_bytes 4 body small) (is ∙ ap (from_be_bytes w32) splits.0))
    ∙ ap (λ (l : List ℕ). take 4 body ++ l) parts ∙ take-append-drop 4 body
