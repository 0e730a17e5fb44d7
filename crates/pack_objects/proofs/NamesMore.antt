-- Names in bytes, one more at a time.
use Rattle.std.proofs.Common.{◌≡◌, ℕ, ◌+◌, ◌*◌, ◌/◌, ◌<◌, ◌≤◌, List, [], ◌∷◌, ◌++◌, length, get_or, map, take, drop, sym, ap, ap₂, ◌∙◌, arith}
use Rattle.std.specs.List.{range_with_len}
use Rattle.std.proofs.lemmas.List.{length-drop, take_all, take_more}
use Rattle.std.proofs.lemmas.List.FromFn.{length-map-range_with_len, take-map-range_with_len, get_or-map-range_with_len}
use Rattle.std.proofs.Math.Seq.{drop-drop}

range-more : (f : ℕ → List ℕ) (k : ℕ) → map f (range_with_len 0 (k + 1)) ≡ map f (range_with_len 0 k) ++ f k ∷ []
range-more f k =
    let l : List (List ℕ) = map f (range_with_len 0 (k + 1)) in
    let size : length l ≡ k + 1 = length-map-range_with_len f 0 (k + 1) in
    sym (take_all (k + 1) l (omega (arith, size)))
    ∙ take_more l k [] (omega (arith, size))
    ∙ ap₂ (λ a b. a ++ b ∷ []) (take-map-range_with_len f 0 (k + 1) k (omega arith)) (get_or-map-range_with_len f 0 (k + 1) k k [] (omega arith) (omega arith))

abbrev pub name_at : List ℕ → ℕ → List ℕ
name_at bytes k = take 20 (drop (20 * k) bytes)

pub names-more : (bytes : List ℕ) (k : ℕ) (rest after name : List ℕ) (names new : List (List ℕ)) → rest ≡ drop (20 * k) bytes
    → names ≡ map (name_at bytes) (range_with_len 0 k) → name ≡ take 20 rest → after ≡ drop 20 rest → new ≡ names ++ name ∷ []
    → (after ≡ drop (20 * (k + 1)) bytes) × (new ≡ map (name_at bytes) (range_with_len 0 (k + 1)))
names-more bytes k rest after name names new at so_far is later grown = (
  later ∙ ap (drop 20) at ∙ further,
  grown ∙ ap₂ (λ a b. a ++ b ∷ []) so_far (is ∙ ap (take 20) at) ∙ sym (range-more (name_at bytes) k),
)
  where
    further : drop 20 (drop (20 * k) bytes) ≡ drop (20 * (k + 1)) bytes
    further = drop-drop 20 (20 * k) bytes ∙ ap (λ n. drop n bytes) (omega arith)

-- There is a whole name left.
pub name-left : (bytes : List ℕ) (k count : ℕ) (rest : List ℕ) → rest ≡ drop (20 * k) bytes → count ≡ length bytes / 20 → k < count
    → length rest < 20 → ⊥
name-left bytes k count rest at many more short =
    let size = ap length at ∙ length-drop (20 * k) bytes in
    absurd (omega (arith, many, more, short, size))
