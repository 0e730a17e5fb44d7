-- How many items bytes can hold.
use Rattle.std.proofs.Common.{◌≡◌, ℕ, zero, suc, ◌+◌, ◌-◌, ◌≤◌, ◌<◌, Bool, true, false, ◌&&◌, List, [], ◌∷◌, ◌++◌, length, ap, subst, ◌∙◌, append-nil, arith}
use Rattle.std.specs.Prelude.{if◌then◌else◌}
use Rattle.std.proofs.lemmas.List.{length-append}
use Rattle.stream_lex.specs.Headers.{is_line_end}
use Rattle.stream_lex.specs.Items.{Item, Tail, Rest, Failed, Reading, after_items}
use Rattle.stream_lex.specs.Lexer.{held_bytes}
use Rattle.stream_lex.specs.Reading.{First, Stops, Skips, Gives, continued, first_of, is_data, walk}
use Rattle.stream_lex.specs.Running.{more_of, Takes as TakesItem}
use Rattle.tenant_stream.specs.Carrying.{ReadsOn}

abbrev HasAtMost : Reading → ℕ → Type 0
HasAtMost r n = length r.items ≤ n

either_at_most : (b : Bool) (x y : Reading) (n : ℕ) → HasAtMost x n → HasAtMost y n
    → HasAtMost (if b then x else y) n
either_at_most true x y n here there = here
either_at_most false x y n here there = there

first_at_most : (f : First) (later : ℕ → Bool → Reading) (n : ℕ)
    → ((k : ℕ) (skips : Bool) → HasAtMost (later k skips) n)
    → HasAtMost (continued f later) (suc n)
first_at_most (Stops tail) later n at_most = omega arith
first_at_most (Skips k) later n at_most = let here = at_most (k - 1) false in omega (arith, here)
first_at_most (Gives item k) later n at_most = let here = at_most (k - 1) (is_data item) in omega
    (arith, here)

walk_at_most : (bytes : List ℕ) (k : ℕ) (skips : Bool)
    → HasAtMost (walk bytes k skips) (length bytes)
unfolding walk
walk_at_most [] k skips = omega arith
walk_at_most (byte ∷ bytes) (suc k) skips = let here = walk_at_most bytes k skips in omega
    (arith, here)
walk_at_most (byte ∷ bytes) zero skips =
    either_at_most (skips && is_line_end byte) (walk bytes 0 false)
    (continued (first_of (byte ∷ bytes)) (λ k data_next. walk bytes k data_next)) (suc (length bytes))
    (let here = walk_at_most bytes 0 false in omega (arith, here))
    (first_at_most (first_of (byte ∷ bytes)) (λ k data_next. walk bytes k data_next) (length bytes)
    (λ k data_next. walk_at_most bytes k data_next))

-- no more than the bytes that are held
items_at_most : (tail : Tail) → length (more_of tail []).items ≤ held_bytes tail
items_at_most (Rest skips bytes) =
    subst (λ (l : List ℕ). length (more_of (Rest skips bytes) []).items ≤ length l)
    (append-nil bytes) (walk_at_most (bytes ++ []) 0 skips)
items_at_most (Failed fault) = omega arith

-- the items that were taken, and one more
pub taken_at_most : (old : Tail) (items : List Item) (rest : Tail) (item : Item) (new : Tail)
    → ReadsOn old items rest → TakesItem rest item new → length items + 1 ≤ held_bytes old
taken_at_most old items rest item new reads takes =
    let all : (more_of old []).items ≡ items ++ item ∷ (more_of new []).items =
    ap (λ (r : Reading). r.items) (reads [] ∙ ap (after_items items) (takes [])) in
    let sum : length (more_of old []).items ≡ length items + length
    (item ∷ (more_of new []).items) =
    ap length all ∙ length-append items (item ∷ (more_of new []).items) in
    let most = items_at_most old in
    omega (arith, sum, most)

-- what is left gets shorter
pub left_falls : (rest : Tail) (item : Item) (new : Tail) → TakesItem rest item new
    → length (more_of new []).items < length (more_of rest []).items
left_falls rest item new takes =
    let e : length (more_of rest []).items ≡ length (item ∷ (more_of new []).items) = ap
    (λ (r : Reading). length r.items) (takes []) in
    omega (arith, e)
