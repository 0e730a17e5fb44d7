-- Items that are appended one after another, and what stands at the front meanwhile.
use Rattle.std.proofs.Common.{◌≡◌, ℕ, zero, suc, ◌+◌, ◌<◌, ◌≤◌, List, [], ◌∷◌, ◌++◌, length, get_or, take, drop, map, slice_get, None, Some, refl, sym, ap, ◌∙◌, arith, codes, append-nil}
use Rattle.std.specs.List.{flat_map}
use Rattle.std.proofs.lemmas.Grind.{flat_map-append}
use Rattle.std.proofs.lemmas.List.{append_assoc, map-append, take-append-drop, take_at, take_more}
use Rattle.std.proofs.lemmas.Option.{get_or_from_slice_get, slice_get_within}
use Rattle.git_objects.proofs.Kept.{kept_front}
use Rattle.stream_lex.specs.Items.{Item, Line}
use Rattle.export_text.specs.ItemText.{item_text, items_text}

pub text-append : (xs ys : List Item) → items_text (xs ++ ys) ≡ items_text xs ++ items_text ys
text-append xs ys = flat_map-append item_text xs ys

pub kept_twice : (old mid new : List ℕ) → take (length old) mid ≡ old → take (length mid) new ≡ mid
    → take (length old) new ≡ old
kept_twice old mid new first later =
    kept_front old mid new (drop (length old) mid)
    (sym (take-append-drop (length old) mid) ∙ ap (λ front. front ++ drop (length old) mid) first) later

pub kept_more : (old mid new more : List ℕ) → take (length old) mid ≡ old → new ≡ mid ++ more
    → take (length old) new ≡ old
kept_more old mid new more first grown =
    kept_twice old mid new first (ap (take (length mid)) grown ∙ take_at mid more (length mid) refl)

pub kept_thrice : (old n₁ n₂ new : List ℕ) → take (length old) n₁ ≡ old → take (length n₁) n₂ ≡ n₁
    → take (length n₂) new ≡ n₂ → take (length old) new ≡ old
kept_thrice old n₁ n₂ new first next last =
    kept_twice old n₂ new (kept_twice old n₁ n₂ first next) last

pub kept_four : (old n₁ n₂ n₃ new : List ℕ) → take (length old) n₁ ≡ old → take (length n₁) n₂ ≡ n₁
    → take (length n₂) n₃ ≡ n₂ → take (length n₃) new ≡ n₃ → take (length old) new ≡ old
kept_four old n₁ n₂ n₃ new first next third last =
    kept_twice old n₃ new (kept_thrice old n₁ n₂ n₃ first next third) last

pub kept_five : (old n₁ n₂ n₃ n₄ new : List ℕ) → take (length old) n₁ ≡ old
    → take (length n₁) n₂ ≡ n₁ → take (length n₂) n₃ ≡ n₂ → take (length n₃) n₄ ≡ n₃
    → take (length n₄) new ≡ n₄ → take (length old) new ≡ old
kept_five old n₁ n₂ n₃ n₄ new first next third fourth last =
    kept_twice old n₄ new (kept_four old n₁ n₂ n₃ n₄ first next third fourth) last

pub kept_six : (old n₁ n₂ n₃ n₄ n₅ new : List ℕ) → take (length old) n₁ ≡ old
    → take (length n₁) n₂ ≡ n₁ → take (length n₂) n₃ ≡ n₂ → take (length n₃) n₄ ≡ n₃
    → take (length n₄) n₅ ≡ n₄ → take (length n₅) new ≡ n₅ → take (length old) new ≡ old
kept_six old n₁ n₂ n₃ n₄ n₅ new first next third fourth fifth last =
    kept_twice old n₅ new (kept_five old n₁ n₂ n₃ n₄ n₅ first next third fourth fifth) last

pub two : (old mid new : List ℕ) (xs ys : List Item) → mid ≡ old ++ items_text xs
    → new ≡ mid ++ items_text ys → new ≡ old ++ items_text (xs ++ ys)
two old mid new xs ys first later =
    later ∙ ap (λ front. front ++ items_text ys) first
    ∙ append_assoc old (items_text xs) (items_text ys)
    ∙ ap (λ text. old ++ text) (sym (text-append xs ys))

pub three : (old n₁ n₂ new : List ℕ) (a b c : List Item) → n₁ ≡ old ++ items_text a
    → n₂ ≡ n₁ ++ items_text b → new ≡ n₂ ++ items_text c → new ≡ old ++ items_text (a ++ b ++ c)
three old n₁ n₂ new a b c e₁ e₂ e₃ = two old n₂ new (a ++ b) c (two old n₁ n₂ a b e₁ e₂) e₃

pub five : (old n₁ n₂ n₃ n₄ new : List ℕ) (a b c d e : List Item) → n₁ ≡ old ++ items_text a
    → n₂ ≡ n₁ ++ items_text b → n₃ ≡ n₂ ++ items_text c → n₄ ≡ n₃ ++ items_text d
    → new ≡ n₄ ++ items_text e → new ≡ old ++ items_text (a ++ b ++ c ++ d ++ e)
five old n₁ n₂ n₃ n₄ new a b c d e e₁ e₂ e₃ e₄ e₅ =
    two old n₄ new (a ++ b ++ c ++ d) e
    (two old n₃ n₄ (a ++ b ++ c) d (two old n₂ n₃ (a ++ b) c (two old n₁ n₂ a b e₁ e₂) e₃) e₄) e₅

-- a line of a word and what stands after it
pub line-of : (old n₁ n₂ new word text : List ℕ) → n₁ ≡ old ++ word → n₂ ≡ n₁ ++ text
    → new ≡ n₂ ++ 10 ∷ [] → new ≡ old ++ items_text (Line (word ++ text) ∷ [])
line-of old n₁ n₂ new word text first next last =
    last ∙ ap (λ x. x ++ 10 ∷ []) (next ∙ ap (λ x. x ++ text) first) ∙ grouped
  where
    grouped : ((old ++ word) ++ text) ++ 10 ∷ [] ≡ old ++ items_text (Line (word ++ text) ∷ [])
    grouped = simp (append_assoc, append-nil)

-- the line of a file
pub file-line-of : (old n₁ n₂ n₃ n₄ new mode held path : List ℕ)
    → n₁ ≡ old ++ (codes "M " ++ (mode ++ codes " ")) → n₂ ≡ n₁ ++ held → n₃ ≡ n₂ ++ 32 ∷ []
    → n₄ ≡ n₃ ++ path → new ≡ n₄ ++ 10 ∷ [] → new ≡ old
    ++ items_text (Line (codes "M " ++ mode ++ codes " " ++ held ++ codes " " ++ path) ∷ [])
file-line-of old n₁ n₂ n₃ n₄ new mode held path e₁ e₂ e₃ e₄ e₅ =
    e₅ ∙ ap (λ x. x ++ 10 ∷ []) (e₄ ∙ ap (λ x. x ++ path) (e₃ ∙ ap (λ x. x ++ 32 ∷ [])
    (e₂ ∙ ap (λ x. x ++ held) e₁))) ∙ grouped (codes "M ") (codes " ") (codes "\n")
  where
    grouped : (word space end : List ℕ)
        → ((((old ++ (word ++ (mode ++ space))) ++ held) ++ space) ++ path) ++ end
        ≡ old ++ (word ++ mode ++ space ++ held ++ space ++ path ++ end ++ [])
    grouped word space end = simp (append_assoc, append-nil)

-- ---- one element more of a list that is walked

pub next-of : {X : Type 0} (xs : List X) (i : ℕ) (x : X) → i < length xs → x ≡ get_or xs i x
    → take (i + 1) xs ≡ take i xs ++ x ∷ []
next-of xs i x lt is = take_more xs i x lt ∙ ap (λ y. take i xs ++ y ∷ []) (sym is)

pub next-at : {X : Type 0} (xs : List X) (i : ℕ) (x : X) → Some x ≡ slice_get xs i
    → take (i + 1) xs ≡ take i xs ++ x ∷ []
next-at xs i x at =
    next-of xs i x (slice_get_within xs i x (sym at)) (sym (get_or_from_slice_get xs i x x (sym at)))

pub nothing-at : {X : Type 0} (xs : List X) (i : ℕ) → None ≡ slice_get xs i → length xs ≤ i
nothing-at [] i none = omega arith
nothing-at (x ∷ xs) zero none = cc none
nothing-at (x ∷ xs) (suc i) none = let rest = nothing-at xs i none in omega (arith, rest)

-- the items of one element more, each with an item of its own
pub more-of : {X : Type 0} (item : X → Item) (old mid new : List ℕ) (xs ys : List X) (x : X)
    → ys ≡ xs ++ x ∷ [] → mid ≡ old ++ items_text (map item xs)
    → new ≡ mid ++ items_text (item x ∷ []) → new ≡ old ++ items_text (map item ys)
more-of item old mid new xs ys x grown before later =
    two old mid new (map item xs) (item x ∷ []) before later
    ∙ ap (λ is. old ++ items_text is) (sym (map-append item xs (x ∷ [])) ∙ ap (map item) (sym grown))

-- the items of one element more
pub more : {X : Type 0} (items : X → List Item) (old mid new : List ℕ) (xs ys : List X) (x : X)
    → ys ≡ xs ++ x ∷ [] → mid ≡ old ++ items_text (flat_map items xs)
    → new ≡ mid ++ items_text (items x) → new ≡ old ++ items_text (flat_map items ys)
more items old mid new xs ys x grown before later =
    two old mid new (flat_map items xs) (items x) before later
    ∙ ap (λ is. old ++ items_text is)
    (ap (λ last. flat_map items xs ++ last) (sym (append-nil (items x)))
    ∙ sym (flat_map-append items xs (x ∷ [])) ∙ ap (flat_map items) (sym grown))
