-- A list as a pool: every slot stores something.
use Rattle.std.proofs.Common.{◌≡◌, ℕ, ◌+◌, ◌<◌, List, [], ◌∷◌, ◌++◌, length, map, get_or, set, Option, Some, None, is_some, count_by, refl, sym, ap, ◌∙◌, arith, inl, inr}
use Rattle.std.specs.Prelude.{MatchOption}
use Rattle.std.specs.List.{filter_map}
use Rattle.std.proofs.lemmas.Bool.{cases_eq, cases_lt}
use Rattle.std.proofs.lemmas.Option.{same_Some, none-some}
use Rattle.std.proofs.lemmas.List.{get_or-map, map-set, map-append, get_or_past, get_or_append_left, get_or-append-add, length-append}
use Rattle.git_model.specs.Content.{Content}
use Rattle.content_pool.specs.Pool.{Cells, cell, content_of, IsLive, IsAbsent, content}
use Rattle.content_pool.specs.Index.{Stores, IsPool}
use Rattle.content_pool.proofs.PoolLemmas.{Writes, Writes-set, stored_at, content-at, Stores-live}
use Rattle.content_pool.proofs.StoredLemmas.{length-contents}
use Rattle.content_pool.specs.declared.stored.Stored.{Stored}

-- The list as slots.
abbrev pub slots_of : List Stored → Cells
slots_of xs = map Some xs

length-slots_of : (xs : List Stored) → length (slots_of xs) ≡ length xs
length-slots_of [] = refl
length-slots_of (x ∷ xs) = omega (arith, length-slots_of xs)

length-contents_of : (xs : List Stored) → length (map content_of xs) ≡ length xs
length-contents_of [] = refl
length-contents_of (x ∷ xs) = omega (arith, length-contents_of xs)

-- What lies at a place of the list is stored in the slot.
pub cell-slots_of : (xs : List Stored) (k : ℕ) (e : Stored) → k < length xs → get_or xs k e ≡ e
    → cell (slots_of xs) k ≡ Some e
cell-slots_of xs k e within is = get_or-map Some xs k e None within ∙ ap Some is

-- A slot that stores something is a place of the list.
pub slots_of-within : (xs : List Stored) (k : ℕ) (e : Stored) → cell (slots_of xs) k ≡ Some e
    → k < length xs
slots_of-within xs k e is =
    elim (cases_lt k (length xs)) [
      | inl within ↦ within
      | inr past ↦ absurd (none-some e (sym (get_or_past (slots_of xs) k None (omega (arith, length-slots_of xs))) ∙ is))
    ]

-- The slot after the list stores nothing.
pub slots_of-vacant : (xs : List Stored) → cell (slots_of xs) (length xs) ≡ None
slots_of-vacant xs = get_or_past (slots_of xs) (length xs) None (omega (arith, length-slots_of xs))

-- A write of one place.
pub Writes-slots_set : (xs : List Stored) (k : ℕ) (e f : Stored) → cell (slots_of xs) k ≡ Some e
    → Writes (slots_of xs) (slots_of (set xs k f)) k (Some f)
Writes-slots_set xs k e f was = rw map-set (Writes-set (slots_of xs) k e (Some f) was)

-- A push.
pub Writes-slots_push : (xs : List Stored) (e : Stored)
    → Writes (slots_of xs) (slots_of (xs ++ e ∷ [])) (length xs) (Some e)
Writes-slots_push xs e =
    record {
      here =
          rw map-append (ap (λ k. get_or (slots_of xs ++ Some e ∷ []) k None) (at_end ∙ sym add-zero') ∙ get_or-append-add (slots_of xs) (Some e ∷ []) 0 None);
      others = λ s apart. rw map-append
          (elim (cases_lt s (length (slots_of xs))) [
            | inl within ↦ get_or_append_left (slots_of xs) (Some e ∷ []) None s within
            | inr past ↦
                get_or_past (slots_of xs ++ Some e ∷ []) s None
                (omega (arith, apart, at_end, length-append (slots_of xs) (Some e ∷ [])))
                ∙ sym (get_or_past (slots_of xs) s None past)
          ]);
    }
  where
    at_end : length xs ≡ length (slots_of xs)
    at_end = sym (length-slots_of xs)

    add-zero' : length (slots_of xs) + 0 ≡ length (slots_of xs)
    add-zero' = omega arith

-- All that the slots store is the list.
pub filter_map-slots_of : (xs : List Stored) → filter_map (λ o. o) (slots_of xs) ≡ xs
filter_map-slots_of [] = refl
filter_map-slots_of (x ∷ xs) = ap (λ ys. x ∷ ys) (filter_map-slots_of xs)

pub count_by-slots_of : (xs : List Stored) → count_by is_some (slots_of xs) ≡ length xs
count_by-slots_of xs =
    sym (length-contents (slots_of xs))
    ∙ ap (λ ys. length (map content_of ys)) (filter_map-slots_of xs) ∙ length-contents_of xs

-- One more place without the content.
pub Stores-not_yet : (xs : List Stored) (c : Content) (i : ℕ) (e : Stored)
    → ((s : ℕ) → s < i → Stores (slots_of xs) s c → ⊥) → cell (slots_of xs) i ≡ Some e
    → (content_of e ≡ c → ⊥) → (s : ℕ) → s < i + 1 → Stores (slots_of xs) s c → ⊥
Stores-not_yet xs c i e before here differs s within stores =
    elim (cases_eq s i) [
      | inl same ↦ differs (ap content_of (same_Some _ _ (sym here ∙ ap (cell (slots_of xs)) (sym same) ∙ stores.there)) ∙ stores.same)
      | inr apart ↦ before s (omega arith) stores
    ]

-- A content that is stored nowhere is not held.
pub held_nowhere-from_Stores : (p : Cells) (c : Content) → ((s : ℕ) → Stores p s c → ⊥) → (s : ℕ)
    → IsLive p s → content p s ≡ c → ⊥
held_nowhere-from_Stores p c nowhere s live same =
    let e = stored_at p s live in
    nowhere s (record { stored = e.0; there = e.1; same = sym (content-at p s e.0 e.1) ∙ same })

-- What a search through all of them answers.
pub found_at : (digest : List ℕ → List ℕ) (p : Cells) (c : Content) → IsPool digest p
    → (o : Option ℕ)
    → MatchOption o ((s : ℕ) → Stores p s c → ⊥) (λ s. Stores p s c)
    → MatchOption o (IsAbsent p c) (λ s. IsLive p s × (content p s ≡ c))
found_at digest p c pool None h = held_nowhere-from_Stores p c h
found_at digest p c pool (Some s) h = Stores-live digest p s c pool h
