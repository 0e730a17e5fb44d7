-- Summaries of trees, kept through each change.
use Rattle.std.proofs.Common.{◌≡◌, ◌≢◌, ℕ, zero, suc, ◌<◌, inl, inr, Bool, true, false, cond, nat_lt, List, [], ◌∷◌, ◌++◌, length, take, map, Option, None, Some, slice_get, refl, sym, ap, subst, ◌∙◌, arith}
use Rattle.std.specs.Prelude.{IsSome, IsSomeAnd, get_or}
use Rattle.std.specs.List.{position_or_len}
use Rattle.std.specs.Map.{keys_of, lookup}
use Rattle.std.specs.Option.{option_and_then}
use Rattle.std.specs.Str.{bytes_eq}
use Rattle.tenant_tables.proofs.EntryLemmas.{lookup-take}
use Rattle.std.proofs.lemmas.Bool.{cases_eq, cases_lt}
use Rattle.std.proofs.lemmas.List.{take-append-le, length-append}
use Rattle.std.proofs.lemmas.Option.{slice_get_within, slice_get_past}
use Rattle.std.proofs.Math.Seq.{take-append_seam}
use Rattle.git_model.specs.Content.{Content}
use Rattle.git_model.specs.TreeReading.{tree_read}
use Rattle.content_pool.specs.Pool.{Cells, content}
use Rattle.tenant_tables.specs.declared.entry.Entry.{Entry}
use Rattle.tenant_tables.specs.declared.summary.Summary.{Summary}
use Rattle.tenant_tables.specs.View.{Entries, entry_named, summary_of}
use Rattle.tenant_tables.specs.Summed.{IsSummed, SummedAfter}
use Rattle.tenant_tables.proofs.HoldLemmas.{Keeps, held-at}
use Rattle.tenant_tables.proofs.PlainSums.{content_sum-agrees}

-- what stands among the first stands there whatever comes after
pub slice_get-append : {X : Type 0} (xs ys : List X) (i : ℕ) → i < length xs
    → slice_get (xs ++ ys) i ≡ slice_get xs i
slice_get-append [] ys i h = absurd (omega arith)
slice_get-append (x ∷ xs) ys zero h = refl
slice_get-append (x ∷ xs) ys (suc i) h = slice_get-append xs ys i (omega arith)

-- what comes after stands at the length
pub slice_get-pushed : {X : Type 0} (xs : List X) (x : X)
    → slice_get (xs ++ x ∷ []) (length xs) ≡ Some x
slice_get-pushed [] x = refl
slice_get-pushed (y ∷ xs) x = slice_get-pushed xs x

-- no entries, no summaries
pub IsSummed-nil : (p : Cells) → IsSummed p []
unfolding IsSummed
IsSummed-nil p i id e h = cc h

-- the same slots with the same contents
pub IsSummed-kept : (p q : Cells) (es : Entries) → Keeps p q es → IsSummed p es → IsSummed q es
unfolding IsSummed
IsSummed-kept p q es k h i id e at =
    subst (λ (c : Content). SummedAfter (take i es) c e.summary)
    (sym (k.contents e.slot (held-at es i id e at))) (h i id e at)

-- a prefix
pub IsSummed-prefix : (p : Cells) (es fs : Entries) → IsSummed p (es ++ fs) → IsSummed p es
unfolding IsSummed
IsSummed-prefix p es fs h i id e at =
    let within : i < length es = slice_get_within es i (id, e) at in
    subst (λ (front : Entries). SummedAfter front (content p e.slot) e.summary)
    (take-append-le i es fs (omega arith))
    (h i id e (slice_get-append es fs i within ∙ at))

-- one entry more
pub IsSummed-push : (p : Cells) (es : Entries) (id : List ℕ) (e : Entry) → IsSummed p es
    → SummedAfter es (content p e.slot) e.summary
    → IsSummed p (es ++ (id, e) ∷ [])
unfolding IsSummed
IsSummed-push p es id e h new i jd f at =
    elim (cases_lt i (length es)) [
      | inl below ↦
          subst (λ (front : Entries). SummedAfter front (content p f.slot) f.summary)
          (sym (take-append-le i es ((id, e) ∷ []) (omega arith)))
          (h i jd f (sym (slice_get-append es ((id, e) ∷ []) i below) ∙ at))
      | inr past ↦
          elim (cases_eq i (length es)) [
            | inl last ↦
                let same : (id, e) ≡ (jd, f) =
                cc
                (sym (slice_get-pushed es (id, e)) ∙ ap (slice_get (es ++ (id, e) ∷ [])) (sym last) ∙ at) in
                subst (λ (front : Entries). SummedAfter front (content p f.slot) f.summary)
                (sym (ap (λ (n : ℕ). take n (es ++ (id, e) ∷ [])) last ∙ take-append_seam es ((id, e) ∷ [])))
                (subst (λ (y : List ℕ × Entry). SummedAfter es (content p y.1.slot) y.1.summary) same new)
            | inr after ↦
                let len = length-append es ((id, e) ∷ []) in
                let none = slice_get_past (es ++ (id, e) ∷ []) i (omega (arith, len)) in
                let no : None ≡ Some (jd, f) = sym none ∙ at in
                cc no
          ]
    ]

-- ---- one tree, one summary

-- an entry of a prefix is that of the whole
pub entry_named-take : (n : ℕ) (es : Entries) (id : List ℕ) → IsSome (entry_named id (take n es))
    → entry_named id (take n es) ≡ entry_named id es
unfolding entry_named
entry_named-take n es id some =
    by (nat_lt (position_or_len (bytes_eq id) (keys_of es)) n) (lookup-take (bytes_eq id) n es)
  where
    by : (b : Bool) → lookup (bytes_eq id) (take n es) ≡ cond b (lookup (bytes_eq id) es) None
        → lookup (bytes_eq id) (take n es) ≡ lookup (bytes_eq id) es
    by true e = e
    by false e = let none : false ≡ true = rw e at some in cc none

-- the summaries that a prefix has are those of the whole
pub summary_of-take : (n : ℕ) (es : Entries) (id : List ℕ) → IsSome (summary_of id (take n es))
    → summary_of id (take n es) ≡ summary_of id es
unfolding entry_named
summary_of-take n es id some =
    by (nat_lt (position_or_len (bytes_eq id) (keys_of es)) n) (lookup-take (bytes_eq id) n es)
  where
    by : (b : Bool) → lookup (bytes_eq id) (take n es) ≡ cond b (lookup (bytes_eq id) es) None
        → summary_of id (take n es) ≡ summary_of id es
    by true e = ap (option_and_then (λ (x : Entry). x.summary)) e
    by false e = let none : false ≡ true = rw e at some in cc none

-- what is there, and more
pub some_of : {A : Type 0} (o : Option A) (P : A → Type 0) → IsSomeAnd o P → IsSome o
some_of None P h = absurd h
some_of (Some x) P h = refl

-- a content that is added again has the summary that it had
pub SummedAfter-same : (n : ℕ) (es : Entries) (c : Content) (s t : Option Summary)
    → SummedAfter (take n es) c s → SummedAfter es c t → s ≡ t
SummedAfter-same n es c s t f g =
    f.sum
    ∙ content_sum-agrees (λ id. summary_of id (take n es)) (λ id. summary_of id es) c
    (λ tree k d within is.
    ap (option_and_then (λ (x : Entry). x.summary))
    (entry_named-take n es (get_or (tree_read c.bytes) k d).id (f.directories tree k d within is)))
    ∙ sym g.sum
