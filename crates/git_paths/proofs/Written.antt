-- The bytes of a path at a place, as a relation and as a function.
use Rattle.std.proofs.Common.{◌≡◌, ◌≢◌, ℕ, ◌+◌, ◌<◌, eqb, List, [], ◌∷◌, ◌++◌, length, take, drop, All, Option, Some, None, refl, sym, ap, ◌∙◌, subst, arith, length-append, add-one, drop-cons}
use Rattle.std.specs.Prelude.{position}
use Rattle.std.specs.List.{position_or_len}
use Rattle.std.specs.Option.{option_map}
use Rattle.std.proofs.lemmas.List.Elements.{All-from_get_or}
use Rattle.std.proofs.lemmas.Bool.{eqb-true, eqb-false, ne_eqb, lt-ltb}
use Rattle.std.proofs.lemmas.List.{take-append-drop, take_at, get_or-take, length-take}
use Rattle.std.proofs.lemmas.List.Sums.{position_or_len_is}
use Rattle.std.proofs.lemmas.List.Quantifiers.{position-Some}
use Rattle.std.proofs.Math.Seq.{get_or-append_seam, drop-append-add}
use Rattle.std.proofs.Math.ListN.{get_or-append}
use Rattle.git_paths.specs.declared.place.Place.{Place}
use Rattle.git_paths.specs.declared.place.Place.TheVariants.{Source, Last}
use Rattle.git_paths.specs.Quoting.{Quotes}
use Rattle.git_paths.specs.Written.{IsUnquoted, Writes, unquoted_source, quoted_source, unquoted_last, quoted_last}
use Rattle.git_paths.specs.Reading.{unquoted, after_quote, unquoted_at, with_rest, quoted_end, bytes_at}
use Rattle.git_paths.proofs.Cases.{by_cases, some_is, parts, parts_are}
use Rattle.git_paths.proofs.Quoted.{unquoted-Quotes, Read-from_unquoted}

-- ---- what is written is read

-- the first space stands after what has none
first_space : (bytes rest : List ℕ) → All (λ b. b ≢ 32) bytes
    → position (λ b. eqb b 32) (bytes ++ 32 ∷ rest) ≡ Some (length bytes)
first_space bytes rest none =
    let at : position_or_len (λ b. eqb b 32) (bytes ++ 32 ∷ rest) ≡ length bytes =
    position_or_len_is (λ b. eqb b 32) (bytes ++ 32 ∷ rest) (length bytes) 0
    (omega (arith, length-append bytes (32 ∷ rest)))
    (λ k lt. rw (get_or-append bytes (32 ∷ rest) 0 k lt) (ne_eqb _ 32 (none k 0 lt)))
    (λ lt. rw (get_or-append_seam bytes 32 rest 0) refl) in
    let within : length bytes < length (bytes ++ 32 ∷ rest) =
    omega (arith, length-append bytes (32 ∷ rest)) in
    rw (at, lt-ltb _ _ within) refl

unquoted_at-source : (bytes rest : List ℕ) → All (λ b. b ≢ 32) bytes
    → unquoted_at Source (bytes ++ 32 ∷ rest) ≡ Some (bytes, rest)
unquoted_at-source bytes rest none =
    rw (first_space bytes rest none, take_at bytes (32 ∷ rest) (length bytes) refl, drop-append-add bytes (32 ∷ rest) 1) refl

at_unquoted : (place : Place) (text : List ℕ) → IsUnquoted text
    → bytes_at place text ≡ unquoted_at place text
unfolding bytes_at
at_unquoted place [] h = refl
at_unquoted place (b ∷ text) h = rw (ne_eqb b 34 h) refl

at_quoted : (place : Place) (text : List ℕ)
    → bytes_at place (34 ∷ text) ≡ quoted_end place (unquoted text)
unfolding bytes_at
at_quoted place text = refl

pub bytes_at-Writes : {place : Place} {text bytes rest : List ℕ} → Writes place text bytes rest
    → bytes_at place text ≡ Some (bytes, rest)
bytes_at-Writes (unquoted_source bytes rest first none) =
    at_unquoted Source (bytes ++ 32 ∷ rest) first ∙ unquoted_at-source bytes rest none
bytes_at-Writes (quoted_source inside bytes rest q) =
    at_quoted Source (inside ++ 34 ∷ 32 ∷ rest)
    ∙ ap (quoted_end Source) (unquoted-Quotes (32 ∷ rest) q)
bytes_at-Writes (unquoted_last bytes first) = at_unquoted Last bytes first
bytes_at-Writes (quoted_last inside bytes q) =
    at_quoted Last (inside ++ 34 ∷ []) ∙ ap (quoted_end Last) (unquoted-Quotes [] q)

-- ---- what is read is written

-- text that is cut at a space is what stands before it, the space, and what stands after it
Source-from_cut : (text bytes rest : List ℕ) → IsUnquoted text → (at : Option ℕ)
    → position (λ b. eqb b 32) text ≡ at
    → option_map {U = List ℕ × List ℕ} (λ i. (take i text, drop (i + 1) text)) at
    ≡ Some (bytes, rest)
    → Writes Source text bytes rest
Source-from_cut text bytes rest first None is h = absurd cc
Source-from_cut text bytes rest first (Some at) is h =
    let both = parts_are (take at text) (drop (at + 1) text) bytes rest h in
    let p = position-Some (λ b. eqb b 32) text at 0 is in
    let whole : text ≡ bytes ++ 32 ∷ rest =
    sym (take-append-drop at text)
    ∙ ap (λ (t : List ℕ). take at text ++ t) (drop-cons text at 0 p.0)
    ∙ rw (both.0, ← both.1, add-one, eqb-true _ 32 p.1) refl in
    let none : All (λ b. b ≢ 32) (take at text) =
    All-from_get_or (λ b. b ≢ 32) (take at text) 0
    (λ k lt. let below : k < at = omega (arith, length-take at text) in rw (get_or-take at text k 0 below) (eqb-false _ 32 (p.2 k below))) in
    subst (λ (t : List ℕ). Writes Source t bytes rest) (sym whole)
    (unquoted_source bytes rest (subst IsUnquoted whole first) (subst (All (λ b. b ≢ 32)) both.0 none))

after_source : (remaining rest : List ℕ) → after_quote Source remaining ≡ Some rest → remaining ≡ 32 ∷ rest
after_source [] rest h = absurd cc
after_source (b ∷ remaining) rest h =
    by_cases (eqb b 32)
    (λ yea. let same = some_is remaining rest (rw yea at h) in rw (eqb-true b 32 yea, same) refl)
    (λ nay. absurd (let none : None ≡ Some rest = rw nay at h in cc))

after_last : (remaining rest : List ℕ) → after_quote Last remaining ≡ Some rest
    → (remaining ≡ []) × (rest ≡ [])
after_last [] rest h = (refl, sym (some_is [] rest h))
after_last (b ∷ remaining) rest h = absurd cc

ended_parts : (place : Place) (read remaining bytes rest : List ℕ) (end : Option (List ℕ))
    → after_quote place remaining ≡ end → with_rest read end ≡ parts bytes rest
    → (left : List ℕ) × (parts read remaining ≡ parts bytes left) × (after_quote place left ≡ Some rest)
ended_parts place read remaining bytes rest None is h = absurd cc
ended_parts place read remaining bytes rest (Some r) is h =
    let both = parts_are read r bytes rest h in
    (remaining, ap (λ (bs : List ℕ). parts bs remaining) both.0, is ∙ ap (λ (r : List ℕ). Some r) both.1)

-- a quoted path, from what stands after its first quote
quoted_parts : (place : Place) (o : Option (List ℕ × List ℕ)) (bytes rest : List ℕ)
    → quoted_end place o ≡ Some (bytes, rest)
    → (remaining : List ℕ) × (o ≡ Some (bytes, remaining)) × (after_quote place remaining ≡ Some rest)
quoted_parts place None bytes rest h = absurd cc
quoted_parts place (Some (read, remaining)) bytes rest h =
    ended_parts place read remaining bytes rest (after_quote place remaining) refl h

written_source : (text inside remaining bytes rest : List ℕ) → text ≡ inside ++ 34 ∷ remaining
    → Quotes inside bytes → remaining ≡ 32 ∷ rest → Writes Source (34 ∷ text) bytes rest
written_source text inside remaining bytes rest is q end =
    rw (is, end) (quoted_source inside bytes rest q)

written_last : (text inside remaining bytes rest : List ℕ) → text ≡ inside ++ 34 ∷ remaining
    → Quotes inside bytes → (remaining ≡ []) × (rest ≡ []) → Writes Last (34 ∷ text) bytes rest
written_last text inside remaining bytes rest is q end =
    rw (is, end.0, end.1) (quoted_last inside bytes q)

from_quoted : (place : Place) (text bytes rest : List ℕ)
    → quoted_end place (unquoted text) ≡ Some (bytes, rest) → Writes place (34 ∷ text) bytes rest
from_quoted Source text bytes rest h =
    let q = quoted_parts Source (unquoted text) bytes rest h in
    let r = Read-from_unquoted text bytes q.0 q.1 in
    written_source text r.0 q.0 bytes rest r.1 r.2 (after_source q.0 rest q.2)
from_quoted Last text bytes rest h =
    let q = quoted_parts Last (unquoted text) bytes rest h in
    let r = Read-from_unquoted text bytes q.0 q.1 in
    written_last text r.0 q.0 bytes rest r.1 r.2 (after_last q.0 rest q.2)

from_unquoted : (place : Place) (text bytes rest : List ℕ) → IsUnquoted text
    → unquoted_at place text ≡ Some (bytes, rest) → Writes place text bytes rest
from_unquoted Source text bytes rest first h =
    Source-from_cut text bytes rest first (position (λ b. eqb b 32) text) refl h
from_unquoted Last text bytes rest first h =
    let both = parts_are text [] bytes rest h in
    rw (← both.0, ← both.1) (unquoted_last text first)

pub Writes-from_bytes_at : (place : Place) (text bytes rest : List ℕ)
    → bytes_at place text ≡ Some (bytes, rest) → Writes place text bytes rest
unfolding bytes_at
Writes-from_bytes_at place [] bytes rest h = from_unquoted place [] bytes rest tt h
Writes-from_bytes_at place (b ∷ text) bytes rest h =
    by_cases (eqb b 34)
    (λ yea. rw (eqb-true b 34 yea) (from_quoted place text bytes rest (rw yea at h)))
    (λ nay. from_unquoted place (b ∷ text) bytes rest (eqb-false b 34 nay) (rw nay at h))
