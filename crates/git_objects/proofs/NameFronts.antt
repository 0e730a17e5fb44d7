-- An entry's name and the NUL after it at the front of a text.
use Rattle.std.proofs.Common.{◌≡◌, ◌≢◌, ℕ, ◌+◌, ◌<◌, inl, inr, List, [], ◌∷◌, ◌++◌, length, take, drop, get_or, refl, sym, ap, subst, ◌∙◌, All, Option, Some, None, false, position, arith, ◌==◌, length-append}
use Rattle.std.specs.List.{position_or_len}
use Rattle.std.proofs.lemmas.Bool.{ne_eqb, lt-ltb}
use Rattle.std.proofs.lemmas.List.{take-append-drop, drop_more, get_or-take, append_assoc, length-take, take_at, drop_at, length_push, get_or_push, get_or_append_left}
use Rattle.std.proofs.lemmas.List.Elements.{All-from_get_or, All-head, All-tail}
use Rattle.std.proofs.lemmas.List.Quantifiers.{position-Some}
use Rattle.git_model.specs.Tree.{IsEntryName}
use Rattle.git_objects.specs.Fronts.{IsFront}
use Rattle.git_objects.specs.TreeParts.{name_text, ends_name, IsReserved}
use Rattle.git_objects.proofs.Fronts.{no_front}

ends_after : (name rest : List ℕ) → All (λ byte. byte ≢ 0) name → All (λ byte. byte ≢ 47) name
    → position_or_len ends_name (name_text name ++ rest) ≡ length name
ends_after [] rest no_nul no_slash = refl
ends_after (b ∷ bs) rest no_nul no_slash =
    let nul : (b == 0) ≡ false = ne_eqb b 0 (All-head (λ byte. byte ≢ 0) b bs no_nul) in
    let slash : (b == 47) ≡ false = ne_eqb b 47 (All-head (λ byte. byte ≢ 47) b bs no_slash) in
    let more =
    ends_after bs rest (All-tail (λ byte. byte ≢ 0) b bs no_nul) (All-tail (λ byte. byte ≢ 47) b bs no_slash) in
    rw (nul, slash, more) (omega arith)

-- where a name stands at the front, it ends at the first NUL or slash
name_ends : (bytes name rest : List ℕ) → IsEntryName name → bytes ≡ name_text name ++ rest
    → position ends_name bytes ≡ Some (length name)
name_ends bytes name rest is e =
    let within =
    lt-ltb (length name) (length (name_text name ++ rest))
    (omega (arith, length-append (name_text name) rest, length_push name 0)) in
    rw e (rw (ends_after name rest is.no_nul is.no_slash, within) refl)

nul_there : (bytes name rest : List ℕ) → bytes ≡ name_text name ++ rest
    → get_or bytes (length name) 0 ≡ 0
nul_there bytes name rest e =
    ap (λ l. get_or l (length name) 0) e
    ∙ get_or_append_left (name_text name) rest 0 (length name) (omega (arith, length_push name 0))
    ∙ get_or_push name 0 0 (length name) refl

name_there : (bytes name rest : List ℕ) (i : ℕ) → i ≡ length name
    → bytes ≡ name_text name ++ rest → take i bytes ≡ name
name_there bytes name rest i same e =
    ap (take i) (e ∙ append_assoc name (0 ∷ []) rest) ∙ take_at name ((0 ∷ []) ++ rest) i (sym same)

at_end : (bytes name rest : List ℕ) (i : ℕ) → Some i ≡ position ends_name bytes
    → IsEntryName name → bytes ≡ name_text name ++ rest → i ≡ length name
at_end bytes name rest i at is e =
    let there : ◌≡◌ {A = Option ℕ} (Some i) (Some (length name)) =
    at ∙ name_ends bytes name rest is e in
    cc

pub no_end : (bytes : List ℕ) → None ≡ position ends_name bytes
    → IsFront IsEntryName name_text bytes None
no_end bytes at =
    no_front bytes
    (λ name rest is e. let there : ◌≡◌ {A = Option ℕ} None (Some (length name)) = at ∙ name_ends bytes name rest is e in cc)

pub slash_first : (bytes : List ℕ) (i : ℕ) → Some i ≡ position ends_name bytes
    → get_or bytes i 0 ≢ 0 → IsFront IsEntryName name_text bytes None
slash_first bytes i at slash =
    no_front bytes
    (λ name rest is e. slash (ap (λ k. get_or bytes k 0) (at_end bytes name rest i at is e) ∙ nul_there bytes name rest e))

not_reserved : (name : List ℕ) → IsReserved name → IsEntryName name → ⊥
not_reserved name (inl e) is = is.not_empty e
not_reserved name (inr (inl e)) is = is.not_dot e
not_reserved name (inr (inr e)) is = is.not_dot_dot e

pub bad_name : (bytes : List ℕ) (i : ℕ) → Some i ≡ position ends_name bytes
    → IsReserved (take i bytes) → IsFront IsEntryName name_text bytes None
bad_name bytes i at reserved =
    no_front bytes
    (λ name rest is e. not_reserved (take i bytes) reserved (subst IsEntryName (sym (name_there bytes name rest i (at_end bytes name rest i at is e) e)) is))

plain_byte : (byte : ℕ) → ends_name byte ≡ false → (byte ≢ 0) × (byte ≢ 47)
plain_byte byte h = grind arith

before_end : (bytes : List ℕ) (i : ℕ) → Some i ≡ position ends_name bytes → (k : ℕ)
    → k < length (take i bytes)
    → (get_or (take i bytes) k 0 ≢ 0) × (get_or (take i bytes) k 0 ≢ 47)
before_end bytes i at k lt =
    let found = position-Some ends_name bytes i 0 (sym at) in
    let below : k < i = omega (arith, length-take i bytes, lt) in
    rw (get_or-take i bytes k 0 below) (plain_byte (get_or bytes k 0) (found.2 k below))

pub good_name : (bytes : List ℕ) (i : ℕ) → Some i ≡ position ends_name bytes
    → get_or bytes i 0 ≡ 0 → (IsReserved (take i bytes) → ⊥) → IsFront IsEntryName name_text bytes (Some (take i bytes, drop (i + 1) bytes))
good_name bytes i at nul free = record {
  found = (
    record {
      not_empty = λ e. free (inl e);
      no_nul = All-from_get_or (λ byte. byte ≢ 0) (take i bytes) 0 (λ k lt. (before_end bytes i at k lt).0);
      no_slash = All-from_get_or (λ byte. byte ≢ 47) (take i bytes) 0 (λ k lt. (before_end bytes i at k lt).1);
      not_dot = λ e. free (inr (inl e));
      not_dot_dot = λ e. free (inr (inr e));
    },
    sym (take-append-drop i bytes)
        ∙ ap (λ rest. take i bytes ++ rest) (drop_more bytes i 0 (position-Some ends_name bytes i 0 (sym at)).0 ∙ ap (λ b. b ∷ drop (i + 1) bytes) nul)
        ∙ sym (append_assoc (take i bytes) (0 ∷ []) (drop (i + 1) bytes)),
  );
  only = λ name rest is e.
      let same = at_end bytes name rest i at is e in
      let long : length (name_text name) ≡ i + 1 = omega (arith, length_push name 0, same) in
      let remaining : drop (i + 1) bytes ≡ rest =
      ap (drop (i + 1)) e ∙ drop_at (name_text name) rest (i + 1) long in
      rw (name_there bytes name rest i same e, remaining) refl;
}
