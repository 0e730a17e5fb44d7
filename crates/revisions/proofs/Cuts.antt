-- Where a text is cut.
use Rattle.std.proofs.Common.{◌≡◌, ℕ, suc, ◌<◌, Bool, true, false, not, cond, nat_lt, List, [], ◌∷◌, ◌++◌, length, take, drop, Some, None, position, refl, ap, subst, ◌∙◌, append-nil, arith}
use Rattle.std.specs.List.{list_any, position_or_len, flat_map, AllByRecursion}
use Rattle.std.proofs.lemmas.Bool.Decides.{nat_tests}
use Rattle.std.proofs.Math.Seq.{take-append_seam, drop-append_seam}
use Rattle.std.proofs.lemmas.List.{length-append}
use Rattle.std.proofs.lemmas.List.Sums.{prefix_len-le-length}
use Rattle.revisions.specs.ExpressionReading.{is_mark, IsPiece, with_byte, cut, Cut}

-- ---- the first place that passes a test

-- A list is empty or begins with an element that passes.
abbrev pub Begins : {X : Type 0} → (X → Bool) → List X → Type 0
Begins p [] = Unit {0}
Begins p (x ∷ xs) = p x ≡ true

-- What is known of a list at its first element that passes, or at its end.
pub record Splits {X : Type 0} (p : X → Bool) (xs : List X) (i : ℕ) : Type 0 where
  pub any : i < length xs → list_any p xs ≡ true
  pub before : list_any p (take i xs) ≡ false
  pub at : Begins p (drop i xs)
  pub none : i ≡ length xs → list_any p xs ≡ false

pub splits : {X : Type 0} (p : X → Bool) (xs : List X) → Splits p xs (position_or_len p xs)
splits p [] = record { any = λ lt. absurd (omega arith); before = refl; at = tt; none = λ _. refl }
splits {X} p (x ∷ xs) = by (splits p xs) (p x) refl
  where
    by : Splits p xs (position_or_len p xs) → (b : Bool) → p x ≡ b
        → Splits p (x ∷ xs) (position_or_len p (x ∷ xs))
    by rest true e = rw e (record {
      any = λ _. rw e refl;
      before = refl;
      at = e;
      none = λ no. absurd (omega arith);
    })
    by rest false e =
        let next : suc (position_or_len p xs) ≡ position_or_len p (x ∷ xs) = rw e (omega arith) in
        let here : Splits p (x ∷ xs) (suc (position_or_len p xs)) = record {
          any = λ lt. rw e (rest.any (omega arith));
          before = rw e rest.before;
          at = rest.at;
          none = λ same. rw e (rest.none (omega arith));
        } in subst (Splits p (x ∷ xs)) next here

pub record IsFirst {X : Type 0} (p : X → Bool) (xs : List X) (i : ℕ) : Type 0 where
  pub place : position_or_len p xs ≡ i
  pub within : i < length xs
  pub splits : Splits p xs i

pub first_passes : {X : Type 0} (p : X → Bool) (xs : List X) (i : ℕ) → Some i ≡ position p xs
    → IsFirst p xs i
first_passes {X} p xs i h = by (nat_lt (position_or_len p xs) (length xs)) refl h
  where
    by : (b : Bool) → nat_lt (position_or_len p xs) (length xs) ≡ b
        → Some i ≡ cond b (Some (position_or_len p xs)) None → IsFirst p xs i
    by true e f = let same : position_or_len p xs ≡ i = cc in record {
      place = same;
      within = grind (arith, nat_tests);
      splits = subst (Splits p xs) same (splits p xs);
    }
    by false e f = cc

pub none_passes : {X : Type 0} (p : X → Bool) (xs : List X) → None ≡ position p xs
    → list_any p xs ≡ false
none_passes {X} p xs h = by (nat_lt (position_or_len p xs) (length xs)) refl h
  where
    by : (b : Bool) → nat_lt (position_or_len p xs) (length xs) ≡ b
        → None ≡ cond b (Some (position_or_len p xs)) None → list_any p xs ≡ false
    by true e f = cc
    by false e f = (splits p xs).none
        (let most = prefix_len-le-length (λ x. not (p x)) xs in grind (arith, nat_tests, most))

-- ---- cuts

pub cut-mark : (byte : ℕ) (later : Cut) → is_mark byte ≡ true
    → with_byte byte later ≡ record { front = []; pieces = (byte ∷ later.front) ∷ later.pieces }
unfolding with_byte
cut-mark byte later e = rw e refl

pub cut-byte : (byte : ℕ) (later : Cut) → is_mark byte ≡ false
    → with_byte byte later ≡ record { front = byte ∷ later.front; pieces = later.pieces }
unfolding with_byte
cut-byte byte later e = rw e refl

-- Bytes that are no marks stand before what is cut later.
pub cut-plain : (plain rest : List ℕ) → list_any is_mark plain ≡ false
    → cut (plain ++ rest)
    ≡ record { front = plain ++ (cut rest).front; pieces = (cut rest).pieces }
cut-plain [] rest none = refl
cut-plain (byte ∷ plain) rest none = by (cut-plain plain rest) (is_mark byte) refl none
  where
    by : (list_any is_mark plain ≡ false → cut (plain ++ rest)
        ≡ record { front = plain ++ (cut rest).front; pieces = (cut rest).pieces })
        → (b : Bool) → is_mark byte ≡ b → list_any is_mark (byte ∷ plain) ≡ false
        → cut (byte ∷ plain ++ rest)
        ≡ record { front = byte ∷ plain ++ (cut rest).front; pieces = (cut rest).pieces }
    by later true e n = let no = rw e at n in cc
    by later false e n =
        let more : list_any is_mark plain ≡ false = rw e at n in
        cut-byte byte (cut (plain ++ rest)) e
        ∙ ap (λ (c : Cut). record { front = byte ∷ c.front; pieces = c.pieces })
        (later more)

-- A text that begins with a mark has nothing before its first piece, and one that has nothing there
-- begins so.
pub cut-begins : (text : List ℕ) → Begins is_mark text → (cut text).front ≡ []
cut-begins [] h = refl
cut-begins (byte ∷ text) h = ap (λ (c : Cut). c.front) (cut-mark byte (cut text) h)

pub begins-cut : (byte : ℕ) (text : List ℕ) → (cut (byte ∷ text)).front ≡ [] → is_mark byte ≡ true
begins-cut byte text h = by (is_mark byte) refl
  where
    by : (b : Bool) → is_mark byte ≡ b → is_mark byte ≡ true
    by true e = e
    by false e = let no = ap (λ (c : Cut). c.front) (cut-byte byte (cut text) e) in cc

-- The first piece of such a text goes up to the next mark.
pub cut-piece : (byte : ℕ) (plain rest : List ℕ) → is_mark byte ≡ true
    → list_any is_mark plain ≡ false → (cut rest).front ≡ []
    → (cut (byte ∷ plain ++ rest)).pieces ≡ (byte ∷ plain) ∷ (cut rest).pieces
cut-piece byte plain rest mark none begins =
    ap (λ (c : Cut). c.pieces) (cut-mark byte (cut (plain ++ rest)) mark)
    ∙ ap (λ (c : Cut). (byte ∷ c.front) ∷ c.pieces) (cut-plain plain rest none)
    ∙ ap (λ (f : List ℕ). (byte ∷ f) ∷ (cut rest).pieces)
    (ap (λ (f : List ℕ). plain ++ f) begins ∙ append-nil plain)

-- What is parted after the first piece of a text is that piece and the rest.
pub record TakesPiece (text front back : List ℕ) : Type 0 where
  pub pieces : (cut text).pieces ≡ front ∷ (cut back).pieces
  pub begins : (cut back).front ≡ []
  pub less : length back < length text

pub takes_piece : (byte : ℕ) (plain rest text : List ℕ) (n : ℕ) → n ≡ length (byte ∷ plain)
    → text ≡ byte ∷ plain ++ rest
    → (cut text).front ≡ [] → list_any is_mark plain ≡ false → (cut rest).front ≡ []
    → TakesPiece text (take n text) (drop n text)
takes_piece byte plain rest text n size is begins none after =
    rw (size, is, take-append_seam (byte ∷ plain) rest, drop-append_seam (byte ∷ plain) rest)
    (record {
      pieces = cut-piece byte plain rest
          (begins-cut byte (plain ++ rest) (subst (λ (t : List ℕ). (cut t).front
          ≡ []) is begins)) none after;
      begins = after;
      less = omega (arith, length-append (byte ∷ plain) rest);
    })

-- ---- the parts spell the text, and no others do

pub spells : (text : List ℕ) → (cut text).front ++ flat_map (λ p. p) (cut text).pieces ≡ text
spells [] = refl
spells (byte ∷ text) = by (spells text) (is_mark byte) refl
  where
    by : (cut text).front ++ flat_map (λ p. p) (cut text).pieces ≡ text → (b : Bool) → is_mark byte
        ≡ b
        → (cut (byte ∷ text)).front ++ flat_map (λ p. p) (cut (byte ∷ text)).pieces ≡ byte ∷ text
    by rest true e =
        ap (λ (c : Cut). c.front ++ flat_map (λ p. p) c.pieces) (cut-mark byte (cut text) e)
        ∙ ap (λ (t : List ℕ). byte ∷ t) rest
    by rest false e =
        ap (λ (c : Cut). c.front ++ flat_map (λ p. p) c.pieces) (cut-byte byte (cut text) e)
        ∙ ap (λ (t : List ℕ). byte ∷ t) rest

marked : (pieces : List (List ℕ)) → AllByRecursion IsPiece pieces
    → cut (flat_map (λ p. p) pieces) ≡ record { front = []; pieces = pieces }
marked [] all = refl
marked ([] ∷ pieces) all = absurd all.0
marked ((byte ∷ bytes) ∷ pieces) all =
    let rest = cut-plain bytes (flat_map (λ p. p) pieces) all.0.1 in
    cut-mark byte (cut (bytes ++ flat_map (λ p. p) pieces)) all.0.0
    ∙ ap (λ (c : Cut). record { front = []; pieces = (byte ∷ c.front) ∷ c.pieces }) rest
    ∙ ap (λ (c : Cut). record { front = []; pieces = (byte ∷ bytes ++ c.front) ∷ c.pieces })
    (marked pieces all.1)
    ∙ ap (λ (f : List ℕ). record { front = []; pieces = (byte ∷ f) ∷ pieces }) (append-nil bytes)

pub no_other : (front : List ℕ) (pieces : List (List ℕ)) → list_any is_mark front ≡ false
    → AllByRecursion IsPiece pieces
    → cut (front ++ flat_map (λ p. p) pieces) ≡ record { front = front; pieces = pieces }
no_other front pieces none all =
    cut-plain front (flat_map (λ p. p) pieces) none
    ∙ ap (λ (c : Cut). record { front = front ++ c.front; pieces = c.pieces }) (marked pieces all)
    ∙ ap (λ (f : List ℕ). record { front = f; pieces = pieces }) (append-nil front)
