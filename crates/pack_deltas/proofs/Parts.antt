-- The parts that instructions make, one after another.
use Rattle.std.proofs.Common.{◌≡◌, ◌≢◌, ◌+◌, ◌*◌, ◌<◌, ◌≤◌, ℕ, zero, suc, Bool, true, false, cond, nat_lt, List, [], ◌∷◌, ◌++◌, length, take, drop, Option, None, Some, IfSome, refl, sym, ap, ◌∙◌, subst, arith}
use Rattle.std.specs.Prelude.{◌==◌, ◌||◌}
use Rattle.std.specs.Option.{option_map, option_and_then}
use Rattle.std.proofs.lemmas.Bool.{eqb-true, eqb-false}
use Rattle.std.proofs.lemmas.List.{append_assoc, append-nil, length-append}
use Rattle.pack_deltas.specs.Patching.{IsMadeOrNot}
use Rattle.pack_deltas.specs.Delta.{Taken, byte_if, copied, copy_size_in, inserted, is_told, made_by, offset_in, or_65536, part_in, part_of, parts_in, two_bytes}

-- ---- what is taken from a text leaves no more than there was

abbrev IsShort : {A : Type 0} → ℕ → Taken A → Type 0
IsShort n taken = IfSome taken (λ x. length x.1 ≤ n)

and-short : {A B : Type 0} (n : ℕ) (o : Taken A) (f : A × List ℕ → Taken B) → IsShort n o
    → ((x : A × List ℕ) → IsShort (length x.1) (f x)) → IsShort n (option_and_then f o)
and-short n None f h k = tt
and-short {B = B} n (Some x) f h k = by (f x) (k x)
  where
    by : (o : Taken B) → IsShort (length x.1) o → IsShort n o
    by None s = tt
    by (Some y) s = omega (arith, h, s)

map-short : {A B : Type 0} (n : ℕ) (o : Taken A) (g : A × List ℕ → B) → IsShort n o
    → IsShort n (option_map (λ x. (g x, x.1)) o)
map-short n None g h = tt
map-short n (Some x) g h = h

byte-short : (b : Bool) (text : List ℕ) → IsShort (length text) (byte_if b text)
byte-short false text = omega arith
byte-short true [] = tt
byte-short true (byte ∷ rest) = omega arith

two-short : (code low high : ℕ) (text : List ℕ) → IsShort (length text) (two_bytes code low high text)
two-short code low high text =
    and-short (length text) (byte_if (is_told code low) text)
    (λ a. option_map (λ b. (a.0 + 256 * b.0, b.1)) (byte_if (is_told code high) a.1))
    (byte-short (is_told code low) text)
    (λ a. map-short (length a.1) (byte_if (is_told code high) a.1) (λ b. a.0 + 256 * b.0)
    (byte-short (is_told code high) a.1))

offset-short : (code : ℕ) (text : List ℕ) → IsShort (length text) (offset_in code text)
offset-short code text =
    and-short (length text) (two_bytes code 1 2 text)
    (λ a. option_map (λ b. (a.0 + 65536 * b.0, b.1)) (two_bytes code 4 8 a.1)) (two-short code 1 2 text)
    (λ a. map-short (length a.1) (two_bytes code 4 8 a.1) (λ b. a.0 + 65536 * b.0) (two-short code 4 8 a.1))

size-short : (code : ℕ) (text : List ℕ) → IsShort (length text) (copy_size_in code text)
size-short code text =
    and-short (length text) (two_bytes code 16 32 text)
    (λ a. option_map (λ b. (a.0 + 65536 * b.0, b.1)) (byte_if (is_told code 64) a.1)) (two-short code 16 32 text)
    (λ a. map-short (length a.1) (byte_if (is_told code 64) a.1) (λ b. a.0 + 65536 * b.0) (byte-short (is_told code 64) a.1))

part-short : (n : ℕ) (rest : List ℕ) (o : Option (List ℕ)) → length rest ≤ n
    → IsShort n (option_map (λ part. (part, rest)) o)
part-short n rest None h = tt
part-short n rest (Some part) h = h

copied-short : (base : List ℕ) (code : ℕ) (text : List ℕ) → IsShort (length text) (copied base code text)
copied-short base code text =
    and-short (length text) (offset_in code text)
    (λ offset. option_and_then (λ size. option_map (λ part. (part, size.1)) (part_of base offset.0 (or_65536 size.0)))
    (copy_size_in code offset.1))
    (offset-short code text)
    (λ offset. and-short (length offset.1) (copy_size_in code offset.1)
    (λ size. option_map (λ part. (part, size.1)) (part_of base offset.0 (or_65536 size.0)))
    (size-short code offset.1)
    (λ size. part-short (length size.1) size.1 (part_of base offset.0 (or_65536 size.0)) (omega arith)))

drop-short : (n : ℕ) (text : List ℕ) → length (drop n text) ≤ length text
drop-short zero text = omega arith
drop-short (suc n) [] = omega arith
drop-short (suc n) (byte ∷ text) = let h = drop-short n text in omega (arith, h)

inserted-short : (count : ℕ) (text : List ℕ) → IsShort (length text) (inserted count text)
inserted-short count text = by (count == 0 || nat_lt (length text) count)
  where
    by : (b : Bool) → IsShort (length text) (cond b None (Some (take count text, drop count text)))
    by true = tt
    by false = drop-short count text

taken-short : (base : List ℕ) (code : ℕ) (rest : List ℕ) → IsShort (length rest) (part_in base code rest)
taken-short base code rest = by (nat_lt code 128)
  where
    by : (b : Bool) → IsShort (length rest) (cond b (inserted code rest) (copied base code rest))
    by true = inserted-short code rest
    by false = copied-short base code rest

-- ---- more instructions than there are bytes change nothing

with-first : (base : List ℕ) (n m : ℕ) (o : Taken (List ℕ))
    → ((p : List ℕ × List ℕ) → o ≡ Some p → parts_in n base p.1 ≡ parts_in m base p.1)
    → option_and_then (λ first. option_map (λ more. first.0 ++ more) (parts_in n base first.1)) o
    ≡ option_and_then (λ first. option_map (λ more. first.0 ++ more) (parts_in m base first.1)) o
with-first base n m None h = refl
with-first base n m (Some p) h = ap (option_map (λ more. p.0 ++ more)) (h p refl)

some-short : {A : Type 0} (n : ℕ) (o : Taken A) (x : A × List ℕ) → o ≡ Some x → IsShort n o
    → length x.1 ≤ n
some-short {A = A} n o x is h = let k : IsShort n (Some x) = subst (λ (t : Taken A). IsShort n t) is h in k

enough : (base : List ℕ) (n m : ℕ) (text : List ℕ) → length text ≤ n → length text ≤ m
    → parts_in n base text ≡ parts_in m base text
unfolding parts_in
enough base n m [] h k = refl
enough base zero m (code ∷ rest) h k = absurd (omega arith)
enough base (suc n) zero (code ∷ rest) h k = absurd (omega arith)
enough base (suc n) (suc m) (code ∷ rest) h k =
    with-first base n m (part_in base code rest) (λ p is.
    let short = some-short (length rest) (part_in base code rest) p is (taken-short base code rest) in
    enough base n m p.1 (omega (arith, short)) (omega (arith, short)))

-- ---- one instruction

first-made : (base : List ℕ) (code : ℕ) (rest part next : List ℕ)
    → part_in base code rest ≡ Some (part, next)
    → made_by base (code ∷ rest) ≡ option_map (λ more. part ++ more) (made_by base next)
unfolding parts_in
first-made base code rest part next is =
    let short = some-short (length rest) (part_in base code rest) (part, next) is (taken-short base code rest) in
    ap (option_and_then (λ first. option_map (λ more. first.0 ++ more) (parts_in (length rest) base first.1))) is
    ∙ ap (option_map (λ more. part ++ more)) (enough base (length rest) (length next) next short (omega arith))

none-made : (base : List ℕ) (code : ℕ) (rest : List ℕ) → part_in base code rest ≡ None
    → made_by base (code ∷ rest) ≡ None
unfolding parts_in
none-made base code rest is =
    ap (option_and_then (λ first. option_map (λ more. first.0 ++ more) (parts_in (length rest) base first.1))) is

-- ---- all of them

-- what is made so far, before what the rest makes
abbrev pub after_made : List ℕ → Option (List ℕ) → Option (List ℕ)
after_made made more = option_map (λ text. made ++ text) more

pub record IsMadeSo (base instructions rest made : List ℕ) (size : ℕ) : Type 0 where
  pub reads : after_made made (made_by base rest) ≡ made_by base instructions
  pub fits : length made ≤ size

twice : (made part : List ℕ) (o : Option (List ℕ))
    → after_made (made ++ part) o ≡ after_made made (option_map (λ more. part ++ more) o)
twice made part None = refl
twice made part (Some more) = ap (λ (t : List ℕ). Some t) (append_assoc made part more)

pub begun : (base instructions made : List ℕ) (size : ℕ) → made ≡ []
    → IsMadeSo base instructions instructions made size
begun base instructions made size none = record {
  reads = subst (λ (t : List ℕ). after_made t (made_by base instructions) ≡ made_by base instructions) (sym none) (same (made_by base instructions));
  fits = subst (λ (t : List ℕ). length t ≤ size) (sym none) (omega arith);
}
  where
    same : (o : Option (List ℕ)) → after_made [] o ≡ o
    same None = refl
    same (Some t) = refl

module _ (base instructions rest made : List ℕ) (size code : ℕ) (after : List ℕ)
    (is : rest ≡ code ∷ after) (so : IsMadeSo base instructions rest made size) where
  here : after_made made (made_by base (code ∷ after)) ≡ made_by base instructions
  here = subst (λ (t : List ℕ). after_made made (made_by base t) ≡ made_by base instructions) is so.reads

  pub next-made : (part next new : List ℕ) → part_in base code after ≡ Some (part, next)
      → new ≡ made ++ part → length new ≤ size → IsMadeSo base instructions next new size
  next-made part next new taken grown le = record {
    reads =
        subst (λ (t : List ℕ). after_made t (made_by base next) ≡ made_by base instructions) (sym grown)
        (twice made part (made_by base next)
        ∙ ap (after_made made) (sym (first-made base code after part next taken)) ∙ here);
    fits = le;
  }

  pub next-short : (part next : List ℕ) → part_in base code after ≡ Some (part, next)
      → length next < length rest
  next-short part next taken =
      let short = some-short (length after) (part_in base code after) (part, next) taken (taken-short base code after) in
      let size = ap (λ (t : List ℕ). length t) is in
      omega (arith, short, size)

  pub cut-made : part_in base code after ≡ None → (text : List ℕ)
      → made_by base instructions ≡ Some text → length text ≢ size
  cut-made none text whole =
      let no : None ≡ Some text = ap (after_made made) (sym (none-made base code after none)) ∙ here ∙ whole in
      cc no

  pub long-made : (part next : List ℕ) → part_in base code after ≡ Some (part, next)
      → size < length made + length part → (text : List ℕ)
      → made_by base instructions ≡ Some text → length text ≢ size
  long-made part next taken long text whole =
      by (made_by base next)
      (twice made part (made_by base next)
      ∙ ap (after_made made) (sym (first-made base code after part next taken)) ∙ here ∙ whole)
    where
      by : (o : Option (List ℕ)) → after_made (made ++ part) o ≡ Some text → length text ≢ size
      by None e same = cc e
      by (Some more) e same =
          let parts : made ++ part ++ more ≡ text = cc e in
          let sizes = ap (λ (t : List ℕ). length t) parts in
          omega (arith, same, long, sizes, length-append (made ++ part) more, length-append made part)

pub all-made : (base instructions rest made : List ℕ) (size : ℕ) → length rest ≡ 0
    → IsMadeSo base instructions rest made size → made_by base instructions ≡ Some made
unfolding parts_in
all-made base instructions (byte ∷ rest) made size none so = absurd (omega arith)
all-made base instructions [] made size none so =
    sym so.reads ∙ ap (λ (t : List ℕ). Some t) (append-nil made)

-- the answer by the size of what is made
pub whole-made : (base instructions made : List ℕ) (size len : ℕ) → len ≡ length made
    → made_by base instructions ≡ Some made → IsMadeOrNot base instructions size made (len == size)
whole-made base instructions made size len is whole = by (len == size) refl
  where
    by : (b : Bool) → (len == size) ≡ b → IsMadeOrNot base instructions size made b
    by true e = (whole, sym is ∙ eqb-true len size e)
    by false e =
        λ text other same.
        let text_is : made ≡ text = let both = sym whole ∙ other in cc both in
        let sizes = ap (λ (t : List ℕ). length t) text_is in
        eqb-false len size e (omega (arith, is, sizes, same))
