-- The names that digits begin lie between two.
use Rattle.std.proofs.Common.{◌≡◌, ◌≢◌, ℕ, zero, suc, ◌+◌, ◌-◌, ◌*◌, ◌/◌, ◌%◌, ◌<◌, ◌≤◌, ◌⊎◌, inl, inr, Bool, true, false, not, ◌&&◌, List, [], ◌∷◌, ◌++◌, length, replicate, Option, None, Some, is_some, Result, Ok, Err, nat_eq, refl, sym, ap, ◌∙◌, arith}
use Rattle.std.specs.Prelude.{All, IsOk}
use Rattle.std.specs.List.{AllPass}
use Rattle.std.specs.Option.{option_eq, unwrap_or}
use Rattle.std.specs.Cmp.{nat_cmp_is}
use Rattle.std.specs.Cmp.Lexicographic.{slice_cmp}
use Rattle.std.specs.Ordering.{nat_cmp, ordering_then, is_le, is_lt, is_gt}
use Rattle.std.specs.declared.cmp.Ordering.{Ordering}
use Rattle.std.specs.declared.cmp.Ordering.TheVariants.{Less, Equal, Greater}
use Rattle.std.proofs.lemmas.Bool.{cases_eq, cases_lt, and_parts}
use Rattle.std.proofs.lemmas.Bool.Decides.{nat_tests}
use Rattle.std.proofs.lemmas.List.Elements.{All-nil, All-cons, All-head, All-tail, All-append}
use Rattle.std.proofs.lemmas.List.{length-append, length-replicate}
use Rattle.git_model.specs.ObjectName.{IsObjectName}
use Rattle.hex.specs.Hex.{hex_digit_value, is_hex_digit, decode_of, decode_sized, decode_pairs, pair_value}
use Rattle.hex.specs.declared.error.FromHexError.{FromHexError}
use Rattle.hex.proofs.Pairs.{cons_byte, decode_pairs-ok_pair}
use Rattle.hex.proofs.HexLemmas.{IsOk-decode_sized, decode_of-even, decode_of-ok, decode_sized-ok, decode_sized-twice}
use Rattle.tenant_tables.specs.Abbreviation.{begins, Bounds}

-- ---- one byte more in front of names in order

-- whether a name lies between two
abbrev pub lies : List ℕ → List ℕ → List ℕ → Bool
lies low high q = is_le (slice_cmp nat_cmp low q) && not (is_lt (slice_cmp nat_cmp high q))

abbrev within : Ordering → Ordering → Bool
within x y = is_le x && not (is_lt y)

less : (x b : ℕ) → x < b → nat_cmp x b ≡ Less
less x b h = sym (nat_cmp_is x b Less h)

equal : (x b : ℕ) → x ≡ b → nat_cmp x b ≡ Equal
equal x b h = sym (nat_cmp_is x b Equal h)

greater : (x b : ℕ) → b < x → nat_cmp x b ≡ Greater
greater x b h = sym (nat_cmp_is x b Greater h)

below_end : (x b : ℕ) (X : Ordering) → x ≤ b → is_le X ≡ true
    → is_le (ordering_then (nat_cmp x b) X) ≡ true
below_end x b X h rest =
    elim (cases_eq x b) [
      | inl same ↦ rw (equal x b same) rest
      | inr other ↦ rw (less x b (omega arith)) refl
    ]

above_end : (y b : ℕ) (Y : Ordering) → b ≤ y → is_lt Y ≡ false
    → is_lt (ordering_then (nat_cmp y b) Y) ≡ false
above_end y b Y h rest =
    elim (cases_eq y b) [
      | inl same ↦ rw (equal y b same) rest
      | inr other ↦ rw (greater y b (omega arith)) refl
    ]

not_true : (b : Bool) → not b ≡ true → b ≡ false
not_true true h = sym h
not_true false h = refl

inside : (x y b : ℕ) (X Y : Ordering) → x ≤ b → b ≤ y → within X Y ≡ true
    → within (ordering_then (nat_cmp x b) X) (ordering_then (nat_cmp y b) Y) ≡ true
inside x y b X Y low high rest =
    let parts = and_parts (is_le X) (not (is_lt Y)) rest in
    rw (below_end x b X low parts.0, above_end y b Y high (not_true (is_lt Y) parts.1)) refl

pub and_false : (b : Bool) → (b && false) ≡ false
and_false true = refl
and_false false = refl

outside : (x y b : ℕ) (X Y : Ordering) → (b < x) ⊎ (y < b)
    → within (ordering_then (nat_cmp x b) X) (ordering_then (nat_cmp y b) Y) ≡ false
outside x y b X Y (inl low) = rw (greater x b low) refl
outside x y b X Y (inr high) = rw (less y b high) (and_false _)

both_same : (x b : ℕ) (X Y : Ordering) → x ≡ b
    → within (ordering_then (nat_cmp x b) X) (ordering_then (nat_cmp x b) Y) ≡ within X Y
both_same x b X Y h = rw (equal x b h) refl

-- ---- digits

half : ℕ → ℕ
half d = unwrap_or (hex_digit_value d) 0

-- the bytes that pairs of digits write
bytes_of : List ℕ → List ℕ
bytes_of [] = []
bytes_of (a ∷ []) = []
bytes_of (a ∷ b ∷ rest) = (half a * 16 + half b) ∷ bytes_of rest

-- digits, and others after them up to two for each byte of a name
padded : ℕ → List ℕ → List ℕ → List ℕ
padded c [] ds = []
padded c (b ∷ q) [] = c ∷ c ∷ padded c q []
padded c (b ∷ q) (d ∷ []) = d ∷ c ∷ padded c q []
padded c (b ∷ q) (d ∷ e ∷ ds) = d ∷ e ∷ padded c q ds

some_half : (d : ℕ) → is_hex_digit d ≡ true → hex_digit_value d ≡ Some (half d)
unfolding half
some_half d h = by (hex_digit_value d) h
  where
    by : (o : Option ℕ) → is_some o ≡ true → o ≡ Some (unwrap_or o 0)
    by None no_digit = cc no_digit
    by (Some v) yes_digit = refl

half-small : (d : ℕ) → is_hex_digit d ≡ true → half d < 16
half-small d h = let e = some_half d h in by (half d) e
  where
    by : (v : ℕ) → hex_digit_value d ≡ Some v → v < 16
    by v e = grind (arith)

-- whether a digit stands for a half byte
stands : ℕ → ℕ → Bool
stands d k = option_eq nat_eq (hex_digit_value d) (Some k)

stands-half : (d k : ℕ) → is_hex_digit d ≡ true → stands d k ≡ nat_eq (half d) k
unfolding stands
stands-half d k h = rw (some_half d h) refl

and_true : (b : Bool) → (b && true) ≡ b
and_true true = refl
and_true false = refl

is_digit : (d k : ℕ) → option_eq nat_eq (hex_digit_value d) (Some k) ≡ true → is_hex_digit d ≡ true
is_digit d k h = by (hex_digit_value d) h
  where
    by : (o : Option ℕ) → option_eq nat_eq o (Some k) ≡ true → is_some o ≡ true
    by None e = cc e
    by (Some v) e = refl

-- one digit, and any other after it, stand for the bytes between two
one_digit : (d b : ℕ) (X Y : Ordering) → is_hex_digit d ≡ true → within X Y ≡ true
    → within (ordering_then (nat_cmp (half d * 16 + 0) b) X) (ordering_then (nat_cmp (half d * 16 + 15) b) Y)
    ≡ stands d (b / 16)
one_digit d b X Y h rest =
    rw (stands-half d (b / 16) h)
    (elim (cases_eq (half d) (b / 16)) [
      | inl same ↦
          let yes_test : nat_eq (half d) (b / 16) ≡ true = grind (arith, nat_tests) in
          inside (half d * 16 + 0) (half d * 16 + 15) b X Y (omega arith) (omega arith) rest
          ∙ sym yes_test
      | inr other ↦
          let no_test : nat_eq (half d) (b / 16) ≡ false = grind (arith, nat_tests) in
          elim (cases_lt (half d) (b / 16)) [
            | inl above ↦
                outside (half d * 16 + 0) (half d * 16 + 15) b X Y (inr (omega arith)) ∙ sym no_test
            | inr below ↦
                outside (half d * 16 + 0) (half d * 16 + 15) b X Y (inl (omega arith)) ∙ sym no_test
          ]
    ])

-- two digits stand for one byte
two_digits : (d e b : ℕ) (X Y : Ordering) → is_hex_digit d ≡ true → is_hex_digit e ≡ true
    → within (ordering_then (nat_cmp (half d * 16 + half e) b) X) (ordering_then (nat_cmp (half d * 16 + half e) b) Y)
    ≡ (stands d (b / 16) && (stands e (b % 16) && within X Y))
two_digits d e b X Y h g =
    let small = half-small e g in
    rw (stands-half d (b / 16) h, stands-half e (b % 16) g)
    (elim (cases_eq (half d * 16 + half e) b) [
      | inl same ↦
          let high : nat_eq (half d) (b / 16) ≡ true = grind (arith, nat_tests) in
          let low : nat_eq (half e) (b % 16) ≡ true = grind (arith, nat_tests) in
          both_same (half d * 16 + half e) b X Y same ∙ rw (high, low) refl
      | inr other ↦ apart small other
    ])
  where
    apart : half e < 16 → half d * 16 + half e ≢ b
        → within (ordering_then (nat_cmp (half d * 16 + half e) b) X) (ordering_then (nat_cmp (half d * 16 + half e) b) Y)
        ≡ (nat_eq (half d) (b / 16) && (nat_eq (half e) (b % 16) && within X Y))
    apart small other =
        let missed : (nat_eq (half d) (b / 16) && (nat_eq (half e) (b % 16) && within X Y)) ≡ false =
        elim (cases_eq (half d) (b / 16)) [
          | inl same ↦
              let low : nat_eq (half e) (b % 16) ≡ false = grind (arith, nat_tests) in
              rw low (and_false _)
          | inr differs ↦
              let high : nat_eq (half d) (b / 16) ≡ false = grind (arith, nat_tests) in
              rw high refl
        ] in
        elim (cases_lt (half d * 16 + half e) b) [
          | inl under ↦
              outside (half d * 16 + half e) (half d * 16 + half e) b X Y (inr under) ∙ sym missed
          | inr over ↦
              outside (half d * 16 + half e) (half d * 16 + half e) b X Y (inl (omega arith))
              ∙ sym missed
        ]

-- ---- the two names

-- the names between that of the least and that of the greatest digits after the given ones are
-- those that these begin
between : (ds q : List ℕ) → AllPass is_hex_digit ds → All (λ byte. byte < 256) q
    → length ds ≤ 2 * length q
    → lies (bytes_of (padded 48 q ds)) (bytes_of (padded 102 q ds)) q ≡ begins ds q
unfolding begins bytes_of padded half stands
between [] [] h bs n = refl
between (d ∷ ds) [] h bs n = absurd (omega arith)
between [] (b ∷ q) h bs n =
    let fits : b < 256 = All-head (λ byte. byte < 256) b q bs in
    let rest = between [] q h (All-tail (λ byte. byte < 256) b q bs) (omega arith) in
    inside 0 255 b _ _ (omega arith) (omega arith) rest
between (d ∷ []) (b ∷ q) h bs n =
    let rest =
    between [] q (All-nil (λ x. is_hex_digit x ≡ true)) (All-tail (λ byte. byte < 256) b q bs)
    (omega arith) in
    one_digit d b _ _ (All-head (λ x. is_hex_digit x ≡ true) d [] h) rest ∙ sym (and_true _)
between (d ∷ e ∷ ds) (b ∷ q) h bs n =
    let others = All-tail (λ x. is_hex_digit x ≡ true) d (e ∷ ds) h in
    let rest =
    between ds q (All-tail (λ x. is_hex_digit x ≡ true) e ds others)
    (All-tail (λ byte. byte < 256) b q bs) (omega arith) in
    two_digits d e b _ _ (All-head (λ x. is_hex_digit x ≡ true) d (e ∷ ds) h)
    (All-head (λ x. is_hex_digit x ≡ true) e ds others)
    ∙ ap (λ (t : Bool). stands d (b / 16) && (stands e (b % 16) && t)) rest

-- the least does not come after the greatest
ascend : (ds q : List ℕ) → length ds ≤ 2 * length q
    → is_gt (slice_cmp nat_cmp (bytes_of (padded 48 q ds)) (bytes_of (padded 102 q ds))) ≡ false
unfolding bytes_of padded half
ascend ds [] n = by ds n
  where
    by : (es : List ℕ) → length es ≤ 0
        → is_gt (slice_cmp nat_cmp (bytes_of (padded 48 [] es)) (bytes_of (padded 102 [] es)))
        ≡ false
    by es m = refl
ascend [] (b ∷ q) n = refl
ascend (d ∷ []) (b ∷ q) n = rw (less (half d * 16 + 0) (half d * 16 + 15) (omega arith)) refl
ascend (d ∷ e ∷ ds) (b ∷ q) n =
    rw (equal (half d * 16 + half e) (half d * 16 + half e) refl) (ascend ds q (omega arith))

-- what begins a name is digits, no more than it has
pub begins-digits : (ds q : List ℕ) → begins ds q ≡ true
    → AllPass is_hex_digit ds × (length ds ≤ 2 * length q)
unfolding begins
begins-digits [] q h = (All-nil (λ x. is_hex_digit x ≡ true), omega arith)
begins-digits (d ∷ ds) [] h = cc h
begins-digits (d ∷ []) (b ∷ q) h =
    let parts = and_parts (option_eq nat_eq (hex_digit_value d) (Some (b / 16))) true h in
    (All-cons (λ x. is_hex_digit x ≡ true) d [] (is_digit d (b / 16) parts.0) (All-nil (λ x. is_hex_digit x ≡ true)), omega arith)
begins-digits (d ∷ e ∷ ds) (b ∷ q) h =
    let parts =
    and_parts (option_eq nat_eq (hex_digit_value d) (Some (b / 16)))
    (option_eq nat_eq (hex_digit_value e) (Some (b % 16)) && begins ds q) h in
    let more =
    and_parts (option_eq nat_eq (hex_digit_value e) (Some (b % 16))) (begins ds q) parts.1 in
    let rest = begins-digits ds q more.1 in
    let n = rest.1 in (
      All-cons (λ x. is_hex_digit x ≡ true) d (e ∷ ds) (is_digit d (b / 16) parts.0)
          (All-cons (λ x. is_hex_digit x ≡ true) e ds (is_digit e (b % 16) more.0) rest.0),
      omega arith,
    )

-- text that decodes is the bytes that its digits write
consed : (v : ℕ) (r : Result (List ℕ) FromHexError) (bytes : List ℕ) → cons_byte v r ≡ Ok bytes
    → (more : List ℕ) × (r ≡ Ok more) × (v ∷ more ≡ bytes)
consed v (Ok more) bytes e = (more, refl, cc e)
consed v (Err f) bytes e = cc e

paired : (i a b : ℕ) → is_hex_digit a ≡ true → is_hex_digit b ≡ true
    → pair_value a b i ≡ Ok (half a * 16 + half b)
paired i a b h g = rw (some_half a h, some_half b g) refl

decoded : (i : ℕ) (s bytes : List ℕ) → AllPass is_hex_digit s → decode_pairs i s ≡ Ok bytes
    → bytes ≡ bytes_of s
unfolding decode_pairs bytes_of
decoded i [] bytes h e = let same : [] ≡ bytes = cc e in sym same
decoded i (a ∷ []) bytes h e = cc e
decoded i (a ∷ b ∷ rest) bytes h e =
    let others = All-tail (λ x. is_hex_digit x ≡ true) a (b ∷ rest) h in
    let pair =
    paired i a b (All-head (λ x. is_hex_digit x ≡ true) a (b ∷ rest) h)
    (All-head (λ x. is_hex_digit x ≡ true) b rest others) in
    let more =
    consed (half a * 16 + half b) (decode_pairs (i + 2) rest) bytes
    (sym (decode_pairs-ok_pair i a b (half a * 16 + half b) rest pair) ∙ e) in
    sym more.2
    ∙ ap (λ (bs : List ℕ). (half a * 16 + half b) ∷ bs)
    (decoded (i + 2) rest more.0 (All-tail (λ x. is_hex_digit x ≡ true) b rest others) more.1)

padded-is : (c : ℕ) (ds q : List ℕ) → length ds ≤ 2 * length q
    → padded c q ds ≡ ds ++ replicate (2 * length q - length ds) c
unfolding padded
padded-is c [] [] n = refl
padded-is c (d ∷ ds) [] n = absurd (omega arith)
padded-is c [] (b ∷ q) n =
    let e : 2 * suc (length q) - 0 ≡ suc (suc (2 * length q - 0)) = omega arith in
    ap (λ (t : List ℕ). c ∷ c ∷ t) (padded-is c [] q (omega arith))
    ∙ ap (λ (k : ℕ). replicate k c) (sym e)
padded-is c (d ∷ []) (b ∷ q) n =
    let e : 2 * suc (length q) - 1 ≡ suc (2 * length q - 0) = omega arith in
    ap (λ (t : List ℕ). d ∷ c ∷ t) (padded-is c [] q (omega arith))
    ∙ ap (λ (k : ℕ). d ∷ replicate k c) (sym e)
padded-is c (d ∷ f ∷ ds) (b ∷ q) n =
    let e : 2 * suc (length q) - suc (suc (length ds)) ≡ 2 * length q - length ds = omega arith in
    ap (λ (t : List ℕ). d ∷ f ∷ t) (padded-is c ds q (omega arith))
    ∙ ap (λ (k : ℕ). d ∷ f ∷ (ds ++ replicate k c)) (sym e)

All-left : {X : Type 0} (P : X → Type 0) (xs ys : List X) → All P (xs ++ ys) → All P xs
All-left P [] ys h = All-nil P
All-left P (x ∷ xs) ys h =
    All-cons P x xs (All-head P x (xs ++ ys) h) (All-left P xs ys (All-tail P x (xs ++ ys) h))

-- digits with others after them, as text of forty
abbrev pub forty : ℕ → List ℕ → List ℕ
forty c ds = ds ++ replicate (40 - length ds) c

record Text (ds : List ℕ) (c : ℕ) (bytes : List ℕ) : Type 0 where
  digits : AllPass is_hex_digit ds
  short : length ds ≤ 40
  writes : (q : List ℕ) → length q ≡ 20 → bytes ≡ bytes_of (padded c q ds)

text_of : (c : ℕ) (ds bytes : List ℕ) → decode_sized (forty c ds) 20 ≡ Ok bytes → Text ds c bytes
text_of c ds bytes e =
    let len = decode_sized-ok (forty c ds) 20 bytes e in
    let long = length-append ds (replicate (40 - length ds) c) in
    let more = length-replicate (40 - length ds) c in
    let short : length ds ≤ 40 = omega (arith, len, long, more) in
    let whole : decode_of (forty c ds) ≡ Ok bytes =
    sym (decode_sized-twice (forty c ds) 20 len) ∙ e in
    let ok = decode_of-ok (forty c ds) bytes whole in
    let pairs : decode_pairs 0 (forty c ds) ≡ Ok bytes = sym (decode_of-even (forty c ds) ok.0) ∙ whole in record {
      digits = All-left (λ x. is_hex_digit x ≡ true) ds (replicate (40 - length ds) c) ok.1;
      short = short;
      writes =
          λ q size.
          let twice : 2 * length q ≡ 40 = omega (arith, size) in
          let fits : length ds ≤ 2 * length q = omega (arith, short, twice) in
          decoded 0 (forty c ds) bytes ok.1 pairs
          ∙ ap bytes_of
          (sym (padded-is c ds q fits ∙ ap (λ (n : ℕ). ds ++ replicate (n - length ds) c) twice));
    }

pub bounds-of : (ds first last : List ℕ) → decode_sized (forty 48 ds) 20 ≡ Ok first
    → decode_sized (forty 102 ds) 20 ≡ Ok last → Bounds ds first last
bounds-of ds first last e f =
    let low = text_of 48 ds first e in
    let high = text_of 102 ds last f in record {
      forward =
          rw (low.writes (replicate 20 0) refl, high.writes (replicate 20 0) refl) (ascend ds (replicate 20 0) low.short);
      between =
          λ id is. rw (low.writes id is.size, high.writes id is.size)
          (between ds id low.digits is.bytes (let n = low.short in let m = is.size in omega arith));
    }

All-replicate : {X : Type 0} (P : X → Type 0) (n : ℕ) (x : X) → P x → All P (replicate n x)
All-replicate P zero x h = All-nil P
All-replicate P (suc n) x h = All-cons P x (replicate n x) h (All-replicate P n x h)

-- digits that begin a name, with a digit after them, decode
decodes : (c : ℕ) (ds id : List ℕ) → is_hex_digit c ≡ true → length id ≡ 20 → begins ds id ≡ true
    → IsOk (decode_sized (forty c ds) 20)
decodes c ds id h size b =
    let found = begins-digits ds id b in
    let n = found.1 in
    let long = length-append ds (replicate (40 - length ds) c) in
    let more = length-replicate (40 - length ds) c in
    (IsOk-decode_sized (forty c ds) 20).1 (
      omega (arith, n, size, long, more),
      All-append (λ x. is_hex_digit x ≡ true) ds (replicate (40 - length ds) c) found.0
          (All-replicate (λ x. is_hex_digit x ≡ true) (40 - length ds) c h),
    )

-- text that does not decode begins no name
pub begins-none : (c : ℕ) (ds : List ℕ) → is_hex_digit c ≡ true
    → (length ds ≤ 40 → (bytes : List ℕ) → decode_sized (forty c ds) 20 ≢ Ok bytes) → (id : List ℕ)
    → IsObjectName id → begins ds id ≡ false
begins-none c ds h none id is = by (begins ds id) refl
  where
    lost : (r : Result (List ℕ) FromHexError) → decode_sized (forty c ds) 20 ≡ r → IsOk r
        → length ds ≤ 40 → ⊥
    lost (Ok bytes) e ok short = none short bytes e
    lost (Err f) e ok short = cc ok

    by : (b : Bool) → begins ds id ≡ b → b ≡ false
    by true e =
        let n = (begins-digits ds id e).1 in
        let size = is.size in
        absurd
        (lost (decode_sized (forty c ds) 20) refl (decodes c ds id h size e) (omega (arith, n, size)))
    by false e = refl
