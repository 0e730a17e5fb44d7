-- A printer and a reader of the same values: what is read was printed so, and what is printed is read again.
use Rattle.std.proofs.Common.{◌≡◌, ℕ, zero, suc, ◌*◌, ◌^◌, ◌<◌, ◌≤◌, Bool, true, false, cond, ltb, List, [], ◌∷◌, ◌++◌, length, get_or, take, drop, Result, Ok, Err, refl, sym, ap, subst, ◌∙◌, append_assoc, arith}
use Rattle.std.specs.Int.{Width, w16, w32, w64, byte_len, from_be_bytes, to_be_bytes}
use Rattle.std.specs.List.{flat_map, AllByRecursion}
use Rattle.std.proofs.lemmas.Bool.{ltb-false, le-ltb}
use Rattle.std.proofs.lemmas.List.{take_at, drop_at, take-append-drop, length-append, length-take}
use Rattle.std.proofs.lemmas.List.Concat.{flat_map-cons}
use Rattle.std.proofs.lemmas.Nat.{be_bytes_2, be_bytes_4, be_bytes_8, from_be_bytes-to_be_bytes_2, from_be_bytes-to_be_bytes_4, from_be_bytes-to_be_bytes_8}
use Rattle.byte_devices.specs.Reading.{AreBytes}
use Rattle.pool_file_format.specs.declared.refusal.Refusal.{Refusal}
use Rattle.pool_file_format.specs.declared.refusal.Refusal.TheVariants as refusal
use Rattle.pool_file_format.specs.Format.{sized, counted, FitsIn, AreCounted}
use Rattle.pool_file_format.specs.Lengths.{Read, ◌>>=◌, bytes_at, number_at, sized_at, many_at, counted_at}

-- the value of a step that did not fail
pub bind_ok : {A B : Type 0} (r : Result A Refusal) (f : A → Result B Refusal) (y : B) → (r >>= f) ≡ Ok y → (x : A) × (r ≡ Ok x) × (f x ≡ Ok y)
bind_ok (Ok x) f y e = (x, refl, e)
bind_ok (Err d) f y e = absurd cc

-- a test that did not fail
pub guard_ok : {A : Type 0} (b : Bool) (d : Refusal) (x y : A) → cond b (Err d) (Ok x) ≡ Ok y → (b ≡ false) × (x ≡ y)
guard_ok true d x y e = absurd cc
guard_ok false d x y e = (refl, cc)

abbrev done : {A : Type 0} → A → Result A Refusal
done x = Ok x

pub ok_is : {A : Type 0} (x y : A) → done x ≡ done y → x ≡ y
ok_is x y e = cc

-- ---- bytes

-- Each number is a byte, by recursion.
abbrev pub IsBytes : List ℕ → Type 0
IsBytes bytes = AllByRecursion (λ byte. byte < 256) bytes

pub bytes-each : (bytes : List ℕ) → AreBytes bytes → IsBytes bytes
bytes-each [] small = tt
bytes-each (b ∷ bs) small = (small 0, bytes-each bs (λ i. small (suc i)))

pub bytes-get : (bytes : List ℕ) → IsBytes bytes → (i : ℕ) → get_or bytes i 0 < 256
bytes-get [] small i = omega arith
bytes-get (b ∷ bs) small zero = small.0
bytes-get (b ∷ bs) small (suc i) = bytes-get bs small.1 i

pub bytes-take : (n : ℕ) (bytes : List ℕ) → IsBytes bytes → IsBytes (take n bytes)
bytes-take zero bytes small = tt
bytes-take (suc n) [] small = tt
bytes-take (suc n) (b ∷ bs) small = (small.0, bytes-take n bs small.1)

pub bytes-drop : (n : ℕ) (bytes : List ℕ) → IsBytes bytes → IsBytes (drop n bytes)
bytes-drop zero bytes small = small
bytes-drop (suc n) [] small = tt
bytes-drop (suc n) (b ∷ bs) small = bytes-drop n bs small.1

-- ---- what a reader took from the front

pub record Takes (bytes text rest : List ℕ) : Type 0 where
  pub parts : bytes ≡ text ++ rest
  pub small : IsBytes rest

pub Takes-then : (a x b y c : List ℕ) → Takes a x b → Takes b y c → Takes a (x ++ y) c
Takes-then a x b y c p q = record { parts = p.parts ∙ ap (λ (t : List ℕ). x ++ t) q.parts ∙ sym (append_assoc x y c); small = q.small }

-- A printer and a reader of the values that fit.
pub record IsRead {A : Type 0} (text : A → List ℕ) (at : Read A) (Fits : A → Type 0) : Type 0 where
  pub takes : (bytes : List ℕ) (x : A) (rest : List ℕ) → IsBytes bytes → at bytes ≡ Ok (x, rest) → Takes bytes (text x) rest × Fits x
  pub again : (x : A) (rest : List ℕ) → Fits x → at (text x ++ rest) ≡ Ok (x, rest)

-- ---- so many bytes

pub bytes_take : (n : ℕ) (bytes x rest : List ℕ) → IsBytes bytes → bytes_at n bytes ≡ Ok (x, rest) → Takes bytes x rest × IsBytes x × (length x ≡ n)
unfolding bytes_at
bytes_take n bytes x rest small e =
    let g = guard_ok (ltb (length bytes) n) refusal.CutOff (take n bytes, drop n bytes) (x, rest) e in
    let long : n ≤ length bytes = ltb-false _ _ g.0 in
    subst (λ (p : List ℕ × List ℕ). Takes bytes p.0 p.1 × IsBytes p.0 × (length p.0 ≡ n)) g.1
    (record { parts = sym (take-append-drop n bytes); small = bytes-drop n bytes small }, bytes-take n bytes small, omega (arith, length-take n bytes))

pub bytes_again : (n : ℕ) (x rest : List ℕ) → length x ≡ n → bytes_at n (x ++ rest) ≡ Ok (x, rest)
unfolding bytes_at
bytes_again n x rest size =
    let long : ltb (length (x ++ rest)) n ≡ false = le-ltb _ _ (omega (arith, size, length-append x rest)) in
    rw (long, take_at x rest n size, drop_at x rest n size) refl

-- ---- numbers

pub record IsWide (w : Width) : Type 0 where
  pub len : (n : ℕ) → length (to_be_bytes w n) ≡ byte_len w
  pub back : (bytes : List ℕ) → length bytes ≡ byte_len w → IsBytes bytes → to_be_bytes w (from_be_bytes w bytes) ≡ bytes
  pub again : (n : ℕ) → n < 2 ^ (8 * byte_len w) → from_be_bytes w (to_be_bytes w n) ≡ n
  pub below : (bytes : List ℕ) → IsBytes bytes → from_be_bytes w bytes < 2 ^ (8 * byte_len w)

pub wide16 : IsWide w16
wide16 = record {
  len = λ n. refl;
  back = λ bytes len small. be_bytes_2 bytes _ len (bytes-get bytes small) refl;
  again = λ n lt. from_be_bytes-to_be_bytes_2 n lt;
  below = λ bytes small. let g = bytes-get bytes small in omega (arith, g 0, g 1);
}

pub wide32 : IsWide w32
wide32 = record {
  len = λ n. refl;
  back = λ bytes len small. be_bytes_4 bytes _ len (bytes-get bytes small) refl;
  again = λ n lt. from_be_bytes-to_be_bytes_4 n lt;
  below = λ bytes small. let g = bytes-get bytes small in omega (arith, g 0, g 1, g 2, g 3);
}

pub wide64 : IsWide w64
wide64 = record {
  len = λ n. refl;
  back = λ bytes len small. be_bytes_8 bytes _ len (bytes-get bytes small) refl;
  again = λ n lt. from_be_bytes-to_be_bytes_8 n lt;
  below = λ bytes small. let g = bytes-get bytes small in omega (arith, g 0, g 1, g 2, g 3, g 4, g 5, g 6, g 7);
}

pub reads_number : (w : Width) → IsWide w → IsRead (to_be_bytes w) (number_at w) (λ n. n < 2 ^ (8 * byte_len w))
unfolding number_at
reads_number w wide = record {
  takes = λ bytes n rest small e.
      let b = bind_ok (bytes_at (byte_len w) bytes) (λ front. Ok (from_be_bytes w front.0, front.1)) (n, rest) e in
      let t = bytes_take (byte_len w) bytes b.0.0 b.0.1 small b.1 in
      subst (λ (p : ℕ × List ℕ). Takes bytes (to_be_bytes w p.0) p.1 × (p.0 < 2 ^ (8 * byte_len w)))
      (ok_is (from_be_bytes w b.0.0, b.0.1) (n, rest) b.2)
      (record { parts = t.0.parts ∙ ap (λ (l : List ℕ). l ++ b.0.1) (sym (wide.back b.0.0 t.2 t.1)); small = t.0.small }, wide.below b.0.0 t.1);
  again = λ n rest lt. rw (bytes_again (byte_len w) (to_be_bytes w n) rest (wide.len n), wide.again n lt) refl;
}

pub reads_sized : (w : Width) → IsWide w → IsRead (sized w) (sized_at w) (FitsIn w)
unfolding sized_at
reads_sized w wide = let number = reads_number w wide in record {
  takes = λ bytes x rest small e.
      let b = bind_ok (number_at w bytes) (λ n. bytes_at n.0 n.1) (x, rest) e in
      let t = number.takes bytes b.0.0 b.0.1 small b.1 in
      let u = bytes_take b.0.0 b.0.1 x rest t.0.small b.2 in (
        subst (λ (k : ℕ). Takes bytes (to_be_bytes w k ++ x) rest) (sym u.2) (Takes-then bytes (to_be_bytes w b.0.0) b.0.1 x rest t.0 u.0),
        subst (λ (k : ℕ). k < 2 ^ (8 * byte_len w)) (sym u.2) t.1,
      );
  again = λ x rest fits.
      ap (λ (l : List ℕ). number_at w l >>= λ n. bytes_at n.0 n.1) (append_assoc (to_be_bytes w (length x)) x rest)
      ∙ rw (number.again (length x) (x ++ rest) fits) (bytes_again (length x) x rest refl);
}

-- ---- one value after another

pub two_take : {A B : Type 0} (ta : A → List ℕ) (at : Read A) (Fa : A → Type 0) (tb : B → List ℕ) (bt : Read B) (Fb : B → Type 0)
    → IsRead ta at Fa → IsRead tb bt Fb → (bytes : List ℕ) (x : A) (middle : List ℕ) (y : B) (rest : List ℕ) → IsBytes bytes
    → at bytes ≡ Ok (x, middle) → bt middle ≡ Ok (y, rest) → Takes bytes (ta x ++ tb y) rest × Fa x × Fb y
two_take ta at Fa tb bt Fb ra rb bytes x middle y rest small e f =
    let t = ra.takes bytes x middle small e in
    let u = rb.takes middle y rest t.0.small f in
    (Takes-then bytes (ta x) middle (tb y) rest t.0 u.0, t.1, u.1)

-- ---- lists

many_take : {A : Type 0} (text : A → List ℕ) (at : Read A) (Fits : A → Type 0) → IsRead text at Fits
    → (n : ℕ) (bytes : List ℕ) (x : List A × List ℕ) → IsBytes bytes → many_at at n bytes ≡ Ok x
    → Takes bytes (flat_map text x.0) x.1 × (length x.0 ≡ n) × AllByRecursion Fits x.0
unfolding many_at
many_take {A} text at Fits one zero bytes x small e =
    subst (λ (y : List A × List ℕ). Takes bytes (flat_map text y.0) y.1 × (length y.0 ≡ 0) × AllByRecursion Fits y.0) (ok_is ([], bytes) x e)
    (record { parts = refl; small = small }, refl, tt)
many_take {A} text at Fits one (suc n) bytes x small e =
    let a = bind_ok (at bytes) (λ first. many_at at n first.1 >>= λ others. Ok (first.0 ∷ others.0, others.1)) x e in
    let b = bind_ok (many_at at n a.0.1) (λ others. Ok (a.0.0 ∷ others.0, others.1)) x a.2 in
    let first = one.takes bytes a.0.0 a.0.1 small a.1 in
    let second = many_take text at Fits one n a.0.1 b.0 first.0.small b.1 in
    let both = Takes-then bytes (text a.0.0) a.0.1 (flat_map text b.0.0) b.0.1 first.0 second.0 in
    let made : List A × List ℕ = (a.0.0 ∷ b.0.0, b.0.1) in
    subst (λ (y : List A × List ℕ). Takes bytes (flat_map text y.0) y.1 × (length y.0 ≡ suc n) × AllByRecursion Fits y.0) (ok_is made x b.2)
    (rw flat_map-cons both, ap suc second.1, (first.1, second.2))

many_again : {A : Type 0} (text : A → List ℕ) (at : Read A) (Fits : A → Type 0) → IsRead text at Fits
    → (xs : List A) (rest : List ℕ) → AllByRecursion Fits xs → many_at at (length xs) (flat_map text xs ++ rest) ≡ Ok (xs, rest)
unfolding many_at
many_again text at Fits one [] rest fits = refl
many_again text at Fits one (x ∷ xs) rest fits =
    let regrouped : flat_map text (x ∷ xs) ++ rest ≡ text x ++ (flat_map text xs ++ rest) = ap (λ (l : List ℕ). l ++ rest) (flat_map-cons text x xs) ∙ append_assoc (text x) (flat_map text xs) rest in
    ap (many_at at (suc (length xs))) regrouped ∙ rw (one.again x (flat_map text xs ++ rest) fits.0, many_again text at Fits one xs rest fits.1) refl

pub reads_counted : {A : Type 0} (text : A → List ℕ) (at : Read A) (Fits : A → Type 0) → IsRead text at Fits
    → IsRead (counted text) (counted_at at) (AreCounted Fits)
unfolding counted_at
reads_counted text at Fits one = let number = reads_number w64 wide64 in record {
  takes = λ bytes xs rest small e.
      let b = bind_ok (number_at w64 bytes) (λ n. many_at at n.0 n.1) (xs, rest) e in
      let t = number.takes bytes b.0.0 b.0.1 small b.1 in
      let u = many_take text at Fits one b.0.0 b.0.1 (xs, rest) t.0.small b.2 in (
        subst (λ (k : ℕ). Takes bytes (to_be_bytes w64 k ++ flat_map text xs) rest) (sym u.1) (Takes-then bytes (to_be_bytes w64 b.0.0) b.0.1 (flat_map text xs) rest t.0 u.0),
        (subst (λ (k : ℕ). k < 2 ^ 64) (sym u.1) t.1, u.2),
      );
  again = λ xs rest fits.
      ap (λ (l : List ℕ). number_at w64 l >>= λ n. many_at at n.0 n.1) (append_assoc (to_be_bytes w64 (length xs)) (flat_map text xs) rest)
      ∙ rw (number.again (length xs) (flat_map text xs ++ rest) fits.0) (many_again text at Fits one xs rest fits.1);
}
