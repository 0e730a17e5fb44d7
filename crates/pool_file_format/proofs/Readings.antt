-- Readings one after another, and the same one many times.
use Rattle.std.proofs.Common.{◌≡◌, ℕ, suc, ◌+◌, ◌-◌, ◌^◌, ◌<◌, ◌≤◌, Bool, true, false, cond, ltb, List, [], ◌∷◌, ◌++◌, length, take, drop, replicate, Option, None, Some, Result, Ok, Err, refl, sym, ap, subst, ◌∙◌, append_assoc, append-nil, arith}
use Rattle.std.specs.Result.{IsErrAnd}
use Rattle.std.specs.Int.{Width, w64, byte_len, from_be_bytes}
use Rattle.std.proofs.lemmas.Bool.{ltb-false, ltb-true}
use Rattle.std.proofs.lemmas.List.{length-append, length-take, take-append-drop, take_all, take_at, replicate-append-replicate}
use Rattle.std.proofs.lemmas.Result.{err_from_is_err_and}
use Rattle.byte_devices.specs.Device.{Device}
use Rattle.pool_file_format.specs.declared.refusal.Refusal.{Refusal}
use Rattle.pool_file_format.specs.declared.refusal.Refusal.TheVariants as refusal
use Rattle.pool_file_format.specs.declared.fault.Fault.{Fault}
use Rattle.pool_file_format.specs.declared.fault.Fault.TheVariants as fault
use Rattle.pool_file_format.specs.Lengths.{Read, ◌>>=◌, bytes_at, number_at, sized_at, many_at, counted_at}
use Rattle.pool_file_format.specs.Taking.{Fails, Gave, HasGiven, ReadsBy, ReadsValue, Adds, shown}
use Rattle.pool_file_format.proofs.Calls.{asked_none, fits_after, given_then, well_looser, blames_on, blames_as}
use Rattle.pool_file_format.proofs.Formats.{bytes_again, guard_ok}
use Rattle.pool_file_format.proofs.Takes.{is_cut, starved_given}

-- ---- faults

fails_on : {A B : Type 0} (e : Fault) (r : Result A Refusal) (k : A → Result B Refusal) → Fails e r → Fails e (r >>= k)
fails_on fault.Device r k f = tt
fails_on fault.Memory r k f = tt
fails_on (fault.Refused refusal) r k f = ap (λ (s : Result _ Refusal). s >>= k) f

fails_by : {A B : Type 0} (e : Fault) (r : Result A Refusal) (k : A → Result B Refusal) (x : A) → r ≡ Ok x → Fails e (k x) → Fails e (r >>= k)
fails_by e r k x is f = subst (λ (s : Result _ Refusal). Fails e (s >>= k)) (sym is) f

-- ---- one after another

pub gave_then : {A B : Type 0} (at : Read A) (k : A × List ℕ → Result (B × List ℕ) Refusal) (old mid new : Option (List ℕ)) (x : A) (r : Result B Fault)
    → Gave at old (Ok x) mid → Gave (λ rest. k (x, rest)) mid r new → Gave (λ bytes. at bytes >>= k) old r new
gave_then at k None mid new x r p q = tt
gave_then at k (Some bytes) None new x r p q = absurd p
gave_then at k (Some bytes) (Some rest) None x (Ok y) p q = absurd q
gave_then at k (Some bytes) (Some rest) (Some after) x (Ok y) p q = ap (λ (s : Result _ Refusal). s >>= k) p ∙ q
gave_then at k (Some bytes) (Some rest) new x (Err e) p q = fails_by e (at bytes) k (x, rest) p q

pub gave_fails : {A B : Type 0} (at : Read A) (k : A × List ℕ → Result (B × List ℕ) Refusal) (old new : Option (List ℕ)) (e : Fault)
    → Gave at old (Err e) new → Gave {A = B} (λ bytes. at bytes >>= k) old (Err e) new
gave_fails at k None new e p = tt
gave_fails at k (Some bytes) new e p = fails_on e (at bytes) k p

-- The first gave a value, and the other whatever it gave.
pub reads_then : {A B : Type 0} {more bound : ℕ} (at : Read A) (k : A × List ℕ → Result (B × List ℕ) Refusal) {a b c : Device} {x : A} {r : Result B Fault}
    → ReadsValue bound at a (Ok x) b → ReadsBy more bound (λ rest. k (x, rest)) b r c → ReadsBy more bound (λ bytes. at bytes >>= k) a r c
reads_then at k {a} {b} {c} {x} {r} p q = record {
  gave = gave_then at k a.known b.known c.known x r p.gave q.gave;
  few = λ l. q.few (p.few l);
  blames = λ fits. let first = p.blames fits in blames_on _ _ r a b c first (q.blames (fits_after 0 a b first));
}

-- The first gave none.
pub reads_fails : {A B : Type 0} {less more bound : ℕ} (at : Read A) (k : A × List ℕ → Result (B × List ℕ) Refusal) {a b : Device} {e : Fault}
    → ReadsBy less bound at a (Err e) b → ReadsBy {A = B} more bound (λ bytes. at bytes >>= k) a (Err e) b
reads_fails {A} {B} {less} {more} {bound} at k {a} {b} {e} p = record {
  gave = gave_fails at k a.known b.known e p.gave;
  few = p.few;
  blames = λ fits. blames_as less more bound A B e a b (p.blames fits);
}

pub value_given : {A : Type 0} (x : A) (known : Option (List ℕ)) → Gave (λ rest. Ok (x, rest)) known (Ok x) known
value_given x None = tt
value_given x (Some bytes) = refl

-- A value that is at hand.
pub reads_value : {A : Type 0} {bound : ℕ} (x : A) (a : Device) → ReadsValue bound (λ rest. Ok (x, rest)) a (Ok x) a
reads_value x a = record { gave = value_given x a.known; few = λ l. l; blames = asked_none a }

-- No room was found before anything was read, or after a value.
pub reads_starved : {A : Type 0} {bound : ℕ} (at : Read A) (a : Device) → ReadsValue bound at a (Err fault.Memory) a
reads_starved at a = record { gave = starved_given at a.known a.known; few = λ l. l; blames = λ fits. well_looser a a (asked_none a fits) }

pub reads_stops : {A B : Type 0} {bound : ℕ} (at : Read A) (f : Read B) (a b : Device) (x : A) → ReadsValue bound at a (Ok x) b → ReadsValue bound f a (Err fault.Memory) b
reads_stops at f a b x p = record { gave = starved_given f a.known b.known; few = p.few; blames = λ fits. well_looser a b (p.blames fits) }

-- A fault goes on to whoever asked.
pub fault_goes_on : {A : Type 0} {more bound : ℕ} {at : Read A} {a b : Device} (r : Result A Fault) (e : Fault) → IsErrAnd r (λ d. d ≡ e)
    → ReadsBy more bound at a (Err e) b → ReadsBy more bound at a r b
fault_goes_on r e is p = let q = err_from_is_err_and r is in rw (q.1, q.2) p

pub stops : {A X : Type 0} {more bound : ℕ} {at : Read A} {a b : Device} (view : X → A) (r : Result X Fault) (e : Fault) → IsErrAnd r (λ d. d ≡ e)
    → ReadsBy more bound at a (Err e) b → ReadsBy more bound at a (shown view r) b
stops view r e is p = let q = err_from_is_err_and r is in rw (q.1, q.2) p

-- ---- numbers

pub number_reads : {bound : ℕ} (w : Width) (size : ℕ) (room : List ℕ) (n : ℕ) (a b : Device) → size ≡ byte_len w → n ≡ from_be_bytes w room
    → ReadsValue bound (bytes_at size) a (Ok room) b → ReadsValue bound (number_at w) a (Ok n) b
unfolding number_at
number_reads {bound} w size room n a b same is p =
    subst (λ (m : ℕ). ReadsValue bound (number_at w) a (Ok m) b) (sym is)
    (reads_then (bytes_at (byte_len w)) (λ front. Ok (from_be_bytes w front.0, front.1))
    (subst (λ (m : ℕ). ReadsValue bound (bytes_at m) a (Ok room) b) same p) (reads_value (from_be_bytes w room) b))

pub number_fails : {bound : ℕ} (w : Width) (size : ℕ) (a b : Device) (e : Fault) → size ≡ byte_len w → ReadsValue bound (bytes_at size) a (Err e) b → ReadsValue bound (number_at w) a (Err e) b
unfolding number_at
number_fails {bound} w size a b e same p =
    reads_fails (bytes_at (byte_len w)) (λ front. Ok (from_be_bytes w front.0, front.1))
    (subst (λ (m : ℕ). ReadsValue bound (bytes_at m) a (Err e) b) same p)

-- ---- a count, and what it counts

pub sized_reads : {bound : ℕ} (w : Width) {n : ℕ} {a b c : Device} {r : Result (List ℕ) Fault} → ReadsValue bound (number_at w) a (Ok n) b → ReadsValue bound (bytes_at n) b r c
    → ReadsValue bound (sized_at w) a r c
unfolding sized_at
sized_reads w p q = reads_then _ _ p q

pub sized_fails : {bound : ℕ} (w : Width) {a b : Device} {e : Fault} → ReadsValue {A = ℕ} bound (number_at w) a (Err e) b → ReadsValue bound (sized_at w) a (Err e) b
unfolding sized_at
sized_fails w p = reads_fails _ _ p

pub counted_reads : {A : Type 0} {bound : ℕ} (at : Read A) {n : ℕ} {a b c : Device} {r : Result (List A) Fault} → ReadsValue bound (number_at w64) a (Ok n) b → ReadsValue bound (many_at at n) b r c
    → ReadsValue bound (counted_at at) a r c
unfolding counted_at
counted_reads at p q = reads_then _ _ p q

pub counted_fails : {A : Type 0} {bound : ℕ} (at : Read A) {a b : Device} {e : Fault} → ReadsValue {A = ℕ} bound (number_at w64) a (Err e) b → ReadsValue bound (counted_at at) a (Err e) b
unfolding counted_at
counted_fails at p = reads_fails _ _ p

-- ---- so many bytes in blocks

pub parts : (n : ℕ) (bytes xs rest : List ℕ) → bytes_at n bytes ≡ Ok (xs, rest) → (bytes ≡ xs ++ rest) × (length xs ≡ n)
unfolding bytes_at
parts n bytes xs rest e =
    let g = guard_ok (ltb (length bytes) n) refusal.CutOff (take n bytes, drop n bytes) (xs, rest) e in
    let long : n ≤ length bytes = ltb-false _ _ g.0 in
    subst (λ (p : List ℕ × List ℕ). (bytes ≡ p.0 ++ p.1) × (length p.0 ≡ n)) g.1 (sym (take-append-drop n bytes), omega (arith, length-take n bytes))

more_bytes : (n m : ℕ) (bytes xs rest ys after : List ℕ) → bytes_at n bytes ≡ Ok (xs, rest) → bytes_at m rest ≡ Ok (ys, after)
    → bytes_at (n + m) bytes ≡ Ok (xs ++ ys, after)
more_bytes n m bytes xs rest ys after e f =
    let p = parts n bytes xs rest e in let q = parts m rest ys after f in
    ap (bytes_at (n + m)) (p.0 ∙ ap (λ (l : List ℕ). xs ++ l) q.0 ∙ sym (append_assoc xs ys after))
    ∙ bytes_again (n + m) (xs ++ ys) after (let a = length-append xs ys in let s = p.1 in let t = q.1 in omega (arith, a, s, t))

-- Bytes that are cut off.
cut : (n : ℕ) (bytes : List ℕ) → bytes_at n bytes ≡ Err refusal.CutOff → length bytes < n
unfolding bytes_at
cut n bytes e = by (ltb (length bytes) n) refl e
  where
    given : Bool → Result (List ℕ × List ℕ) Refusal
    given t = cond t (Err refusal.CutOff) (Ok (take n bytes, drop n bytes))

    by : (t : Bool) → ltb (length bytes) n ≡ t → given t ≡ Err refusal.CutOff → length bytes < n
    by true is f = ltb-true _ _ is
    by false is f = absurd cc

-- Bytes are cut off, or they are there.
ends_bytes : (n m total : ℕ) (e : Fault) (bytes xs rest : List ℕ) → n + m ≤ total → bytes_at n bytes ≡ Ok (xs, rest) → Fails e (bytes_at m rest) → Fails e (bytes_at total bytes)
unfolding bytes_at
ends_bytes n m total e bytes xs rest le p f = by (ltb (length rest) m) refl f
  where
    cut_so : length rest < m → bytes_at total bytes ≡ Err refusal.CutOff
    cut_so less = let q = parts n bytes xs rest p in let l = ap length q.0 in let s = q.1 in let a = length-append xs rest in
        is_cut total bytes (omega (arith, l, s, a, less, le))

    given : Bool → Result (List ℕ × List ℕ) Refusal
    given t = cond t (Err refusal.CutOff) (Ok (take m rest, drop m rest))

    none : (e : Fault) (y : List ℕ × List ℕ) (z : Result (List ℕ × List ℕ) Refusal) → Fails e (Ok y) → Fails e z
    none fault.Device y z g = tt
    none fault.Memory y z g = tt
    none (fault.Refused refusal) y z g = absurd cc

    by : (t : Bool) → ltb (length rest) m ≡ t → Fails e (given t) → Fails e (bytes_at total bytes)
    by true is g = subst (λ (r : Result (List ℕ × List ℕ) Refusal). Fails e r) (sym (cut_so (ltb-true _ _ is))) g
    by false is g = none e (take m rest, drop m rest) (bytes_at total bytes) g

more_given : (n m : ℕ) (a b c : Option (List ℕ)) (xs ys : List ℕ) → Gave (bytes_at n) a (Ok xs) b → Gave (bytes_at m) b (Ok ys) c → Gave (bytes_at (n + m)) a (Ok (xs ++ ys)) c
more_given n m None b c xs ys p q = tt
more_given n m (Some bytes) None c xs ys p q = absurd p
more_given n m (Some bytes) (Some rest) None xs ys p q = absurd q
more_given n m (Some bytes) (Some rest) (Some after) xs ys p q = more_bytes n m bytes xs rest ys after p q

pub bytes_more : {bound : ℕ} (n m total : ℕ) (a b c : Device) (xs ys : List ℕ) → n + m ≡ total → ReadsValue bound (bytes_at n) a (Ok xs) b → ReadsValue bound (bytes_at m) b (Ok ys) c → ReadsValue bound (bytes_at total) a (Ok (xs ++ ys)) c
bytes_more {bound} n m total a b c xs ys all p q = subst (λ (k : ℕ). ReadsValue bound (bytes_at k) a (Ok (xs ++ ys)) c) all (record {
  gave = more_given n m a.known b.known c.known xs ys p.gave q.gave;
  few = λ l. q.few (p.few l);
  blames = λ fits. let first = p.blames fits in given_then 0 a b c first (q.blames (fits_after 0 a b first));
})

end_given : (n m total : ℕ) (e : Fault) (a b c : Option (List ℕ)) (xs : List ℕ) → n + m ≤ total → Gave (bytes_at n) a (Ok xs) b → Gave {A = List ℕ} (bytes_at m) b (Err e) c → Gave {A = List ℕ} (bytes_at total) a (Err e) c
end_given n m total e None b c xs le p q = tt
end_given n m total e (Some bytes) None c xs le p q = absurd p
end_given n m total e (Some bytes) (Some rest) c xs le p q = ends_bytes n m total e bytes xs rest le p q

pub bytes_end : {bound : ℕ} (n m total : ℕ) (e : Fault) (a b c : Device) (xs : List ℕ) → n + m ≤ total → ReadsValue bound (bytes_at n) a (Ok xs) b → ReadsValue {A = List ℕ} bound (bytes_at m) b (Err e) c → ReadsValue {A = List ℕ} bound (bytes_at total) a (Err e) c
bytes_end {bound} n m total e a b c xs le p q = record {
  gave = end_given n m total e a.known b.known c.known xs le p.gave q.gave;
  few = λ l. q.few (p.few l);
  blames = λ fits. let first = p.blames fits in blames_on {B = List ℕ} 0 bound (Err e) a b c first (q.blames (fits_after 0 a b first));
}

no_bytes : (bytes : List ℕ) → bytes_at 0 bytes ≡ Ok ([], bytes)
no_bytes bytes = bytes_again 0 [] bytes refl

none_given : (a : Option (List ℕ)) → Gave (bytes_at 0) a (Ok []) a
none_given None = tt
none_given (Some bytes) = no_bytes bytes

pub bytes_none : {bound : ℕ} (a : Device) → ReadsValue bound (bytes_at 0) a (Ok []) a
bytes_none a = record { gave = none_given a.known; few = λ l. l; blames = asked_none a }

-- ---- loops

-- What was read before, and what is still read.
abbrev pub with_front : {A : Type 0} → List A → Result (List A × List ℕ) Refusal → Result (List A × List ℕ) Refusal
with_front front read = read >>= λ x. Ok (front ++ x.0, x.1)

abbrev Ahead : {A : Type 0} → Read A → ℕ → Option (List ℕ) → List A → ℕ → Option (List ℕ) → Type 0
Ahead at count None xs left new = Unit {0}
Ahead at count (Some bytes) xs left None = ⊥
Ahead at count (Some bytes) xs left (Some rest) = with_front xs (many_at at left rest) ≡ many_at at count bytes

-- A loop read some of a count, and as many are left.
pub record Goes {A : Type 0} (bound : ℕ) (at : Read A) (count : ℕ) (old : Device) (xs : List A) (left : ℕ) (new : Device) : Type 0 where
  pub ahead : Ahead at count old.known xs left new.known
  pub few : old.calls ≤ bound → new.calls ≤ bound
  pub well : old.passed < 2 ^ 64 → HasGiven 0 old new

same_read : {A : Type 0} (r : Result (List A × List ℕ) Refusal) → with_front [] r ≡ r
same_read (Ok x) = refl
same_read (Err e) = refl

start_ahead : {A : Type 0} (at : Read A) (count : ℕ) (a : Option (List ℕ)) → Ahead at count a [] count a
start_ahead at count None = tt
start_ahead at count (Some bytes) = same_read (many_at at count bytes)

pub goes_start : {A : Type 0} {bound : ℕ} (at : Read A) (count left : ℕ) (a : Device) → left ≡ count → Goes bound at count a [] left a
goes_start {A} {bound} at count left a all = subst (λ (n : ℕ). Goes bound at count a [] n a) (sym all) (record { ahead = start_ahead at count a.known; few = λ l. l; well = asked_none a })

regroup : {A : Type 0} (front : List A) (x : A) (read : Result (List A × List ℕ) Refusal) → with_front front (read >>= λ y. Ok (x ∷ y.0, y.1)) ≡ with_front (front ++ x ∷ []) read
regroup {A} front x (Ok y) = ap (λ (xs : List A). Ok (xs, y.1)) (sym (append_assoc front (x ∷ []) y.0))
regroup front x (Err f) = refl

one_more : {A : Type 0} (at : Read A) (count left : ℕ) (xs : List A) (x : A) (bytes rest after : List ℕ) → with_front xs (many_at at (suc left) rest) ≡ many_at at count bytes
    → at rest ≡ Ok (x, after) → with_front (xs ++ x ∷ []) (many_at at left after) ≡ many_at at count bytes
unfolding many_at
one_more at count left xs x bytes rest after so e =
    sym (regroup xs x (many_at at left after)) ∙ ap (λ (r : Result _ Refusal). with_front xs (r >>= λ first. many_at at left first.1 >>= λ others. Ok (first.0 ∷ others.0, others.1))) (sym e) ∙ so

on_ahead : {A : Type 0} (at : Read A) (count left : ℕ) (a b c : Option (List ℕ)) (xs : List A) (x : A) → Ahead at count a xs (suc left) b → Gave at b (Ok x) c → Ahead at count a (xs ++ x ∷ []) left c
on_ahead at count left None b c xs x p q = tt
on_ahead at count left (Some bytes) None c xs x p q = absurd p
on_ahead at count left (Some bytes) (Some rest) None xs x p q = absurd q
on_ahead at count left (Some bytes) (Some rest) (Some after) xs x p q = one_more at count left xs x bytes rest after p q

pub goes_on : {A : Type 0} {bound : ℕ} (at : Read A) (count more left : ℕ) (a b c : Device) (xs : List A) (x : A) → more ≡ suc left → Goes bound at count a xs more b → ReadsValue bound at b (Ok x) c → Goes bound at count a (xs ++ x ∷ []) left c
goes_on at count more left a b c xs x is p q = record {
  ahead = on_ahead at count left a.known b.known c.known xs x (subst (λ (n : ℕ). Ahead at count a.known xs n b.known) is p.ahead) q.gave;
  few = λ l. q.few (p.few l);
  well = λ fits. let first = p.well fits in given_then 0 a b c first (q.blames (fits_after 0 a b first));
}

one_fails : {A : Type 0} (at : Read A) (count left : ℕ) (e : Fault) (xs : List A) (bytes rest : List ℕ) → with_front xs (many_at at (suc left) rest) ≡ many_at at count bytes
    → Fails e (at rest) → Fails e (many_at at count bytes)
unfolding many_at
one_fails at count left fault.Device xs bytes rest so f = tt
one_fails at count left fault.Memory xs bytes rest so f = tt
one_fails at count left (fault.Refused refusal) xs bytes rest so f =
    sym so ∙ ap (λ (r : Result _ Refusal). with_front xs (r >>= λ first. many_at at left first.1 >>= λ others. Ok (first.0 ∷ others.0, others.1))) f

fails_given : {A : Type 0} (at : Read A) (count left : ℕ) (e : Fault) (a b c : Option (List ℕ)) (xs : List A) → Ahead at count a xs (suc left) b → Gave {A = A} at b (Err e) c → Gave {A = List A} (many_at at count) a (Err e) c
fails_given at count left e None b c xs p q = tt
fails_given at count left e (Some bytes) None c xs p q = absurd p
fails_given at count left e (Some bytes) (Some rest) c xs p q = one_fails at count left e xs bytes rest p q

pub goes_fails : {A : Type 0} {bound : ℕ} (at : Read A) (count more left : ℕ) (e : Fault) (a b c : Device) (xs : List A) → more ≡ suc left → Goes bound at count a xs more b → ReadsValue {A = A} bound at b (Err e) c → ReadsValue {A = List A} bound (many_at at count) a (Err e) c
goes_fails {A} {bound} at count more left e a b c xs is p q = record {
  gave = fails_given at count left e a.known b.known c.known xs (subst (λ (n : ℕ). Ahead at count a.known xs n b.known) is p.ahead) q.gave;
  few = λ l. q.few (p.few l);
  blames = λ fits. let first = p.well fits in
      blames_on {B = List A} 0 bound (Err e) a b c first (blames_as 0 0 bound A (List A) e b c (q.blames (fits_after 0 a b first)));
}

done_given : {A : Type 0} (at : Read A) (count : ℕ) (a b : Option (List ℕ)) (xs : List A) → Ahead at count a xs 0 b → Gave (many_at at count) a (Ok xs) b
unfolding many_at
done_given at count None b xs p = tt
done_given at count (Some bytes) None xs p = absurd p
done_given {A} at count (Some bytes) (Some rest) xs p = sym p ∙ ap (λ (ys : List A). Ok (ys, rest)) (append-nil xs)

pub goes_done : {A : Type 0} {bound : ℕ} (at : Read A) (count left : ℕ) (a b : Device) (xs : List A) → left ≡ 0 → Goes bound at count a xs left b → ReadsValue bound (many_at at count) a (Ok xs) b
goes_done at count left a b xs none p = record {
  gave = done_given at count a.known b.known xs (subst (λ (n : ℕ). Ahead at count a.known xs n b.known) none p.ahead);
  few = p.few;
  blames = p.well;
}

-- No room for one more.
pub goes_starved : {A B : Type 0} {bound : ℕ} (at : Read A) (f : Read B) (count left : ℕ) (a b : Device) (xs : List A) → Goes bound at count a xs left b → ReadsValue bound f a (Err fault.Memory) b
goes_starved at f count left a b xs p = record { gave = starved_given f a.known b.known; few = p.few; blames = λ fits. well_looser a b (p.well fits) }

-- ---- a vector that grows by a room

-- More zeros after some.
pub zeros_on : (count left piece size len : ℕ) (old now next : List ℕ) → piece ≤ left → left ≤ count → size ≡ length now + piece → len ≡ length now → now ≡ old ++ replicate (count - left) 0
    → next ≡ take size now ++ replicate (size - len) 0 → next ≡ old ++ replicate (count - (left - piece)) 0
zeros_on count left piece size len old now next fits within is same all more =
    more ∙ ap (λ (l : List ℕ). l ++ replicate (size - len) 0) (take_all size now (omega (arith, is)) ∙ all) ∙ append_assoc old (replicate (count - left) 0) (replicate (size - len) 0)
    ∙ ap (λ (l : List ℕ). old ++ l) (replicate-append-replicate (count - left) (size - len) 0 ∙ ap (λ (n : ℕ). replicate n 0) (omega (arith, fits, within, is, same)))

pub front_is : (start : ℕ) (old pad longer now front : List ℕ) → start ≡ length old → longer ≡ old ++ pad → now ≡ longer → front ≡ take start now → front ≡ old
front_is start old pad longer now front size is same at = at ∙ ap (λ (l : List ℕ). take start l) (same ∙ is) ∙ take_at old pad start (sym size)

pub adds : {bound : ℕ} (n len : ℕ) (old front room z : List ℕ) (a b : Device) (r : Result Unit Fault) → front ≡ old → len ≡ length front + length room → length room ≡ n
    → ReadsValue bound (bytes_at (length room)) a (shown (λ _. room) r) b → Adds bound n old a r (take len (front ++ room ++ z)) b
adds {bound} n len old front room z a b (Ok u) is size wide p = (
  room,
  take_at (front ++ room) z len (length-append front room ∙ sym size) ∙ ap (λ (l : List ℕ). l ++ room) is,
  wide,
  subst (λ (m : ℕ). ReadsValue bound (bytes_at m) a (Ok room) b) wide p,
)
adds {bound} n len old front room z a b (Err e) is size wide p = subst (λ (m : ℕ). ReadsValue {A = List ℕ} bound (bytes_at m) a (Err e) b) wide p

pub starts_none : {bound : ℕ} (bytes : List ℕ) (a : Device) → bytes ≡ [] → ReadsValue bound (bytes_at (length bytes)) a (Ok bytes) a
starts_none {bound} bytes a none = subst (λ (l : List ℕ). ReadsValue bound (bytes_at (length l)) a (Ok l) a) (sym none) (bytes_none a)

-- A block more.
pub grows : {bound : ℕ} (count left block : ℕ) (bytes after : List ℕ) (a b c : Device) → length bytes + left ≡ count → block ≤ left → ReadsValue bound (bytes_at (length bytes)) a (Ok bytes) b
    → Adds bound block bytes b (Ok tt) after c → (length after + (left - block) ≡ count) × ReadsValue bound (bytes_at (length after)) a (Ok after) c
grows {bound} count left block bytes after a b c all within p q =
    let l = ap length q.1 in let m = length-append bytes q.0 in let n = q.2 in (
      omega (arith, all, within, l, m, n),
      subst (λ (x : List ℕ). ReadsValue bound (bytes_at (length after)) a (Ok x) c) (sym q.1)
          (bytes_more (length bytes) block (length after) a b c bytes q.0 (omega (arith, l, m, n)) p q.3),
    )
