-- What calls of readers and writers, one after the other, do to known bytes.
use Rattle.std.proofs.Common.{◌≡◌, ℕ, List, [], ◌++◌, Option, None, Some, refl, sym, ap, ◌∙◌, append_assoc, append-nil, arith}
use Rattle.std.proofs.lemmas.List.{length-append}
use Rattle.std.specs.Io.KnownBytes.{Keeps, Appends, Consumes}
use Rattle.byte_devices.specs.Device.{Device, HasRead}

pub Keeps-refl : (a : Option (List ℕ)) → Keeps a a
Keeps-refl None = tt
Keeps-refl (Some x) = refl

pub Keeps-trans : (a b c : Option (List ℕ)) → Keeps a b → Keeps b c → Keeps a c
Keeps-trans None b c p q = tt
Keeps-trans (Some x) None c p q = absurd p
Keeps-trans (Some x) (Some y) None p q = absurd q
Keeps-trans (Some x) (Some y) (Some z) p q = q ∙ p

pub Consumes-nil : (a : Option (List ℕ)) → Consumes a a []
Consumes-nil None = tt
Consumes-nil (Some x) = refl

pub Consumes-trans : (a b c : Option (List ℕ)) (bs cs : List ℕ) → Consumes a b bs → Consumes b c cs
    → Consumes a c (bs ++ cs)
Consumes-trans None b c bs cs p q = tt
Consumes-trans (Some x) None c bs cs p q = absurd p
Consumes-trans (Some x) (Some y) None bs cs p q = absurd q
Consumes-trans (Some x) (Some y) (Some z) bs cs p q =
    p ∙ ap (λ l. bs ++ l) q ∙ sym (append_assoc bs cs z)

pub Consumes-kept : (a b c : Option (List ℕ)) (bs : List ℕ) → Consumes a b bs → Keeps b c
    → Consumes a c bs
Consumes-kept None b c bs p q = tt
Consumes-kept (Some x) None c bs p q = absurd p
Consumes-kept (Some x) (Some y) None bs p q = absurd q
Consumes-kept (Some x) (Some y) (Some z) bs p q = p ∙ ap (λ l. bs ++ l) (sym q)

pub Appends-nil : (a : Option (List ℕ)) → Appends a a []
Appends-nil None = tt
Appends-nil (Some x) = sym (append-nil x)

pub Appends-trans : (a b c : Option (List ℕ)) (bs cs : List ℕ) → Appends a b bs → Appends b c cs
    → Appends a c (bs ++ cs)
Appends-trans None b c bs cs p q = tt
Appends-trans (Some x) None c bs cs p q = absurd p
Appends-trans (Some x) (Some y) None bs cs p q = absurd q
Appends-trans (Some x) (Some y) (Some z) bs cs p q = q ∙ ap (λ l. l ++ cs) p ∙ append_assoc x bs cs

pub Appends-kept : (a b c : Option (List ℕ)) (bs : List ℕ) → Appends a b bs → Keeps b c
    → Appends a c bs
Appends-kept None b c bs p q = tt
Appends-kept (Some x) None c bs p q = absurd p
Appends-kept (Some x) (Some y) None bs p q = absurd q
Appends-kept (Some x) (Some y) (Some z) bs p q = q ∙ p

-- ---- bytes that a device gave, one call after another

pub HasRead-trans : (a b c : Device) (xs ys : List ℕ) → HasRead a b xs → HasRead b c ys
    → HasRead a c (xs ++ ys)
HasRead-trans a b c xs ys first later = record {
  consumed = Consumes-trans a.known b.known c.known xs ys first.consumed later.consumed;
  passed =
      let p = later.passed in let q = first.passed in let n = length-append xs ys in omega (arith, p, q, n);
}

-- a call that gave nothing
pub HasRead-kept : (a b c : Device) (xs : List ℕ) → HasRead a b xs → Keeps b.known c.known
    → c.passed ≡ b.passed → HasRead a c xs
HasRead-kept a b c xs had keeps passed = record {
  consumed = Consumes-kept a.known b.known c.known xs had.consumed keeps;
  passed = passed ∙ had.passed;
}
