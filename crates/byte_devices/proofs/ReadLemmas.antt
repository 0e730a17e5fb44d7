-- Bytes that were read, one call after another.
use Rattle.std.proofs.Common.{◌≡◌, ℕ, zero, suc, ◌+◌, ◌^◌, ◌<◌, List, [], ◌∷◌, ◌++◌, length, take, get_or, refl, sym, ap, subst, ◌∙◌, append-nil, arith}
use Rattle.std.proofs.lemmas.List.{length-append}
use Rattle.std.specs.Io.KnownBytes.{Consumes, Keeps, IsAtEnd}
use Rattle.byte_devices.specs.Device.{Device, HasFault, counted_on}
use Rattle.byte_devices.proofs.KnownBytes.{Consumes-nil, HasRead-trans, HasRead-kept}
use Rattle.byte_devices.specs.Reading.{AreBytes, IsShort, HasReadWell, HasReadAll, HasFailed}

pub well_none : (old : Device) → old.passed < 2 ^ 64 → HasReadWell old old []
well_none old fits = record {
  read = record { consumed = Consumes-nil old.known; passed = omega (arith, fits) };
  well = refl;
}

pub well_more : (a b c : Device) (xs ys : List ℕ) → HasReadWell a b xs → HasReadWell b c ys
    → HasReadWell a c (xs ++ ys)
well_more a b c xs ys first later = record {
  read = HasRead-trans a b c xs ys first.read later.read;
  well = later.well ∙ first.well;
}

pub all_more : (a b c : Device) (xs ys : List ℕ) → HasReadWell a b xs → HasReadAll b c ys
    → HasReadAll a c (xs ++ ys)
all_more a b c xs ys first later = record { read = well_more a b c xs ys first later.read; end = later.end }

pub failed_more : (a b c : Device) (xs ys : List ℕ) → HasReadWell a b xs → HasFailed b c ys
    → HasFailed a c (xs ++ ys)
failed_more a b c xs ys first later = record {
  read = HasRead-trans a b c xs ys first.read later.read;
  fault = subst (λ (n : ℕ). HasFault n c.faults) first.well later.fault;
}

-- One call of `read` gave the first bytes of its buffer.
pub one_well : (old new : Device) (n : ℕ) (buf : List ℕ) → n ≡ length (take n buf)
    → Consumes old.known new.known (take n buf) → new.passed ≡ counted_on old.passed n
    → new.faults ≡ old.faults
    → HasReadWell old new (take n buf)
one_well old new n buf size consumed passed faults = record {
  read = record { consumed = consumed; passed = passed ∙ ap (counted_on old.passed) size };
  well = faults;
}

-- One call failed, after bytes that were read.
pub one_failed : (a b c : Device) (xs : List ℕ) → HasReadWell a b xs → Keeps b.known c.known
    → c.passed ≡ b.passed
    → c.faults ≡ counted_on b.faults 1 → HasFailed a c xs
one_failed a b c xs had keeps passed faults = record {
  read = HasRead-kept a b c xs had.read keeps passed;
  fault = faults ∙ ap (λ (n : ℕ). counted_on n 1) had.well;
}

-- ---- the front of a room

front_more : (front buf : List ℕ) (n : ℕ)
    → take (length front + n) (front ++ buf) ≡ front ++ take n buf
front_more [] buf n =
    let e : length {A = ℕ} [] + n ≡ n = omega arith in ap (λ (m : ℕ). take m buf) e
front_more (x ∷ front) buf n =
    let e : length (x ∷ front) + n ≡ suc (length front + n) = omega arith in
    ap (λ (m : ℕ). take m (x ∷ front ++ buf)) e
    ∙ ap (λ (l : List ℕ). x ∷ l) (front_more front buf n)

small_front : (front buf : List ℕ) → ((i : ℕ) → get_or (front ++ buf) i 0 < 256) → (i : ℕ)
    → get_or front i 0 < 256
small_front [] buf small i = omega arith
small_front (x ∷ front) buf small zero = small 0
small_front (x ∷ front) buf small (suc i) = small_front front buf (λ j. small (suc j)) i

-- The front of a room lacks what is behind it.
pub short_front : (front buf : List ℕ) → AreBytes (front ++ buf) → 0 < length buf
    → IsShort (length (front ++ buf)) front
short_front front buf bytes more = record {
  lacks = let a = length-append front buf in omega (arith, a, more);
  small = small_front front buf bytes;
}

-- The first bytes of a buffer were read after the front of a room.
pub room_more : (a b c : Device) (room front buf : List ℕ) (filled n : ℕ) → front ≡ take filled room
    → length front ≡ filled
    → HasReadWell a b (take filled room) → HasReadWell b c (take n buf)
    → HasReadWell a c (take (filled + n) (front ++ buf))
room_more a b c room front buf filled n is size first later =
    subst (λ (l : List ℕ). HasReadWell a c l)
    (ap (λ (l : List ℕ). l ++ take n buf) (sym is) ∙ sym (front_more front buf n) ∙ ap (λ (m : ℕ). take (m + n) (front ++ buf)) size)
    (well_more a b c (take filled room) (take n buf) first later)

-- The reader was at its end after the front of a room.
pub room_ends : (a b c : Device) (room front buf : List ℕ) (filled : ℕ) → front ≡ take filled room
    → HasReadWell a b (take filled room) → HasReadWell b c (take 0 buf) → IsAtEnd c.known
    → HasReadAll a c front
room_ends a b c room front buf filled is first later end = record {
  read = subst (λ (l : List ℕ). HasReadWell a c l) (append-nil (take filled room) ∙ sym is)
      (well_more a b c (take filled room) [] first later);
  end = end;
}

-- A call failed after the front of a room.
pub room_fails : (a b c : Device) (room front : List ℕ) (filled : ℕ) → front ≡ take filled room
    → HasReadWell a b (take filled room) → Keeps b.known c.known → c.passed ≡ b.passed
    → c.faults ≡ counted_on b.faults 1 → HasFailed a c front
room_fails a b c room front filled is first keeps passed faults =
    subst (λ (l : List ℕ). HasFailed a c l) (sym is)
    (one_failed a b c (take filled room) first keeps passed faults)

-- A call gave nothing.
pub one_empty : (old new : Device) (n : ℕ) (buf : List ℕ) → n ≡ 0
    → Consumes old.known new.known (take n buf)
    → new.passed ≡ counted_on old.passed n → new.faults ≡ old.faults
    → HasReadWell old new (take 0 buf)
one_empty old new n buf none consumed passed faults = record {
  read = record {
    consumed = subst (λ (m : ℕ). Consumes old.known new.known (take m buf)) none consumed;
    passed = passed ∙ ap (counted_on old.passed) none;
  };
  well = faults;
}
