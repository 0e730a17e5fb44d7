-- A text that is written in two parts.
use Rattle.std.proofs.Common.{◌≡◌, ℕ, ◌+◌, ◌-◌, List, ◌++◌, length, take, Option, sym, ap, ◌∙◌, append_assoc, arith}
use Rattle.std.proofs.Math.Seq.{take-append_seam}
use Rattle.std.proofs.lemmas.List.{length-append}
use Rattle.std.proofs.lemmas.Slice.{take-put_mid}
use borrow.Rule.Slice.PartMut.{put_mid}
use Rattle.std.specs.Io.KnownBytes.{Appends}
use Rattle.byte_devices.specs.Device.{AppendsFront}
use Rattle.byte_devices.proofs.KnownBytes.{Appends-trans}

-- A front of the first part was written.
pub front_of_first : (a b : Option (List ℕ)) (first later : List ℕ) → AppendsFront a b first → AppendsFront a b (first ++ later)
front_of_first a b first later f = record {
  front = f.front;
  rest = f.rest ++ later;
  parts = ap (λ (l : List ℕ). l ++ later) f.parts ∙ append_assoc f.front f.rest later;
  appends = f.appends;
}

-- The first part was written, and a front of the other.
pub front_of_later : (a b c : Option (List ℕ)) (first later : List ℕ) → Appends a b first → AppendsFront b c later → AppendsFront a c (first ++ later)
front_of_later a b c first later written f = record {
  front = first ++ f.front;
  rest = f.rest;
  parts = ap (λ (l : List ℕ). first ++ l) f.parts ∙ sym (append_assoc first f.front f.rest);
  appends = Appends-trans a b c first f.front written f.appends;
}

-- Two parts are put into room that is long enough, one after the other.
pub take-joined : (a b first later room : List ℕ) (n k : ℕ) → a ≡ first → b ≡ later → length first ≡ n → length later ≡ k
    → take (n + k) (put_mid n (n + k - n) (a ++ room) b) ≡ first ++ later
take-joined a b first later room n k one other long more =
    let whole : length (a ++ room) ≡ length a + length room = length-append a room in
    let longer : length a ≡ n = ap length one ∙ long in
    let further : length b ≡ k = ap length other ∙ more in
    take-put_mid n (n + k - n) (a ++ room) b (n + k) (omega (arith, further)) (omega (arith, whole, longer))
    ∙ ap (λ (l : List ℕ). l ++ b) (ap (λ (m : ℕ). take m (a ++ room)) (sym longer) ∙ take-append_seam a room)
    ∙ ap (λ (l : List ℕ). l ++ b) one ∙ ap (λ (l : List ℕ). first ++ l) other
