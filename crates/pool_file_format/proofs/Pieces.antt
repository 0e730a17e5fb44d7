-- Pieces that a sink takes one after another.
use Rattle.std.proofs.Common.{◌≡◌, ◌≤◌, ℕ, suc, ◌+◌, ◌<◌, ◌/◌, ◌%◌, List, [], ◌∷◌, ◌++◌, length, map, get_or, take, drop, Option, Result, Ok, Err, refl, sym, ap, subst, ◌∙◌, append_assoc, append-nil, arith}
use Rattle.std.specs.Int.{w16, to_be_bytes}
use Rattle.std.specs.List.{flat_map}
use Rattle.std.proofs.Math.Seq.{drop-cons}
use Rattle.std.proofs.lemmas.List.{take-append-drop, drop_all}
use Rattle.std.proofs.lemmas.Grind.{flat_map-append}
use Rattle.std.proofs.lemmas.List.Concat.{flat_map-cons}
use Rattle.byte_devices.specs.declared.device_fault.DeviceFault.{DeviceFault}
use Rattle.byte_devices.specs.declared.counted.Counted.{Counted}
use Rattle.byte_devices.specs.Device.{Device, device_of, seen}
use Rattle.pool_file_format.specs.declared.gathering.Buffered.{Buffered}
use Rattle.pool_file_format.specs.Format.{number_text}
use Rattle.pool_file_format.specs.Sinks.{Moves, Gives, AddsUp, HasWritten, HasBroken, HasGathered, TookBlocks, FailedBlocks, Writes}

-- A piece, and then what comes after it.
pub then_gives : {S : Type 0} (Took Failed : Moves S) (a b c : S) (r : Result Unit DeviceFault) (xs ys : List ℕ) → AddsUp Took Failed
    → Gives Took Failed a (Ok tt) b xs → Gives Took Failed b r c ys → Gives Took Failed a r c (xs ++ ys)
then_gives Took Failed a b c (Ok u) xs ys laws p q = laws.both a b c xs ys p q
then_gives Took Failed a b c (Err e) xs ys laws p q = laws.later a b c xs ys p q

-- The first piece failed.
pub stops : {S : Type 0} (Took Failed : Moves S) (a b : S) (e : DeviceFault) (xs ys : List ℕ) → AddsUp Took Failed → Gives Took Failed a (Err e) b xs
    → Gives Took Failed a (Err e) b (xs ++ ys)
stops Took Failed a b e xs ys laws p = laws.earlier a b xs ys p

-- The same, where the pieces are known by other names.
pub then_is : {S : Type 0} (Took Failed : Moves S) (a b c : S) (r : Result Unit DeviceFault) (one xs other ys : List ℕ) → AddsUp Took Failed → one ≡ xs → other ≡ ys
    → Gives Took Failed a (Ok tt) b one → Gives Took Failed b r c other → Gives Took Failed a r c (xs ++ ys)
then_is Took Failed a b c r one xs other ys laws is same p q =
    then_gives Took Failed a b c r xs ys laws (subst (λ (l : List ℕ). Took a b l) is p) (subst (λ (l : List ℕ). Gives Took Failed b r c l) same q)

pub stops_is : {S : Type 0} (Took Failed : Moves S) (a b : S) (e : DeviceFault) (one xs ys : List ℕ) → AddsUp Took Failed → one ≡ xs
    → Gives Took Failed a (Err e) b one → Gives Took Failed a (Err e) b (xs ++ ys)
stops_is Took Failed a b e one xs ys laws is p = stops Took Failed a b e xs ys laws (subst (λ (l : List ℕ). Failed a b l) is p)

-- The second of three pieces failed.
pub stops_later : {S : Type 0} (Took Failed : Moves S) (a b c : S) (one xs other ys zs : List ℕ) → AddsUp Took Failed → one ≡ xs → other ≡ ys
    → Took a b one → Failed b c other → Failed a c (xs ++ (ys ++ zs))
stops_later Took Failed a b c one xs other ys zs laws is same p q =
    laws.later a b c xs (ys ++ zs) (subst (λ (l : List ℕ). Took a b l) is p) (laws.earlier b c ys zs (subst (λ (l : List ℕ). Failed b c l) same q))

-- A length in two bytes is cut to them.
pub short_length : (n m : ℕ) → m ≡ n % 65536 → to_be_bytes w16 m ≡ to_be_bytes w16 n
short_length n m is = let a : m / 256 % 256 ≡ n / 256 % 256 = omega (arith, is) in let b : m % 256 ≡ n % 256 = omega (arith, is) in rw (a, b) refl

-- ---- loops

-- A sink took some of a text, and this is left of it.
pub record HasTaken {S : Type 0} (Took : Moves S) (a b : S) (whole left : List ℕ) : Type 0 where
  pub done : List ℕ
  pub took : Took a b done
  pub parts : whole ≡ done ++ left

pub taken_start : {S : Type 0} (Took Failed : Moves S) (a : S) (whole : List ℕ) → AddsUp Took Failed → HasTaken Took a a whole whole
taken_start Took Failed a whole laws = record { done = []; took = laws.none a; parts = refl }

pub taken_on : {S : Type 0} (Took Failed : Moves S) (a b c : S) (whole left piece more : List ℕ) → AddsUp Took Failed → left ≡ piece ++ more
    → HasTaken Took a b whole left → Gives Took Failed b (Ok tt) c piece → HasTaken Took a c whole more
taken_on Took Failed a b c whole left piece more laws is p q = record {
  done = p.done ++ piece;
  took = laws.both a b c p.done piece p.took q;
  parts = p.parts ∙ ap (λ (l : List ℕ). p.done ++ l) is ∙ sym (append_assoc p.done piece more);
}

pub taken_fails : {S : Type 0} (Took Failed : Moves S) (a b c : S) (e : DeviceFault) (whole left piece more : List ℕ) → AddsUp Took Failed → left ≡ piece ++ more
    → HasTaken Took a b whole left → Gives Took Failed b (Err e) c piece → Gives Took Failed a (Err e) c whole
taken_fails Took Failed a b c e whole left piece more laws is p q =
    subst (λ (l : List ℕ). Failed a c l) (sym (p.parts ∙ ap (λ (l : List ℕ). p.done ++ l) is ∙ sym (append_assoc p.done piece more)))
    (laws.earlier a c (p.done ++ piece) more (laws.later a b c p.done piece p.took q))

pub taken_done : {S : Type 0} (Took : Moves S) (a b : S) (whole left : List ℕ) → left ≡ [] → HasTaken Took a b whole left → Took a b whole
taken_done Took a b whole left none p =
    subst (λ (l : List ℕ). Took a b l) (sym (p.parts ∙ ap (λ (l : List ℕ). p.done ++ l) none ∙ append-nil p.done)) p.took

-- A block of numbers was taken.
pub numbers_on : {S : Type 0} (Took Failed : Moves S) (a b c : S) (whole left few more text : List ℕ) (n : ℕ) → AddsUp Took Failed → few ≡ take n left → more ≡ drop n left
    → text ≡ flat_map number_text few → HasTaken Took a b whole (flat_map number_text left) → Took b c text → HasTaken Took a c whole (flat_map number_text more)
numbers_on Took Failed a b c whole left few more text n laws front back is p q =
    taken_on Took Failed a b c whole (flat_map number_text left) text (flat_map number_text more) laws
    (ap (λ (l : List ℕ). flat_map number_text l) (sym (take-append-drop n left) ∙ ap (λ (l : List ℕ). l ++ drop n left) (sym front) ∙ ap (λ (l : List ℕ). few ++ l) (sym back)) ∙ flat_map-append number_text few more
    ∙ ap (λ (l : List ℕ). l ++ flat_map number_text more) (sym is)) p q

pub item_next : {X : Type 0} (xs : List X) (i : ℕ) (x : X) → i < length xs → x ≡ get_or xs i x → drop i xs ≡ x ∷ drop (i + 1) xs
item_next xs i x less is = let e : suc i ≡ i + 1 = omega arith in
    drop-cons xs i x less ∙ ap (λ y. y ∷ drop (suc i) xs) (sym is) ∙ ap (λ (n : ℕ). x ∷ drop n xs) e

-- The texts of what values show: those at a place, and after the last one.
pub texts_next : {X Y : Type 0} (view : X → Y) (text : Y → List ℕ) (xs : List X) (i : ℕ) (x : X) → i < length xs → x ≡ get_or xs i x
    → flat_map text (map view (drop i xs)) ≡ text (view x) ++ flat_map text (map view (drop (i + 1) xs))
texts_next view text xs i x less is = ap (λ l. flat_map text (map view l)) (item_next xs i x less is) ∙ flat_map-cons text (view x) (map view (drop (i + 1) xs))

pub texts_done : {X Y : Type 0} (view : X → Y) (text : Y → List ℕ) (xs : List X) (i : ℕ) → length xs ≤ i → flat_map text (map view (drop i xs)) ≡ []
texts_done view text xs i all = ap (λ l. flat_map text (map view l)) (drop_all i xs all)

-- ---- blocks

-- What waited was sent, and then nothing waits, and a piece goes on as it is.
pub gathers_gives : {S : Type 0} (Took Failed : Moves S) (old new : Buffered S) (b : S) (r : Result Unit DeviceFault) (bytes : List ℕ) → AddsUp Took Failed
    → new.sink.ghost_name ≡ old.sink.ghost_name → new.block.items ≡ [] → Took old.sink.now b old.block.items → Gives Took Failed b r new.sink.now bytes
    → Gives {S = Buffered S} (TookBlocks Took) (FailedBlocks Failed) old r new bytes
gathers_gives Took Failed old new b (Ok u) bytes laws same none p q = (
  same,
  record {
    sent = old.block.items ++ bytes;
    took = laws.both old.sink.now b new.sink.now old.block.items bytes p q;
    parts = sym (ap (λ (l : List ℕ). (old.block.items ++ bytes) ++ l) none ∙ append-nil (old.block.items ++ bytes));
  },
)
gathers_gives Took Failed old new b (Err e) bytes laws same none p q = (same, laws.later old.sink.now b new.sink.now old.block.items bytes p q)

-- Where nothing waited, a text was gathered, and what waits then is passed on.
pub blocks_done : {S : Type 0} (Took Failed : Moves S) (a b c : S) (r : Result Unit DeviceFault) (waited waits text : List ℕ) → AddsUp Took Failed → waited ≡ []
    → HasGathered Took a b waited waits text → Gives Took Failed b r c waits → Gives Took Failed a r c text
blocks_done Took Failed a b c r waited waits text laws none p q =
    subst (λ (l : List ℕ). Gives Took Failed a r c l) (sym p.parts ∙ ap (λ (l : List ℕ). l ++ text) none)
    (then_gives Took Failed a b c r p.sent waits laws p.took q)

-- Where nothing waited, the sink failed at the text alone.
pub blocks_failed : {S : Type 0} (Failed : Moves S) (a b : S) (waited text : List ℕ) → waited ≡ [] → Failed a b (waited ++ text) → Failed a b text
blocks_failed Failed a b waited text none p = subst (λ (l : List ℕ). Failed a b (l ++ text)) none p

-- ---- writers

-- What a writer took as a sink is what was written.
pub as_writes : {W : Type 0} (contents : W → Option (List ℕ)) (a b : Counted W) (r : Result Unit DeviceFault) (bytes : List ℕ)
    → Gives {S = Counted W} (λ old new bytes. HasWritten (seen (contents (device_of old)) old) (seen (contents (device_of new)) new) bytes)
    (λ old new bytes. HasBroken (seen (contents (device_of old)) old) (seen (contents (device_of new)) new) bytes) a r b bytes
    → Writes (seen (contents (device_of a)) a) r (seen (contents (device_of b)) b) bytes
as_writes contents a b (Ok u) bytes p = p
as_writes contents a b (Err e) bytes p = p

pub err_writes : (a b : Device) (r : Result Unit DeviceFault) (e : DeviceFault) (bytes : List ℕ) → r ≡ Err e → HasBroken a b bytes → Writes a r b bytes
err_writes a b r e bytes is p = subst (λ (x : Result Unit DeviceFault). Writes a x b bytes) (sym is) p
