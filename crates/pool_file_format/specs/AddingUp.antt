-- Pieces add up (`AddsUp`) for each sink: a writer, a digest, and a sink in front of another sink.
use Rattle.std.proofs.Common.{◌≡◌, ℕ, List, [], ◌++◌, Option, refl, sym, ap, subst, ◌∙◌, append_assoc, append-nil}
use Rattle.std.specs.Io.KnownBytes.{Appends}
use Rattle.byte_devices.specs.declared.counted.Counted.{Counted}
use Rattle.byte_devices.specs.Device.{Device, AppendsFront, HasFault, device_of, seen}
use Rattle.byte_devices.proofs.KnownBytes.{Appends-nil, Appends-trans}
use Rattle.pool_file_format.specs.declared.digesting.Fed.{Fed}
use Rattle.pool_file_format.specs.declared.gathering.HashingWriter.{HashingWriter}
use Rattle.pool_file_format.specs.declared.gathering.Buffered.{Buffered}
use Rattle.pool_file_format.specs.Sinks.{Moves, AddsUp, HasWritten, HasBroken, Goes, HasGathered, TookBoth, FailedBoth, TookBlocks, FailedBlocks}

later_front : (a b c : Option (List ℕ)) (xs ys : List ℕ) → Appends a b xs → AppendsFront b c ys
    → AppendsFront a c (xs ++ ys)
later_front a b c xs ys p q = record {
  front = xs ++ q.front;
  rest = q.rest;
  parts = ap (λ (l : List ℕ). xs ++ l) q.parts ∙ sym (append_assoc xs q.front q.rest);
  appends = Appends-trans a b c xs q.front p q.appends;
}

earlier_front : (a b : Option (List ℕ)) (xs ys : List ℕ) → AppendsFront a b xs
    → AppendsFront a b (xs ++ ys)
earlier_front a b xs ys p = record {
  front = p.front;
  rest = p.rest ++ ys;
  parts = ap (λ (l : List ℕ). l ++ ys) p.parts ∙ append_assoc p.front p.rest ys;
  appends = p.appends;
}

-- What a contract sees of a counted writer whose bytes are known by `contents`.
abbrev state : {W : Type 0} → (W → Option (List ℕ)) → Counted W → Device
state contents a = seen (contents (device_of a)) a

written_on : (a b c : Device) (xs ys : List ℕ) → HasWritten a b xs → HasWritten b c ys
    → HasWritten a c (xs ++ ys)
written_on a b c xs ys p q = record {
  appends = Appends-trans a.known b.known c.known xs ys p.appends q.appends;
  well = q.well ∙ p.well;
}

broken_later : (a b c : Device) (xs ys : List ℕ) → HasWritten a b xs → HasBroken b c ys
    → HasBroken a c (xs ++ ys)
broken_later a b c xs ys p q = record {
  front = later_front a.known b.known c.known xs ys p.appends q.front;
  fault = subst (λ (n : ℕ). HasFault n c.faults) p.well q.fault;
}

broken_earlier : (a b : Device) (xs ys : List ℕ) → HasBroken a b xs → HasBroken a b (xs ++ ys)
broken_earlier a b xs ys p =
    record { front = earlier_front a.known b.known xs ys p.front; fault = p.fault }

pub writers_add_up : {W : Type 0} (contents : W → Option (List ℕ)) → AddsUp {S = Counted W}
    (λ old new bytes. HasWritten (state contents old) (state contents new) bytes)
    (λ old new bytes. HasBroken (state contents old) (state contents new) bytes)
writers_add_up contents = record {
  none = λ a. record { appends = Appends-nil (contents (device_of a)); well = refl };
  both = λ a b c. written_on (state contents a) (state contents b) (state contents c);
  later = λ a b c. broken_later (state contents a) (state contents b) (state contents c);
  earlier = λ a b. broken_earlier (state contents a) (state contents b);
}

goes_nowhere : {D : Type 0} (Holds : D → List ℕ → Type 0) (a : D) → Goes Holds a a []
goes_nowhere Holds a message h = subst (λ (l : List ℕ). Holds a l) (sym (append-nil message)) h

goes_on : {D : Type 0} (Holds : D → List ℕ → Type 0) (a b c : D) (xs ys : List ℕ)
    → Goes Holds a b xs → Goes Holds b c ys → Goes Holds a c (xs ++ ys)
goes_on Holds a b c xs ys p q message h = subst (λ (l : List ℕ). Holds c l)
    (append_assoc message xs ys) (q (message ++ xs) (p message h))

pub fed_adds_up : {D : Type 0} (Holds : D → List ℕ → Type 0) → AddsUp {S = Fed D}
    (λ old new bytes. Goes Holds old.running new.running bytes) (λ old new bytes. ⊥)
fed_adds_up Holds = record {
  none = λ a. goes_nowhere Holds a.running;
  both = λ a b c. goes_on Holds a.running b.running c.running;
  later = λ a b c xs ys p q. q;
  earlier = λ a b xs ys p. p;
}

module _ {D S : Type 0} (Holds : D → List ℕ → Type 0) (Took Failed : Moves S)
    (laws : AddsUp Took Failed) where
  both_none : (a : HashingWriter D S) → TookBoth Holds Took a a []
  both_none a = (refl, (refl, (goes_nowhere Holds a.running.now, laws.none a.sink.now)))

  both_on : (a b c : HashingWriter D S) (xs ys : List ℕ) → TookBoth Holds Took a b xs
      → TookBoth Holds Took b c ys → TookBoth Holds Took a c (xs ++ ys)
  both_on a b c xs ys p q =
      let goes = goes_on Holds a.running.now b.running.now c.running.now xs ys p.1.1.0 q.1.1.0 in
      let took = laws.both a.sink.now b.sink.now c.sink.now xs ys p.1.1.1 q.1.1.1 in
      (q.0 ∙ p.0, (q.1.0 ∙ p.1.0, (goes, took)))

  both_later : (a b c : HashingWriter D S) (xs ys : List ℕ) → TookBoth Holds Took a b xs
      → FailedBoth Failed b c ys → FailedBoth Failed a c (xs ++ ys)
  both_later a b c xs ys p q =
      let failed = laws.later a.sink.now b.sink.now c.sink.now xs ys p.1.1.1 q.1.1 in
      (q.0 ∙ p.0, (q.1.0 ∙ p.1.0, failed))

  pub digested_adds_up : AddsUp {S = HashingWriter D S} (TookBoth Holds Took) (FailedBoth Failed)
  digested_adds_up = record {
    none = both_none;
    both = both_on;
    later = both_later;
    earlier = λ a b xs ys p. (p.0, (p.1.0, laws.earlier a.sink.now b.sink.now xs ys p.1.1));
  }

-- A text `xs` was gathered: of what had waited and `xs`, the sink got `sent`, and the rest waits.
-- If a text `ys` follows, `sent` is still the beginning of all three.
sent_before : (waited xs ys sent waits : List ℕ) → waited ++ xs ≡ sent ++ waits
    → waited ++ (xs ++ ys) ≡ sent ++ (waits ++ ys)
sent_before waited xs ys sent waits parts =
    sym (append_assoc waited xs ys) ∙ ap (λ (l : List ℕ). l ++ ys) parts
    ∙ append_assoc sent waits ys

gathers_both : {S : Type 0} (Took Failed : Moves S) → AddsUp Took Failed
    → (a b c : S) (waited between waits xs ys : List ℕ) → HasGathered Took a b waited between xs
    → HasGathered Took b c between waits ys → HasGathered Took a c waited waits (xs ++ ys)
gathers_both Took Failed laws a b c waited between waits xs ys p q = record {
  sent = p.sent ++ q.sent;
  took = laws.both a b c p.sent q.sent p.took q.took;
  parts = sent_before waited xs ys p.sent between p.parts ∙ ap (λ (l : List ℕ). p.sent ++ l) q.parts
      ∙ sym (append_assoc p.sent q.sent waits);
}

gathers_later : {S : Type 0} (Took Failed : Moves S) → AddsUp Took Failed
    → (a b c : S) (waited between xs ys : List ℕ) → HasGathered Took a b waited between xs
    → Failed b c (between ++ ys) → Failed a c (waited ++ (xs ++ ys))
gathers_later Took Failed laws a b c waited between xs ys p q =
    subst (λ (l : List ℕ). Failed a c l) (sym (sent_before waited xs ys p.sent between p.parts))
    (laws.later a b c p.sent (between ++ ys) p.took q)

module _ {S : Type 0} (Took Failed : Moves S) (laws : AddsUp Took Failed) where
  blocks_none : (a : Buffered S) → TookBlocks Took a a []
  blocks_none a = (
    refl,
    record { sent = []; took = laws.none a.sink.now; parts = append-nil a.block.items },
  )

  blocks_on : (a b c : Buffered S) (xs ys : List ℕ) → TookBlocks Took a b xs
      → TookBlocks Took b c ys → TookBlocks Took a c (xs ++ ys)
  blocks_on a b c xs ys p q = (
    q.0 ∙ p.0,
    gathers_both Took Failed laws a.sink.now b.sink.now c.sink.now
        a.block.items b.block.items c.block.items xs ys p.1 q.1,
  )

  blocks_later : (a b c : Buffered S) (xs ys : List ℕ) → TookBlocks Took a b xs
      → FailedBlocks Failed b c ys → FailedBlocks Failed a c (xs ++ ys)
  blocks_later a b c xs ys p q = (
    q.0 ∙ p.0,
    gathers_later Took Failed laws a.sink.now b.sink.now c.sink.now
        a.block.items b.block.items xs ys p.1 q.1,
  )

  blocks_earlier : (a b : Buffered S) (xs ys : List ℕ) → FailedBlocks Failed a b xs
      → FailedBlocks Failed a b (xs ++ ys)
  blocks_earlier a b xs ys p = (
    p.0,
    subst (λ (l : List ℕ). Failed a.sink.now b.sink.now l) (append_assoc a.block.items xs ys)
        (laws.earlier a.sink.now b.sink.now (a.block.items ++ xs) ys p.1),
  )

  pub gathered_adds_up : AddsUp {S = Buffered S} (TookBlocks Took) (FailedBlocks Failed)
  gathered_adds_up = record {
    none = blocks_none;
    both = blocks_on;
    later = blocks_later;
    earlier = blocks_earlier;
  }
