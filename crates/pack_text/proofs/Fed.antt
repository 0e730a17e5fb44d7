-- A writer in blocks: bytes that wait, bytes that go on, and bytes that the device fails at.
use Rattle.std.proofs.Common.{◌≡◌, ℕ, List, [], ◌++◌, Option, Result, Ok, Err, refl, sym, ap, subst, ◌∙◌, append_assoc, append-nil}
use Rattle.std.specs.Global.{Vec}
use Rattle.byte_devices.specs.declared.counted.Counted.{Counted}
use Rattle.byte_devices.specs.declared.device_fault.DeviceFault.{DeviceFault}
use Rattle.pool_file_format.specs.Sinks.{Gives, Goes, HasWritten, HasBroken, Writes}
use Rattle.pool_file_format.specs.AddingUp.{writers_add_up}
use Rattle.pool_file_format.proofs.Pieces.{then_gives}
use Rattle.pack_text.specs.AddingUp.{blocks_add_up}
use Rattle.pack_text.specs.declared.block_writer.BlockWriter.{BlockWriter}
use Rattle.pack_text.specs.BlockWriting.{seen_by, IsFed, TookBlocks, FailedBlocks}

-- What is sent now and what comes after it follow what was sent before.
on_text : (text bytes before waited sent rest : List ℕ) → text ≡ before ++ waited
    → waited ++ bytes ≡ sent ++ rest → text ++ bytes ≡ (before ++ sent) ++ rest
on_text text bytes before waited sent rest is parts =
    ap (λ (l : List ℕ). l ++ bytes) is ∙ append_assoc before waited bytes
    ∙ ap (λ (l : List ℕ). before ++ l) parts ∙ sym (append_assoc before sent rest)

module _ {D W : Type 0} (Holds : D → List ℕ → Type 0) (contents : W → Option (List ℕ)) where
  -- Of what waited and these bytes, some was sent, and the rest waits.
  fed_sent : (start : Counted W) (old new : BlockWriter D W) (text bytes sent : List ℕ)
      → old.block.items ++ bytes ≡ sent ++ new.block.items
      → Goes Holds old.running new.running sent
      → HasWritten (seen_by contents old.writer.now) (seen_by contents new.writer.now) sent
      → IsFed Holds contents start old text → IsFed Holds contents start new (text ++ bytes)
  fed_sent start old new text bytes sent parts goes written was = record {
    sent = was.sent ++ sent;
    digested = goes was.sent was.digested;
    written = (writers_add_up contents).both start old.writer.now new.writer.now was.sent sent
        was.written written;
    parts = on_text text bytes was.sent old.block.items sent new.block.items was.parts parts;
  }

  -- The device failed at some of what waited and these bytes.
  fed_fails : (start : Counted W) (old : BlockWriter D W) (now : Counted W)
      (text bytes sent rest : List ℕ) → old.block.items ++ bytes ≡ sent ++ rest
      → HasBroken (seen_by contents old.writer.now) (seen_by contents now) sent
      → IsFed Holds contents start old text
      → HasBroken (seen_by contents start) (seen_by contents now) (text ++ bytes)
  fed_fails start old now text bytes sent rest parts broken was =
      subst (λ (l : List ℕ). HasBroken (seen_by contents start) (seen_by contents now) l)
      (sym (on_text text bytes was.sent old.block.items sent rest was.parts parts))
      ((writers_add_up contents).earlier start now (was.sent ++ sent) rest
      ((writers_add_up contents).later start old.writer.now now was.sent sent
      was.written broken))

  -- All bytes wait.
  pub fed_waits : (old new : BlockWriter D W) (bytes : List ℕ)
      → new.writer.ghost_name ≡ old.writer.ghost_name → new.running ≡ old.running
      → new.writer.now ≡ old.writer.now → new.block.items ≡ old.block.items ++ bytes
      → TookBlocks Holds contents old new bytes
  fed_waits old new bytes same running writer is = (
    same,
    λ start text was. record {
      sent = was.sent;
      digested = subst (λ (r : D). Holds r was.sent) (sym running) was.digested;
      written = subst (λ (w : Counted W). HasWritten (seen_by contents start) (seen_by contents w) was.sent)
          (sym writer) was.written;
      parts = ap (λ (l : List ℕ). l ++ bytes) was.parts
          ∙ append_assoc was.sent old.block.items bytes
          ∙ ap (λ (l : List ℕ). was.sent ++ l) (sym is);
    },
  )

  -- A block that stays as it is changes nothing of what comes next.
  pub fed_after : (old new : BlockWriter D W) (block : Vec ℕ) (r : Result Unit DeviceFault) (bytes : List ℕ)
      → block.items ≡ old.block.items
      → Gives (TookBlocks Holds contents) (FailedBlocks Holds contents) (record old { block = block }) r new bytes
      → Gives (TookBlocks Holds contents) (FailedBlocks Holds contents) old r new bytes
  fed_after old new block r bytes same =
      then_gives (TookBlocks Holds contents) (FailedBlocks Holds contents) old (record old { block = block }) new r [] bytes
      (blocks_add_up Holds contents)
      (fed_waits old (record old { block = block }) [] refl refl refl (same ∙ sym (append-nil old.block.items)))

  -- A writer in blocks whose digest and device got bytes past its block.
  abbrev pub passed : BlockWriter D W → D → Counted W → BlockWriter D W
  passed old running now =
      record old { running = running; writer = record old.writer { now = now } }

  -- The device failed at what waited.
  pub fed_stops : (old : BlockWriter D W) (running : D) (now : Counted W) (sent : List ℕ)
      → old.block.items ≡ sent
      → HasBroken (seen_by contents old.writer.now) (seen_by contents now) sent
      → FailedBlocks Holds contents old (passed old running now) []
  fed_stops old running now sent is broken = (
    refl,
    λ start text was. fed_fails start old now text [] sent []
        (ap (λ (l : List ℕ). l ++ []) is) broken was,
  )

  -- Where nothing waits, bytes were sent.
  pub fed_past : (old : BlockWriter D W) (running : D) (now : Counted W)
      (r : Result Unit DeviceFault) (bytes : List ℕ) → old.block.items ≡ []
      → Goes Holds old.running running bytes
      → Writes (seen_by contents old.writer.now) r (seen_by contents now) bytes
      → Gives (TookBlocks Holds contents) (FailedBlocks Holds contents) old r (passed old running now) bytes
  fed_past old running now (Ok u) bytes none goes written = (
    refl,
    λ start text was. fed_sent start old (passed old running now) text bytes bytes
        (ap (λ (l : List ℕ). l ++ bytes) none ∙ sym (append-nil bytes)
        ∙ ap (λ (l : List ℕ). bytes ++ l) (sym none)) goes written was,
  )
  fed_past old running now (Err e) bytes none goes broken = (
    refl,
    λ start text was. fed_fails start old now text bytes bytes []
        (ap (λ (l : List ℕ). l ++ bytes) none ∙ sym (append-nil bytes)) broken was,
  )

  -- Nothing was fed yet.
  fed_start : (start : Counted W) (blocks : BlockWriter D W) → Holds blocks.running []
      → blocks.writer.now ≡ start → blocks.block.items ≡ [] → IsFed Holds contents start blocks []
  fed_start start blocks new is none = record {
    sent = [];
    digested = new;
    written = subst (λ (w : Counted W). HasWritten (seen_by contents start) (seen_by contents w) [])
        (sym is) ((writers_add_up contents).none start);
    parts = sym none;
  }

  -- A digest and a device got a whole text.
  pub record IsWhole (start now : Counted W) (running : D) (text : List ℕ) : Type 0 where
    pub digested : Holds running text
    pub written : HasWritten (seen_by contents start) (seen_by contents now) text

  -- What a new writer in blocks took, if nothing waits any more.
  pub fed_all : (start : Counted W) (old new : BlockWriter D W) (text : List ℕ)
      → Holds old.running [] → old.writer.now ≡ start → old.block.items ≡ []
      → ((first : Counted W) → Goes (IsFed Holds contents first) old new text)
      → new.block.items ≡ [] → IsWhole start new.writer.now new.running text
  fed_all start old new text fresh is empty took none =
      let all = took start [] (fed_start start old fresh is empty) in
      let same : all.sent ≡ text =
      sym (all.parts ∙ ap (λ (l : List ℕ). all.sent ++ l) none ∙ append-nil all.sent) in
      record {
        digested = subst (λ (l : List ℕ). Holds new.running l) same all.digested;
        written = subst (λ (l : List ℕ). HasWritten (seen_by contents start) (seen_by contents new.writer.now) l)
            same all.written;
      }

  -- What a new writer in blocks failed at.
  pub fed_broken : (start now : Counted W) (old : BlockWriter D W) (text : List ℕ)
      → Holds old.running [] → old.writer.now ≡ start → old.block.items ≡ []
      → ((first : Counted W) (before : List ℕ) → IsFed Holds contents first old before
      → HasBroken (seen_by contents first) (seen_by contents now) (before ++ text))
      → HasBroken (seen_by contents start) (seen_by contents now) text
  fed_broken start now old text fresh is empty failed =
      failed start [] (fed_start start old fresh is empty)

-- ---- the digest after all other bytes

module _ {W : Type 0} (contents : W → Option (List ℕ)) where
  pub writes_end : (a b c end : Counted W) (r : Result Unit DeviceFault) (xs ys last : List ℕ)
      → HasWritten (seen_by contents a) (seen_by contents b) xs → last ≡ ys → end ≡ c
      → Writes (seen_by contents b) r (seen_by contents c) last
      → Writes (seen_by contents a) r (seen_by contents end) (xs ++ ys)
  writes_end a b c end (Ok u) xs ys last p same is q =
      subst (λ (w : Counted W). HasWritten (seen_by contents a) (seen_by contents w) (xs ++ ys)) (sym is)
      (subst (λ (l : List ℕ). HasWritten (seen_by contents a) (seen_by contents c) (xs ++ l)) same
      ((writers_add_up contents).both a b c xs last p q))
  writes_end a b c end (Err e) xs ys last p same is q =
      subst (λ (w : Counted W). HasBroken (seen_by contents a) (seen_by contents w) (xs ++ ys)) (sym is)
      (subst (λ (l : List ℕ). HasBroken (seen_by contents a) (seen_by contents c) (xs ++ l)) same
      ((writers_add_up contents).later a b c xs last p q))

  pub stops_before : (a b end : Counted W) (r : Result Unit DeviceFault) (e : DeviceFault)
      (xs ys : List ℕ) → r ≡ Err e → end ≡ b
      → HasBroken (seen_by contents a) (seen_by contents b) xs
      → Writes (seen_by contents a) r (seen_by contents end) (xs ++ ys)
  stops_before a b end r e xs ys is same p =
      subst (λ (x : Result Unit DeviceFault). Writes (seen_by contents a) x (seen_by contents end) (xs ++ ys))
      (sym is) (subst (λ (w : Counted W). HasBroken (seen_by contents a) (seen_by contents w) (xs ++ ys)) (sym same)
      ((writers_add_up contents).earlier a b xs ys p))
