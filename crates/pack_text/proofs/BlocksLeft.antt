-- A sink takes stored blocks one after another.
use Rattle.std.proofs.Common.{◌≡◌, ◌+◌, ◌-◌, ◌<◌, ◌≤◌, ℕ, zero, suc, List, ◌++◌, length, take, drop, Result, Ok, Err, arith, ap, sym, subst, ◌∙◌}
use Rattle.byte_devices.specs.declared.device_fault.DeviceFault.{DeviceFault}
use Rattle.pool_file_format.specs.Sinks.{Moves, Gives, AddsUp}
use Rattle.pool_file_format.proofs.Pieces.{HasTaken, taken_start, taken_on, taken_fails, then_gives}
use Rattle.pack_text.specs.PackText.{block_text, blocks_text}
use Rattle.pack_text.proofs.Blocks.{blocks-last, blocks-more}

-- A sink took the blocks before these bytes, and the blocks of these are left.
pub record AreLeft {S : Type 0} (Took : Moves S) (a b : S) (whole rest : List ℕ) : Type 0 where
  pub bound : ℕ
  pub enough : length rest ≤ bound
  pub taken : HasTaken Took a b whole (blocks_text bound rest)

parts-of : (n : ℕ) (rest part after : List ℕ) → 65535 < length rest → length rest ≤ n
    → part ≡ take 65535 rest → after ≡ drop 65535 rest
    → blocks_text n rest ≡ block_text 0 part ++ blocks_text (n - 1) after
parts-of zero rest part after long few front back = absurd (omega (arith, long, few))
parts-of (suc m) rest part after long few front back =
    blocks-more m rest long
    ∙ ap (λ (l : List ℕ). block_text 0 l ++ blocks_text m (drop 65535 rest)) (sym front)
    ∙ ap (λ (l : List ℕ). block_text 0 part ++ blocks_text m l) (sym back)
    ∙ ap (λ (k : ℕ). block_text 0 part ++ blocks_text k after) (omega arith)

module _ {S : Type 0} (Took Failed : Moves S) (laws : AddsUp Took Failed) where
  pub left-start : (a : S) (bytes : List ℕ)
      → AreLeft Took a a (blocks_text (length bytes) bytes) bytes
  left-start a bytes = record {
    bound = length bytes;
    enough = omega arith;
    taken = taken_start Took Failed a (blocks_text (length bytes) bytes) laws;
  }

  pub left-next : (a b c : S) (whole rest part after : List ℕ) → 65535 < length rest
      → part ≡ take 65535 rest → after ≡ drop 65535 rest → length after + 65535 ≡ length rest
      → AreLeft Took a b whole rest → Gives Took Failed b (Ok tt) c (block_text 0 part)
      → AreLeft Took a c whole after
  left-next a b c whole rest part after long front back size was given = record {
    bound = was.bound - 1;
    enough = omega (arith, was.enough, size);
    taken = taken_on Took Failed a b c whole (blocks_text was.bound rest) (block_text 0 part)
        (blocks_text (was.bound - 1) after) laws
        (parts-of was.bound rest part after long was.enough front back) was.taken given;
  }

  pub left-fails : (a b c : S) (e : DeviceFault) (whole rest part after : List ℕ)
      → 65535 < length rest → part ≡ take 65535 rest → after ≡ drop 65535 rest
      → AreLeft Took a b whole rest → Gives Took Failed b (Err e) c (block_text 0 part)
      → Gives Took Failed a (Err e) c whole
  left-fails a b c e whole rest part after long front back was given =
      taken_fails Took Failed a b c e whole (blocks_text was.bound rest) (block_text 0 part)
      (blocks_text (was.bound - 1) after) laws
      (parts-of was.bound rest part after long was.enough front back) was.taken given

  pub left-last : (a b c : S) (r : Result Unit DeviceFault) (whole rest : List ℕ)
      → length rest ≤ 65535 → AreLeft Took a b whole rest
      → Gives Took Failed b r c (block_text 1 rest) → Gives Took Failed a r c whole
  left-last a b c r whole rest short was given =
      subst (λ (l : List ℕ). Gives Took Failed a r c l)
      (sym (was.taken.parts
      ∙ ap (λ (l : List ℕ). was.taken.done ++ l) (blocks-last was.bound rest short)))
      (then_gives Took Failed a b c r was.taken.done (block_text 1 rest) laws was.taken.took given)
