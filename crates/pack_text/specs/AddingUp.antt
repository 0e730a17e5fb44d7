-- Pieces add up (`AddsUp`) for a vector, and for a writer in blocks.
use Rattle.std.proofs.Common.{◌≡◌, ℕ, List, [], ◌++◌, length, take, Option, refl, sym, ap, subst, ◌∙◌, append_assoc, append-nil, arith, ◌≤◌}
use Rattle.std.proofs.Math.Seq.{take-append_seam}
use Rattle.std.proofs.lemmas.List.{length-append, take-take}
use Rattle.std.specs.Global.{Vec}
use Rattle.pool_file_format.specs.Sinks.{AddsUp, HasBroken}
use Rattle.pool_file_format.specs.AddingUp.{writers_add_up}
use Rattle.pack_text.specs.Sinks.{HasAppended, HasBegun}
use Rattle.pack_text.specs.declared.block_writer.BlockWriter.{BlockWriter}
use Rattle.pack_text.specs.BlockWriting.{seen_by, IsFed, TookBlocks, FailedBlocks}

begins_later : (a b c xs : List ℕ) → HasAppended a b xs → HasBegun b c → HasBegun a c
begins_later a b c xs p q =
    let n = length a in
    let m = length b in
    let short : n ≤ m = omega (arith, ap length p, length-append a xs) in
    let inner : take n (take m c) ≡ take n c = take-take n m c short in
    sym inner ∙ ap (take n) (q ∙ p) ∙ take-append_seam a xs

pub vectors_add_up : AddsUp {S = Vec ℕ} (λ old new bytes. HasAppended old.items new.items bytes)
    (λ old new bytes. HasBegun old.items new.items)
vectors_add_up = record {
  none = λ a. sym (append-nil a.items);
  both = λ a b c xs ys p q.
      q ∙ ap (λ (l : List ℕ). l ++ ys) p ∙ append_assoc a.items xs ys;
  later = λ a b c xs ys p q. begins_later a.items b.items c.items xs p q;
  earlier = λ a b xs ys p. p;
}

module _ {D W : Type 0} (Holds : D → List ℕ → Type 0) (contents : W → Option (List ℕ)) where
  fed_none : (a : BlockWriter D W) → TookBlocks Holds contents a a []
  fed_none a = (
    refl,
    λ start text h. subst (λ (l : List ℕ). IsFed Holds contents start a l)
        (sym (append-nil text)) h,
  )

  fed_on : (a b c : BlockWriter D W) (xs ys : List ℕ) → TookBlocks Holds contents a b xs
      → TookBlocks Holds contents b c ys → TookBlocks Holds contents a c (xs ++ ys)
  fed_on a b c xs ys p q = (
    q.0 ∙ p.0,
    λ start text h. subst (λ (l : List ℕ). IsFed Holds contents start c l)
        (append_assoc text xs ys) (q.1 start (text ++ xs) (p.1 start text h)),
  )

  fed_later : (a b c : BlockWriter D W) (xs ys : List ℕ) → TookBlocks Holds contents a b xs
      → FailedBlocks Holds contents b c ys → FailedBlocks Holds contents a c (xs ++ ys)
  fed_later a b c xs ys p q = (
    q.0 ∙ p.0,
    λ start text h. subst (λ (l : List ℕ). HasBroken (seen_by contents start) (seen_by contents c.writer.now) l)
        (append_assoc text xs ys) (q.1 start (text ++ xs) (p.1 start text h)),
  )

  fed_earlier : (a b : BlockWriter D W) (xs ys : List ℕ) → FailedBlocks Holds contents a b xs
      → FailedBlocks Holds contents a b (xs ++ ys)
  fed_earlier a b xs ys p = (
    p.0,
    λ start text h. subst (λ (l : List ℕ). HasBroken (seen_by contents start) (seen_by contents b.writer.now) l)
        (append_assoc text xs ys)
        ((writers_add_up contents).earlier start b.writer.now (text ++ xs) ys (p.1 start text h)),
  )

  pub blocks_add_up : AddsUp {S = BlockWriter D W} (TookBlocks Holds contents)
      (FailedBlocks Holds contents)
  blocks_add_up = record { none = fed_none; both = fed_on; later = fed_later; earlier = fed_earlier }
