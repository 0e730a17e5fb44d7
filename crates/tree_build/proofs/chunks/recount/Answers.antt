use Rattle.std.proofs.Common.{List, ◌≡◌, ◌+◌, ◌<◌, ◌≤◌, length, suc, sym, ap, ◌∙◌, arith}
use Rattle.std.proofs.lemmas.List.{length-set}
use Rattle.std.specs.Prelude.{slice_set}
use Rattle.tree_build.specs.declared.dir.Chunk.{Chunk}
use Rattle.tree_build.specs.Chunks.{before}
use Rattle.tree_build.proofs.Spots.{Row, all_same, before_next, before_least, before_set, counts_more}
use Rattle.tree_build.proofs.chunks.recount.Goals as goal
use Rattle.tree_build.proofs.chunks.recount.Goals.{After-len-start}

-- What is known at a chunk of which the start was counted.
record Counted (c : After-len-start) : Type 0 where
  within : c.loop-place.place < length c.loop-place.chunks.items
  sum : c.loop-place.start + c.len-start.result ≡ before c.loop-place.chunks.items (suc c.loop-place.place)
  fits : before c.loop-place.chunks.items (suc c.loop-place.place) ≤ c.args.len

counted : (c : After-len-start) → Counted c
counted c =
    let vs = c.loop-place.chunks.items in
    let i = c.loop-place.place in
    let v = c.index_mut-chunk.result.now in
    let inv = c.loop-place.invariant in
    let test = c.loop-place-test.true in
    let end = c.len-place-end.ensures in
    let ok = c.args.chunks.now.ok.0 in
    let kept = inv.many in
    let start = inv.start in
    let lt : i < length vs = omega arith in
    let many = c.len-start.ensures ∙ v.entries.ok.0 ∙ ap (λ (u : Chunk). length u.entries.items) c.index_mut-chunk.ensures.value in
    let next = before_next vs i v lt in
    let least = before_least vs (suc i) in
    let same = ap (λ (l : List Row). length l) inv.same in
    let len = c.requires.len in
    record { within = lt; sum = omega arith; fits = omega arith }

pub overflow_add-start : goal.overflow_add-start
overflow_add-start c =
    let at = counted (goal.at.overflow_add-start c).After-len-start in
    let sum = at.sum in
    let within = at.fits in
    let fits = c.ranges.len.fits in
    omega arith

pub loop-place-preserved : goal.loop-place-preserved
loop-place-preserved c =
    let vs = c.loop-place.chunks.items in
    let i = c.loop-place.place in
    let v = c.index_mut-chunk.result.now in
    let inv = c.loop-place.invariant in
    let at = counted (goal.at.loop-place-preserved c).After-len-start in
    let w : Chunk = record { start = c.loop-place.start; entries = v.entries } in
    let long = ap (λ (u : Chunk). length u.entries.items) c.index_mut-chunk.ensures.value in
    let one : suc i ≡ i + 1 = omega arith in record {
      many = length-set vs i w ∙ inv.many;
      same = all_same vs i v w at.within (ap (λ (u : Chunk). u.entries.items) c.index_mut-chunk.ensures.value) ∙ inv.same;
      start = at.sum ∙ sym (before_set vs i (suc i) v w long) ∙ ap (before (slice_set vs i w)) one;
      counts = λ k e less. counts_more vs i v w at.within inv.start long inv.counts k e (omega arith);
    }
