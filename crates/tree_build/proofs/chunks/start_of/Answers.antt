use Rattle.std.proofs.Common.{◌≡◌, ◌+◌, ◌-◌, suc, length, sym, ap, ◌∙◌, arith}
use Rattle.tree_build.specs.declared.dir.Chunk.{Chunk}
use Rattle.tree_build.specs.Chunks.{before}
use Rattle.tree_build.proofs.Spots.{before_none, before_next, before_least}
use Rattle.tree_build.proofs.chunks.start_of.Goals as goal
use Rattle.tree_build.proofs.chunks.start_of.Goals.{After-len}

pub returns-then-chunk-eq0 : goal.returns-then-chunk-eq0
returns-then-chunk-eq0 c =
    let first = c.if-chunk-eq0.true in
    let none : c.args.chunk ≡ 0 = omega arith in
    sym (ap (before c.args.chunks.now) none ∙ before_none c.args.chunks.now)

-- what stands before the chunk before it, and what that has
sum : (c : After-len) → c.index-chunks-chunk.result.start + c.len.result ≡ before c.args.chunks.now c.args.chunk
sum c =
    let vs = c.args.chunks.now in
    let v = c.index-chunks-chunk.result in
    let some = c.if-chunk-eq0.false in
    let within = c.requires.chunk in
    let start = ap (λ (u : Chunk). u.start) c.index-chunks-chunk.is ∙ c.requires.counts (c.args.chunk - 1) v (omega arith) in
    let many = c.len.ensures ∙ v.entries.ok.0 ∙ ap (λ (u : Chunk). length u.entries.items) c.index-chunks-chunk.is in
    let next = before_next vs (c.args.chunk - 1) v (omega arith) in
    let all : v.start + c.len.result ≡ before vs (suc (c.args.chunk - 1)) = omega arith in
    let one : suc (c.args.chunk - 1) ≡ c.args.chunk = omega arith in
    all ∙ ap (before vs) one

pub overflow_add-result : goal.overflow_add-result
overflow_add-result c =
    let is = sum (goal.at.overflow_add-result c).After-len in
    let least = before_least c.args.chunks.now c.args.chunk in
    let len = c.requires.len in
    let fits = c.ranges.len.fits in
    omega arith

pub returns : goal.returns
returns c = sum (goal.at.returns c).After-len
