use Rattle.std.proofs.Common.{ℕ, List, ◌≡◌, ◌+◌, ◌++◌, take, drop, ap, ◌∙◌, arith}
use Rattle.std.specs.Global.{Vec}
use Rattle.tree_build.specs.declared.dir.Chunk.{Chunk}
use Rattle.tree_build.specs.Chunks.{all}
use Rattle.tree_build.proofs.Spots.{Row, all_same, one_less, one_between, two_of_one}
use Rattle.tree_build.proofs.chunks.split.Goals as goal

in_parts : (n : ℕ) (v a b : Vec Row) → a.items ≡ take n v.items → b.items ≡ drop n v.items → a.items ++ b.items ≡ v.items
in_parts n v a b front back =
    ap (λ (l : List Row). l ++ b.items) front ∙ ap (λ (l : List Row). take n v.items ++ l) back ∙ one_less v.items n

pub returns-in_err-back-clause-same : goal.returns-in_err-back-clause-same
returns-in_err-back-clause-same c =
    let vs = c.args.chunks.now.items in
    let us = c.insert.new.self.items in
    let n = c.in_ok-insert.ensures.len in
    let m = c.args.chunks.now.ok.0 in
    let l = c.insert.new.self.ok.0 in
    let k = c.requires in
    let w : Chunk = record { start = c.index_mut.result.now.start; entries = c.split_off.new.self } in
    all_same us c.args.chunk c.index_mut.result.now w (omega arith)
    (ap (λ (v : Vec Row). v.items) c.in_err-back.ensures.err ∙ ap (λ (u : Chunk). u.entries.items) c.index_mut.ensures.value)
    ∙ ap all c.in_ok-insert.ensures.items
    ∙ one_between vs (c.args.chunk + 1) c.empty.result (omega arith) c.empty.ensures.entries

pub returns-clause-same : goal.returns-clause-same
returns-clause-same c =
    let vs = c.args.chunks.now.items in
    let a : Chunk = record { start = c.index_mut.result.now.start; entries = c.split_off.new.self } in
    let b : Chunk = record { start = c.index_mut-2.result.now.start; entries = c.in_ok-back.back } in
    two_of_one vs c.insert.new.self.items c.args.chunk c.index_mut.result.now c.empty.result a b c.requires
    c.in_ok-insert.ensures.items
    (in_parts _ c.index_mut.result.now.entries c.split_off.new.self c.in_ok-back.back c.in_ok-back.ensures.items c.in_ok-back.ensures.tail
    ∙ ap (λ (u : Chunk). u.entries.items) c.index_mut.ensures.value)
