use Rattle.std.proofs.Common.{◌≡◌, ◌≤◌, List, length, take, sym, ap, ◌∙◌, arith}
use Rattle.std.proofs.lemmas.Bool.{eqb-true}
use Rattle.tree_build.specs.declared.dir.Chunk.{Chunk}
use Rattle.tree_build.specs.Chunks.{all}
use Rattle.tree_build.proofs.Spots.{Chunks, none_removed, take_remove, length_remove}
use Rattle.tree_build.proofs.chunks.remove_empty.Goals as goal

pub returns-then-is_empty-clause-same : goal.returns-then-is_empty-clause-same
returns-then-is_empty-clause-same c =
    let v = c.index.result.now in
    ap all c.remove.ensures.items
    ∙ none_removed c.args.chunks.now.items c.args.chunk v c.requires
    (ap (λ (u : Chunk). length u.entries.items) (sym c.index.ensures) ∙ sym v.entries.ok.0
    ∙ eqb-true v.entries.len 0 (sym c.is_empty.ensures ∙ c.if-is_empty.true))

pub returns-then-is_empty-clause-front : goal.returns-then-is_empty-clause-front
returns-then-is_empty-clause-front c =
    ap (λ (l : Chunks). take c.args.chunk l) c.remove.ensures.items ∙ take_remove c.args.chunks.now.items c.args.chunk

pub returns-then-is_empty-clause-many : goal.returns-then-is_empty-clause-many
returns-then-is_empty-clause-many c =
    let within = c.requires in
    let is = ap (λ (l : Chunks). length l) c.remove.ensures.items in
    let less = length_remove c.args.chunks.now.items c.args.chunk c.requires in
    omega arith
