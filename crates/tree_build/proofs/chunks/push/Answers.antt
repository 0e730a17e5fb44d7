use Rattle.std.proofs.Common.{List, ◌-◌, ◌++◌, [], ◌∷◌, length, ap, ◌∙◌, arith}
use Rattle.tree_build.specs.declared.dir.Chunk.{Chunk}
use Rattle.tree_build.proofs.Spots.{Row, on_err, all_same, at_end, starts_set, starts_last}
use Rattle.tree_build.proofs.chunks.push.Goals as goal
use Rattle.tree_build.proofs.chunks.push.Goals.{After-push}

-- the last chunk afterwards
abbrev made : After-push → Chunk
made c = record { start = c.index_mut.result.now.start; entries = c.push.new.self }

pub returns-in_err-push-clause-err : goal.returns-in_err-push-clause-err
returns-in_err-push-clause-err c =
    let n = c.len-last.ensures in
    let l = c.open_last.new.chunks.ok.0 in
    let some = c.in_ok-open_last.ensures.some in
    on_err c.from_residual-in_err-push.result
    (all_same c.open_last.new.chunks.items (c.len-last.result - 1) c.index_mut.result.now (made (goal.at.returns-in_err-push-clause-err c).After-push) (omega arith)
    (c.in_err-push.ensures.items ∙ ap (λ (u : Chunk). u.entries.items) c.index_mut.ensures.value)
    ∙ c.open_last.ensures.same)

pub returns-in_err-push-clause-starts : goal.returns-in_err-push-clause-starts
returns-in_err-push-clause-starts c =
    starts_set c.open_last.new.chunks.items (c.len-last.result - 1) c.index_mut.result.now
    (made (goal.at.returns-in_err-push-clause-starts c).After-push) (ap (λ (u : Chunk). u.start) c.index_mut.ensures.value)
    (ap (λ (l : List Row). length l) c.in_err-push.ensures.items ∙ ap (λ (u : Chunk). length u.entries.items) c.index_mut.ensures.value)
    c.open_last.ensures.starts

pub returns-clause-ok : goal.returns-clause-ok
returns-clause-ok c =
    let n = c.len-last.ensures in
    let l = c.open_last.new.chunks.ok.0 in
    let some = c.in_ok-open_last.ensures.some in
    at_end c.open_last.new.chunks.items (c.len-last.result - 1) c.index_mut.result.now (made (goal.at.returns-clause-ok c).After-push) c.args.entry (omega arith)
    (c.in_ok-push.ensures.items ∙ ap (λ (u : Chunk). u.entries.items ++ c.args.entry ∷ []) c.index_mut.ensures.value)
    ∙ ap (λ (l : List Row). l ++ c.args.entry ∷ []) c.open_last.ensures.same

pub returns-clause-starts : goal.returns-clause-starts
returns-clause-starts c =
    let n = c.len-last.ensures in
    let l = c.open_last.new.chunks.ok.0 in
    let some = c.in_ok-open_last.ensures.some in
    starts_last c.open_last.new.chunks.items (c.len-last.result - 1) c.index_mut.result.now (made (goal.at.returns-clause-starts c).After-push) (omega arith)
    (ap (λ (u : Chunk). u.start) c.index_mut.ensures.value) c.open_last.ensures.starts
