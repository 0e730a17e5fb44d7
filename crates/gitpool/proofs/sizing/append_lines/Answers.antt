use Rattle.std.proofs.Common.{List, ℕ, ◌++◌, ap, ◌∙◌}
use Rattle.gitpool.proofs.SizesLemmas.{more_lines}
use Rattle.gitpool.proofs.sizing.append_lines.Goals as goal

pub loop-sizes-preserved : goal.loop-sizes-preserved
loop-sizes-preserved c =
    c.in_ok-extend_from_slice-2.ensures.items
    ∙ ap (λ (l : List ℕ). l ++ c.as_bytes.result.now) c.in_ok-extend_from_slice.ensures.items
    ∙ more_lines c.args.all.now c.loop-sizes.sizes-index _ c.args.out.now.items c.loop-sizes.out.items c.as_bytes.result.now
    c.loop-sizes-test.true c.loop-sizes.invariant (c.as_bytes.ensures.value ∙ c.in_ok-numbers.ensures)
