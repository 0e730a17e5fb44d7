use Rattle.std.proofs.Common.{false, ap, ◌∙◌, length}
use Rattle.std.proofs.lemmas.List.{length-replicate}
use Rattle.missing_objects.proofs.Opens.{none-first}
use Rattle.missing_objects.proofs.marks.Marks.none.Goals as goal

pub invariant_of-result : goal.invariant_of-result
invariant_of-result c =
    let w = c.in_ok-wanted.ensures in
    let h = c.in_ok-had.ensures in (
      ap length w ∙ length-replicate c.args.len false,
      ap length h ∙ length-replicate c.args.len false,
      none-first c.args.len c.in_ok-wanted.wanted c.in_ok-had.had w h,
    )
