use Rattle.std.proofs.Common.{length, ap, ◌∙◌}
use Rattle.tree_build.specs.Chunks.{Listing}
use Rattle.tree_build.proofs.dir.Entries.len.Goals as goal

pub returns : goal.returns
returns c = c.self.invariant.0 ∙ ap (λ (l : Listing). length l.items) c.self.view_is
