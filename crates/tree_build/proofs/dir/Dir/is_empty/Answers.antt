use Rattle.std.proofs.Common.{ℕ, eqb, ap, ◌∙◌}
use Rattle.tree_build.specs.Shape.{Directory}
use Rattle.tree_build.specs.Editing.{is_none}
use Rattle.tree_build.proofs.Named.{empty_shape}
use Rattle.tree_build.proofs.dir.Dir.is_empty.Goals as goal

pub returns : goal.returns
returns c =
    ap (λ (n : ℕ). eqb n 0) c.len.ensures ∙ empty_shape c.self.inside.entries.items
    ∙ ap (λ (d : Directory). is_none d.entries) c.self.view_is
