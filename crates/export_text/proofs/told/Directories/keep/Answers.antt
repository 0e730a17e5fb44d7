use Rattle.std.proofs.Common.{List, ℕ, sym, ap, ◌∙◌}
use Rattle.export_text.specs.Lines.{lines_within}
use Rattle.export_text.proofs.told.Directories.keep.Goals as goal

pub returns-in_ok-from_slice : goal.returns-in_ok-from_slice
returns-in_ok-from_slice c = λ os out are forward within lines.
    c.put.ensures os out are (record {
      forward = forward;
      within = within;
      lines = lines ∙ ap (λ (p : List ℕ). lines_within os c.args.levels p c.args.tree.now) (sym c.in_ok-from_slice.ensures.items);
    })
