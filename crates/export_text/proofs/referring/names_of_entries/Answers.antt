use Rattle.std.proofs.Common.{◌++◌, [], ◌∷◌, sym, ap, ◌∙◌}
use Rattle.std.proofs.lemmas.List.{take_all}
use Rattle.export_text.proofs.Marked.{entry-names, name-more, no-name-more}
use Rattle.export_text.proofs.referring.names_of_entries.Goals as goal
use Rattle.export_text.proofs.referring.names_of_entries.Goals.{then-is_reference+in_ok-push, else-is_reference}

pub loop-entry-preserved : goal.loop-entry-preserved
loop-entry-preserved c = elim c.if-is_reference.branch [
  | then-is_reference+in_ok-push w ↦
      rw w.ids-is (w.in_ok-push.ensures.items ∙ ap (λ ids. ids ++ c.entry-item.result.id ∷ []) c.loop-entry.invariant
      ∙ sym (name-more c.args.entries.now c.loop-entry.entry-index c.entry-item.result c.loop-entry-test.true c.entry-item.is
      (sym c.is_reference.ensures ∙ w.if-is_reference.true)))
  | else-is_reference w ↦
      rw w.ids-is (c.loop-entry.invariant
      ∙ sym (no-name-more c.args.entries.now c.loop-entry.entry-index c.entry-item.result c.loop-entry-test.true c.entry-item.is
      (sym c.is_reference.ensures ∙ w.if-is_reference.false)))
]

pub returns : goal.returns
returns c =
    c.loop-entry.invariant ∙ ap entry-names (take_all c.loop-entry.entry-index c.args.entries.now c.loop-entry-test.false)
