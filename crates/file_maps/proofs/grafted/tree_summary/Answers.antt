use Rattle.std.proofs.Common.{Option, Some, sym, ap, ◌∙◌}
use Rattle.git_model.specs.Content.{Content, content_from}
use Rattle.tenant_tables.specs.declared.summary.Summary.{Summary}
use Rattle.tenant_tables.specs.SumIn.{sum_in}
use Rattle.file_maps.specs.Grafts.{content_fault}
use Rattle.file_maps.proofs.grafted.tree_summary.Goals as goal

pub returns-in-Some-get-clause-refusal : goal.returns-in-Some-get-clause-refusal
returns-in-Some-get-clause-refusal g c =
    let found = content_from c.in-Some-get.field-0.0 c.in-Some-get.field-0.1.now in
    ap (λ (o : Option Content). content_fault o (sum_in c.args.objects.now c.args.id.now)) (sym c.in-Some-get.ensures)
    ∙ ap (λ (o : Option Summary). content_fault (Some found) o) (sym c.in-None.ensures)

pub returns-in-None-get-clause-refusal : goal.returns-in-None-get-clause-refusal
returns-in-None-get-clause-refusal g c =
    ap (λ (o : Option Content). content_fault o (sum_in c.args.objects.now c.args.id.now)) (sym c.in-None-get.ensures)
