use Rattle.std.proofs.Common.{◌+◌, ℕ, List, length, ap, ◌∙◌}
use Rattle.std.specs.Prelude.{nat_le}
use Rattle.git_model.specs.RefStore.{listed_refs}
use Rattle.export_text.proofs.export.is_exportable.Goals as goal

pub returns : goal.returns
returns g c = λ good flags.
    c.are_few.ensures
    ∙ ap (λ (ns : List (List ℕ)). nat_le (length (listed_refs c.args.refs.now) + length ns) 65535)
    (c.deref.ensures.value ∙ c.in_ok-ref_names.ensures c.args.refs.now good flags)
