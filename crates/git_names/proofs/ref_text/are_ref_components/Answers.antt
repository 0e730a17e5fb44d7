use Rattle.std.proofs.Common.{rules, tests, ◌==◌}
use Rattle.std.proofs.lemmas.Iterator.Search.{all_from_yields_List}
use Rattle.std.proofs.lemmas.Iterator.Splits.{YieldsList-from_slice_split}
use Rattle.git_model.specs.RefName.{is_ref_component}
use Rattle.git_names.proofs.ref_text.are_ref_components.Goals as goal

-- the pieces of `split` are the components, and the closure tests each
pub returns : goal.returns
returns c = all_from_yields_List is_ref_component _ _ _ c.all.ensures.ran
    (YieldsList-from_slice_split _ (λ byte. byte == 47) c.args.text.now c.split.ensures.rest c.split.ensures.done c.split.ensures.closure (λ x b q k. search (rules, tests)))
    (λ x b q k. search (rules, tests))
