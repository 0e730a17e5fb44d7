use Rattle.std.proofs.Common.{sym, ◌∙◌, ap}
use Rattle.std.specs.Option.{option_map}
use Rattle.git_objects.specs.Parts.{entry_of}
use Rattle.revisions.proofs.PathSteps.{below-here, below-step}
use Rattle.revisions.proofs.stored_path.entry_below.Goals as goal

pub returns-in-Ok-None : goal.returns-in-Ok-None
returns-in-Ok-None g c =
    λ held. sym (c.way.invariant held
    ∙ below-step c.args.objects.now _ _ _ (entry_of c.way.at) _ c.in-Some.ensures
    (ap (option_map entry_of) (sym c.in-Ok-None.field-0-is) ∙ c.in-Ok-None.ensures held))

pub way-preserved : goal.way-preserved
way-preserved g c =
    λ held. c.way.invariant held
    ∙ below-step c.args.objects.now _ _ _ (entry_of c.way.at) _ c.in-Some.ensures
    (ap (option_map entry_of) (sym c.in-Ok-Some.field-0-is) ∙ c.in-Ok-Some.ensures held)

pub returns : goal.returns
returns g c =
    λ held. sym (c.way.invariant held
    ∙ below-here c.args.objects.now c.way.rest (entry_of c.way.at) c.in_default.ensures)
