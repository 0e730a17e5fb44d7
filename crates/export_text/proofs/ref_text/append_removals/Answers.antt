use Rattle.std.proofs.Common.{ℕ, ◌++◌, List, ap, ◌∙◌}
use Rattle.std.specs.List.{filter, flat_map}
use Rattle.std.proofs.lemmas.List.{take_all}
use Rattle.git_objects.proofs.Kept.{kept_front}
use Rattle.export_text.specs.ItemText.{items_text}
use Rattle.export_text.specs.Reached.{is_missing}
use Rattle.export_text.specs.Export.{removal_items}
use Rattle.export_text.proofs.ref_text.append_removals.Goals as goal

pub returns-in_err-append_removal-clause-kept : goal.returns-in_err-append_removal-clause-kept
returns-in_err-append_removal-clause-kept c =
    kept_front c.args.out.now.items c.loop-ref_name.out.items c.append_removal.new.out.items _ c.loop-ref_name.invariant c.in_err-append_removal.ensures.kept

pub returns-clause-written : goal.returns-clause-written
returns-clause-written c =
    c.loop-ref_name.invariant
    ∙ ap (λ (names : List (List ℕ)). c.args.out.now.items
    ++ items_text (flat_map removal_items (filter (is_missing c.args.refs.now) names)))
    (take_all c.loop-ref_name.ref_name-index c.args.ref_names.now c.loop-ref_name-test.false)
