use Rattle.std.proofs.Common.{◌+◌, ℕ, List, ◌++◌, length, sym, ap, ◌∙◌}
use Rattle.std.specs.List.{filter, flat_map}
use Rattle.std.specs.Prelude.{nat_le}
use Rattle.git_model.specs.Repository.{Repository}
use Rattle.git_model.specs.RefStore.{listed_refs}
use Rattle.export_text.specs.ItemText.{items_text}
use Rattle.export_text.specs.Reached.{extra_tag_refs, is_missing}
use Rattle.export_text.specs.Export.{export_text, items_of_ref, object_items, opening_items, removal_items, saving_items}
use Rattle.export_text.proofs.Pieces.{five}
use Rattle.export_text.proofs.export.append_if_few.Goals as goal

pub returns-then-not-are_few-clause-exports : goal.returns-then-not-are_few-clause-exports
returns-then-not-are_few-clause-exports g c = λ good flags names.
    ap (λ (ns : List (List ℕ)). nat_le (length (listed_refs c.args.refs.now) + length ns) 65535) (sym names)
    ∙ sym c.are_few.ensures ∙ c.if-not-are_few.true

pub returns-clause-exports : goal.returns-clause-exports
unfolding export_text
returns-clause-exports g c = λ good flags names.
    let r : Repository = record { objects = c.args.objects.now; refs = c.args.refs.now } in (
      ap (λ (ns : List (List ℕ)). nat_le (length (listed_refs c.args.refs.now) + length ns) 65535) (sym names)
          ∙ sym c.are_few.ensures ∙ c.if-not-are_few.false,
      five c.args.out.now.items c.append_opening.new.out.items c.append_objects.new.out.items c.append_saving.new.out.items
          c.append_removals.new.out.items c.append_refs.new.out.items
          (opening_items c.args.refs.now) (object_items r) saving_items (flat_map removal_items (extra_tag_refs r))
          (flat_map (items_of_ref c.args.objects.now) (listed_refs c.args.refs.now))
          c.in_ok-append_opening.ensures.written (c.in_ok-append_objects.ensures.written c.args.refs.now good flags)
          c.in_ok-append_saving.ensures.written
          (c.in_ok-append_removals.ensures.written
          ∙ ap (λ (ns : List (List ℕ)). c.append_saving.new.out.items ++ items_text (flat_map removal_items (filter (is_missing c.args.refs.now) ns))) names)
          (c.in_ok-append_refs.ensures.written good),
    )
