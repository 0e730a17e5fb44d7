use Rattle.std.proofs.Common.{refl, sym, ap, ◌∙◌, subst}
use Rattle.std.specs.Option.{option_copied}
use Rattle.file_maps.specs.Edits.{is_empty}
use Rattle.std.specs.List.{AllByRecursion}
use Rattle.file_maps.specs.FileMap.{ArePairwiseApart}
use Rattle.file_maps.specs.Kept.{IsBelow}
use Rattle.file_maps.proofs.Apart.{moved-apart}
use Rattle.plain_files.proofs.Edited.{edits-moved, no_source}
use Rattle.file_maps.proofs.Edited.{moved-below}
use Rattle.plain_files.proofs.files.Files.move_files.Goals as goal

pub returns-then-are_none : goal.returns-then-are_none
returns-then-are_none c = λ _. (
  no_source c.args.from.now c.args.to.now c.self.inside.files.entries c.in_ok-files.files.items c.args.self.now _ c.self.invariant c.self.view_is c.in_ok-files.ensures
      (ap is_empty (sym c.deref.ensures.value) ∙ sym c.are_none.ensures ∙ c.if-are_none.true),
  refl,
)

pub replace-requires-clause-below : goal.replace-requires-clause-below
replace-requires-clause-below c =
    subst (AllByRecursion (IsBelow c.args.to.now)) (sym c.in_ok-files.ensures)
    (moved-below c.args.from.now c.args.to.now c.self.inside.files.entries c.has_components.ensures c.self.invariant.each)

pub replace-requires-clause-apart : goal.replace-requires-clause-apart
replace-requires-clause-apart c =
    subst ArePairwiseApart (sym c.in_ok-files.ensures)
    (moved-apart c.args.from.now c.args.to.now c.self.inside.files.entries c.self.invariant.apart)

pub returns : goal.returns
returns c =
    edits-moved c.replace.result c.args.self.now c.replace.new.self (option_copied c.args.gone) c.args.from.now c.args.to.now c.self.inside.files.entries c.in_ok-files.files.items c.self.invariant c.self.view_is c.in_ok-files.ensures
    (ap is_empty (sym c.deref.ensures.value) ∙ sym c.are_none.ensures ∙ c.if-are_none.false) c.replace.ensures
