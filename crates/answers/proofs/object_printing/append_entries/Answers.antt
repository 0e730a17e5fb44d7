use Rattle.std.proofs.Common.{◌++◌, length, take, refl, ap, ◌∙◌}
use Rattle.std.specs.List.{flat_map}
use Rattle.std.proofs.lemmas.List.{take_all, take_at}
use Rattle.git_objects.proofs.Kept.{kept_front}
use Rattle.git_objects.specs.Parts.{entries_of}
use Rattle.answers.specs.Printed.{tree_line}
use Rattle.answers.proofs.object_printing.append_entries.Goals as goal

pub returns-in_err-append_entry-clause-kept : goal.returns-in_err-append_entry-clause-kept
returns-in_err-append_entry-clause-kept c =
    kept_front c.args.out.now.items c.loop-entry.out.items c.append_entry.new.out.items _ c.loop-entry.invariant c.in_err-append_entry.ensures.kept

pub returns-clause-written : goal.returns-clause-written
returns-clause-written c =
    c.loop-entry.invariant
    ∙ ap (λ entries. c.args.out.now.items ++ flat_map tree_line (entries_of entries))
    (take_all c.loop-entry.entry-index c.args.entries.now c.loop-entry-test.false)

pub returns-clause-kept : goal.returns-clause-kept
returns-clause-kept c =
    ap (take (length c.args.out.now.items)) c.loop-entry.invariant
    ∙ take_at c.args.out.now.items _ (length c.args.out.now.items) refl
