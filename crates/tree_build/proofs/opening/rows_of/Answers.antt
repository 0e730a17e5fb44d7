use Rattle.std.proofs.Common.{List, map, ap, ◌∙◌, sym, subst, arith}
use Rattle.std.proofs.lemmas.List.{take_all, length-map, get_or-map}
use Rattle.std.proofs.lemmas.List.Elements.{All-get_or}
use Rattle.git_model.specs.Tree.{CanWriteEntry}
use Rattle.git_objects.specs.declared.tree_entry.TreeEntry.{TreeEntry}
use Rattle.git_objects.specs.Parts.{entry_of, entries_of}
use Rattle.tree_build.specs.Opened.{tree_row}
use Rattle.tree_build.proofs.Opened.{rows_shape}
use Rattle.tree_build.proofs.opening.rows_of.Goals as goal

pub row_of-requires : goal.row_of-requires
row_of-requires c =
    let a = c.loop-entry-test.true in
    let n = length-map c.args.entries.now entry_of in
    let all = All-get_or CanWriteEntry (entries_of c.args.entries.now) c.loop-entry.entry-index (entry_of c.entry-item.result) (omega arith) c.requires in
    (subst CanWriteEntry (get_or-map entry_of c.args.entries.now c.loop-entry.entry-index c.entry-item.result (entry_of c.entry-item.result) a ∙ ap entry_of (sym c.entry-item.is)) all).name

pub returns : goal.returns
returns c =
    rows_shape c.loop-entry.rows.items (entries_of c.args.entries.now)
    (c.loop-entry.invariant
    ∙ ap (λ (xs : List TreeEntry). map tree_row (entries_of xs))
    (take_all c.loop-entry.entry-index c.args.entries.now c.loop-entry-test.false))
