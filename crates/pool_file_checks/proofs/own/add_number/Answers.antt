use Rattle.std.proofs.Common.{sym, ◌∙◌}
use Rattle.indexmap.proofs.CallerLemmas.{insert_entry-new}
use Rattle.pool_file_checks.proofs.OwnLemmas.{none_of}
use Rattle.pool_file_checks.proofs.own.add_number.Goals as goal

pub returns : goal.returns
returns c =
    let old = c.in_ok-insert.ensures.old in let some = c.is_some.ensures in let no = c.if-is_some.false in
    let none = sym old ∙ none_of c.in_ok-insert.field-0 (sym some ∙ no) in
    (c.in_ok-insert.ensures.entries ∙ insert_entry-new _ c.args.index.now c.args.id c.args.number none, c.in_ok-insert.ensures.unique)
