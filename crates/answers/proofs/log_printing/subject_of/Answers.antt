use Rattle.std.proofs.Common.{◌==◌, sym, ap, ◌∙◌}
use Rattle.std.specs.List.{before_first}
use Rattle.answers.proofs.Messages.{message_read}
use Rattle.answers.proofs.log_printing.subject_of.Goals as goal

pub returns : goal.returns
returns c =
    c.first_line.ensures
    ∙ ap (before_first (λ byte. byte == 10))
    (c.message_of.ensures ∙ sym (message_read c.args.contents.now))
