use Rattle.git_objects.proofs.Splits.{found_is_position}
use Rattle.answers.proofs.log_printing.place_of_line_end.Goals as goal

pub returns-clause-first : goal.returns-clause-first
returns-clause-first c = found_is_position 10 c.args.text.now c.memchr.result c.memchr.ensures
