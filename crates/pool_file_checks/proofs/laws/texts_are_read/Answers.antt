use Rattle.pool_file_checks.proofs.Texts.{text_found, text_read, one_list}
use Rattle.pool_file_checks.proofs.laws.texts_are_read.Goals as goal

pub returns-clause-found : goal.returns-clause-found
returns-clause-found c = text_found

pub returns-clause-again : goal.returns-clause-again
returns-clause-again c = text_read

pub returns-clause-one : goal.returns-clause-one
returns-clause-one c = one_list
