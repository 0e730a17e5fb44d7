use Rattle.numerals.proofs.Numerals.{number_of-decimal}
use Rattle.numerals.proofs.laws.printed_numbers.Goals as goal

pub returns : goal.returns
returns c = λ n fits. number_of-decimal n fits
