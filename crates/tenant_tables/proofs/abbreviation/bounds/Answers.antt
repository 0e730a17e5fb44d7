use Rattle.std.proofs.Common.{refl}
use Rattle.tenant_tables.proofs.Abbreviations.{bounds-of, begins-none}
use Rattle.tenant_tables.proofs.abbreviation.bounds.Goals as goal

pub returns-in_default-clause-none : goal.returns-in_default-clause-none
returns-in_default-clause-none c = begins-none 48 c.args.digits.now refl c.in_default.ensures.none

pub returns-in_default-padded-clause-none : goal.returns-in_default-padded-clause-none
returns-in_default-padded-clause-none c =
    begins-none 102 c.args.digits.now refl c.in_default-padded.ensures.none

pub returns-clause-some : goal.returns-clause-some
returns-clause-some c = bounds-of _ _ _ c.in-Some.ensures.some.1 c.in-Some-padded.ensures.some.1
