use Rattle.std.proofs.Common.{refl, arith}
use Rattle.repository_copies.proofs.Short.{short-fits}
use Rattle.repository_copies.proofs.fits.fits.Goals as goal

pub returns-then-contents-le-LONGEST_LINE : goal.returns-then-contents-le-LONGEST_LINE
returns-then-contents-le-LONGEST_LINE c os valid =
    let short = c.if-contents-le-LONGEST_LINE.true in
    (λ yes. short-fits os c.args.kind c.args.contents.now valid (omega (arith, short)), λ fits. refl)
