use Rattle.git_model.specs.GoodRepository.{AreObjects}
use Rattle.repository_copies.proofs.Fitting.{AreFitting}
use Rattle.repository_copies.proofs.fits.all_fit.Given as goal

abbrev pub invariant-loop-place : goal.invariant-loop-place
invariant-loop-place g l = AreObjects g.N.Naming.digest_of l.objects → AreFitting l.objects l.place
