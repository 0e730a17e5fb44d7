use Rattle.std.proofs.Common.{◌≡◌, drop}
use Rattle.git_model.specs.HeldObjects.{AreHeld}
use Rattle.revisions.specs.FirstParents.{IsFirstParentChain}
use Rattle.revisions.specs.Resolution.{after_suffixes}
use Rattle.revisions.specs.TagEnds.{AreTagEnds}
use Rattle.revisions.proofs.resolving.after_suffixes.Given as goal

abbrev pub invariant-loop-suffix : goal.invariant-loop-suffix
invariant-loop-suffix g l = AreHeld g.N.Naming.digest_of l.objects → record {
  rest : IsFirstParentChain l.objects l.fn.chain → AreTagEnds l.objects l.fn.tags
      → after_suffixes l.objects l.suffixes l.fn.id
      ≡ after_suffixes l.objects (drop l.suffix-index l.suffixes) l.at;
  chain : IsFirstParentChain l.objects l.fn.chain → IsFirstParentChain l.objects l.chain;
  tags : AreTagEnds l.objects l.fn.tags → AreTagEnds l.objects l.tags;
}
