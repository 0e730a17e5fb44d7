use Rattle.std.proofs.Common.{ℕ, List, Option, subst, inl, inr}
use Rattle.revisions.specs.declared.fault.Fault.TheVariants as fault
use Rattle.git_model.specs.Results.{or_fault}
use Rattle.revisions.specs.Faults.{Gives}
use Rattle.revisions.proofs.TagWays.{peeled_past}
use Rattle.revisions.proofs.tag_ends.peel_along.Goals as goal

pub returns-in-Some : goal.returns-in-Some
returns-in-Some g c = record {
  found = λ held ends.
      let way = rw c.in-Some.is at c.in_ok-end-in-Commit.ensures.found held ends in
      let same = peeled_past g.N.Naming.digest_of c.args.objects.now held c.args.wanted c.args.id c.in-Some.end
      (λ is. elim c.in-Commit.is [ inl at ↦ cc | inr rest ↦ elim rest [ inl at ↦ cc | inr at ↦ cc ] ]) way in
      subst (λ (o : Option (List ℕ)). Gives c.peel-in-Some.result (or_fault fault.WrongKind o)) same
      (c.peel-in-Some.ensures held);
  tags = λ held ends. c.end_of.ensures.tags held ends;
}
