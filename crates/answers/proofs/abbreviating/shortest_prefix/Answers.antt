use Rattle.std.proofs.Common.{arith}
use Rattle.std.proofs.lemmas.List.Elements.{All-weaker}
use Rattle.git_model.specs.HeldObjects.{IsHeldObject}
use Rattle.git_model.specs.ObjectName.{IsObjectName}
use Rattle.git_model.specs.Repository.{Object}
use Rattle.answers.proofs.Prefixes.{shortest_by}
use Rattle.answers.proofs.abbreviating.shortest_prefix.Goals as goal

pub returns-clause-prefix : goal.returns-clause-prefix
returns-clause-prefix g c held =
    let named = All-weaker (IsHeldObject g.N.Naming.digest_of)
    (λ (o : Object). IsObjectName o.id) (λ o is. is.name) c.args.objects.now held.each in
    shortest_by c.args.objects.now c.args.id.now c.most_shared.result c.max.result named
    c.has_twenty_bytes.ensures c.most_shared.ensures
    (omega (arith, c.min-shared.ensures, c.max.ensures))
