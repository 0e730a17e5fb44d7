use Rattle.std.proofs.Common.{ℕ, List, [], ◌∷◌, refl, sym, subst}
use Rattle.tenant_service.specs.Headline.{IsIsolated, IsRefused, response_in}
use Rattle.tenant_service.specs.TenantState.{held_of}
use Rattle.service_steps.specs.declared.request.Request.{Request}
use Rattle.gitpool.specs.Requests.{Takes, hosted, told_with}
use Rattle.gitpool.proofs.hosting.take.Goals as goal

pub returns-in-Step : goal.returns-in-Step
returns-in-Step g c =
    let D = g.N.Naming.digest_of in
    let before = c.args.service.now in
    let after = c.step.new.self in
    let out = c.step.new.out.items in
    let file = g.P.PoolPlace.file c.args.place.now in
    subst (λ (r : Request). Takes D r (hosted before file) (told_with c.step.result out) (hosted after file))
    (sym c.in-Step.is) (
      record {
        own = λ t. subst (λ (o : List ℕ). IsIsolated D t (held_of t before)
            ((c.in-Step.step, response_in c.step.result o out) ∷ []) (held_of t after))
            c.requires (c.step.ensures.own t);
        kept = c.step.ensures.kept;
        opened = c.step.ensures.opened;
        bad_names = subst (λ (o : List ℕ). IsRefused (c.in-Step.step, response_in c.step.result o out))
            c.requires c.step.ensures.bad_names;
      },
      refl,
    )

pub returns-in-Missing : goal.returns-in-Missing
returns-in-Missing g c =
    let D = g.N.Naming.digest_of in
    let held = hosted c.args.service.now (g.P.PoolPlace.file c.args.place.now) in
    subst (λ (r : Request). Takes D r held (told_with c.answer_missing.result c.answer_missing.new.out.items) held)
    (sym c.in-Missing.is) (refl, c.answer_missing.ensures)
