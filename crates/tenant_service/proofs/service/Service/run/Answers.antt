use Rattle.std.proofs.Common.{◌≡◌, ◌<◌, ◌++◌, ◌∷◌, [], ℕ, false, List, length, drop, refl, ap, ◌∙◌, subst, sym, arith}
use Rattle.std.proofs.lemmas.List.{length-append}
use Rattle.std.proofs.lemmas.List.Elements.{All-from_recursion}
use Rattle.service_steps.specs.declared.step.Step.{Step}
use Rattle.service_steps.specs.declared.reply.Reply.{Reply}
use Rattle.tenant_service.specs.Headline.{IsIsolated, response_in, told_by_reply, Run}
use Rattle.tenant_service.specs.Kept.{may_change}
use Rattle.tenant_service.specs.TenantState.{held_of}
use Rattle.tenant_service.proofs.RunLemmas.{own-none, run-none, run-goes_on, bad-none, bad-goes_on, appended-none, appended-more}
use Rattle.tenant_service.proofs.service.Service.run.Goals as goal

pub loop-step-init : goal.loop-step-init
loop-step-init g c = record {
  own = λ tenant.
      subst (λ (run : Run). IsIsolated g.N.Naming.digest_of tenant (held_of tenant c.args.self.now) run (held_of tenant c.args.self.now))
      (sym (run-none c.args.steps.now c.args.replies.now.items)) (own-none g.N.Naming.digest_of tenant (held_of tenant c.args.self.now));
  kept = λ tenant still. refl;
  appended = appended-none c.args.replies.now.items;
  count = omega arith;
  bad_names = bad-none c.args.steps.now c.args.replies.now.items;
}

pub loop-step-preserved : goal.loop-step-preserved
loop-step-preserved g c =
    let r : Reply = record { answer = c.step-answer.result; bytes = c.step-answer.new.out } in
    let says : response_in c.step-answer.result c.new-bytes.result.items c.step-answer.new.out.items ≡ told_by_reply r =
    ap (λ (none : List ℕ). response_in c.step-answer.result none c.step-answer.new.out.items) c.new-bytes.ensures.items in
    let is : c.push.new.self.items ≡ c.loop-step.replies.items ++ r ∷ [] =
    (rw c.unwrap.ensures at c.push.ensures.items) ∙ ap (λ (rs : List Reply). rs ++ r ∷ []) c.in_ok-reserve.ensures.items in
    let count = c.loop-step.invariant.count in
    let within : c.loop-step.step-index < length c.args.steps.now = omega arith in
    record {
      own = λ tenant.
          run-goes_on g.N.Naming.digest_of tenant (held_of tenant c.args.self.now) (held_of tenant c.loop-step.self) (held_of tenant c.step-answer.new.self)
          c.args.steps.now c.args.replies.now.items c.loop-step.replies.items c.push.new.self.items r _ c.loop-step.step-index _
          count within is says (c.loop-step.invariant.own tenant) (c.step-answer.ensures.own tenant);
      kept = λ tenant still.
          c.step-answer.ensures.kept tenant
          (All-from_recursion (λ (s : Step). may_change tenant s ≡ false) c.args.steps.now still
          c.loop-step.step-index _ within)
          ∙ c.loop-step.invariant.kept tenant still;
      appended =
          is ∙ appended-more c.args.replies.now.items c.loop-step.replies.items r c.loop-step.invariant.appended (omega (arith, count))
          ∙ ap (λ (rs : List Reply). c.args.replies.now.items ++ drop (length c.args.replies.now.items) rs) (sym is);
      count = ap (λ (rs : List Reply). length rs) is ∙ length-append c.loop-step.replies.items (r ∷ []) ∙ omega (arith, count);
      bad_names =
          bad-goes_on c.args.steps.now c.args.replies.now.items c.loop-step.replies.items c.push.new.self.items r _ c.loop-step.step-index _
          count within is says c.loop-step.invariant.bad_names c.step-answer.ensures.bad_names;
    }
