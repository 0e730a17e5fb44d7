use Rattle.std.proofs.Common.{◌==◌, ◌++◌, ◌∷◌, [], sym, ap, ◌∙◌, rules, tests}
use Rattle.std.specs.List.{flat_map}
use Rattle.std.proofs.lemmas.Iterator.Consumers.{YieldsList-at, YieldsList-end}
use Rattle.std.proofs.lemmas.Iterator.Splits.{YieldsList-from_slice_split}
use Rattle.tenant_refs.specs.FullName.{namespace_of}
use Rattle.tenant_refs.proofs.FullNames.{pushed, flat_map-more}
use Rattle.tenant_refs.proofs.namespace.namespaces.Goals as goal

-- one part's namespace goes after those so far
pub loop-part-preserved : goal.loop-part-preserved
loop-part-preserved c =
    c.in_ok-push.ensures.items
    ∙ ap (λ l. l ++ 47 ∷ [])
    (c.in_ok-extend_from_slice-2.ensures.items ∙ ap (λ l. l ++ c.in-Some.part.now) c.in_ok-extend_from_slice.ensures.items)
    ∙ pushed c.loop-part.front.items c.in-Some.part.now
    ∙ ap (λ l. l ++ namespace_of c.in-Some.part.now) c.loop-part.invariant
    ∙ sym (flat_map-more _ c.loop-part.yielded c.in-Some.part)

-- the loop went over each part
pub returns : goal.returns
returns c =
    let seen = YieldsList-end
    (YieldsList-at c.into_iter-part-iterator.ensures.into_iter_gives
    (YieldsList-from_slice_split _ (λ byte. byte == 47) c.args.tenant.now c.split-part-items.ensures.rest c.split-part-items.ensures.done c.split-part-items.ensures.closure (λ x b q k. search (rules, tests))))
    c.loop-part.yielded _ c.loop-part.yielded_by _ _ c.in-None.is c.next.ensures.steps in
    c.loop-part.invariant ∙ ap (flat_map namespace_of) seen.0
