use Rattle.std.proofs.Common.{ℕ, List, length, sym, ◌∙◌, subst}
use Rattle.std.proofs.lemmas.List.{append-nil}
use Rattle.tree_build.specs.Searches.{IsPlaceAfter}
use Rattle.tree_build.proofs.Searched.{none_past}
use Rattle.tree_build.proofs.names.find.Goals as goal

pub returns-then-is_past_all-clause-place : goal.returns-then-is_past_all-clause-place
returns-then-is_past_all-clause-place c =
    let es = c.args.entries.now.items in
    sym (none_past c.args.name.now es c.requires (c.is_last.ensures.other c.if-is_last.false)
    (subst (λ (key : List ℕ). IsPlaceAfter key es (length es)) c.ordered.ensures (c.is_past_all.ensures c.if-is_past_all.true)))

pub returns-then-is_past_all-clause-past : goal.returns-then-is_past_all-clause-past
returns-then-is_past_all-clause-past c _ =
    let es = c.args.entries.now.items in
    subst (λ (key : List ℕ). IsPlaceAfter key es (length es)) (c.ordered.ensures ∙ append-nil c.args.name.now)
    (c.is_past_all.ensures c.if-is_past_all.true)
