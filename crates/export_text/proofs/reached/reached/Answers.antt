use Rattle.std.proofs.Common.{ℕ, false, length, replicate, ap, ◌∙◌}
use Rattle.std.proofs.lemmas.List.{length-replicate}
use Rattle.commit_walk.proofs.Answers.{lent}
use Rattle.export_text.proofs.reached.reached.Goals as goal

pub walk-requires : goal.walk-requires
walk-requires g c = record {
  blank = c.deref_mut.ensures.value ∙ c.in_ok-flags.ensures.items_if_clones_equal (λ y e. e)
      ∙ ap (λ (n : ℕ). replicate n false) c.len.ensures;
}

pub returns-clause-size : goal.returns-clause-size
returns-clause-size g c =
    let same = c.walk.auto.flags ∙ ap length c.deref_mut.ensures.value in
    let blank = c.in_ok-flags.ensures.items_if_clones_equal (λ y e. e) in
    ap length (lent c.in_ok-flags.flags.len c.walk.new.flags c.in_ok-flags.flags.items c.in_ok-flags.flags.ok.0 same)
    ∙ same ∙ ap length blank ∙ length-replicate c.len.result false ∙ c.len.ensures

pub returns-clause-reached : goal.returns-clause-reached
returns-clause-reached g c held =
    lent c.in_ok-flags.flags.len c.walk.new.flags c.in_ok-flags.flags.items c.in_ok-flags.flags.ok.0
    (c.walk.auto.flags ∙ ap length c.deref_mut.ensures.value)
    ∙ c.in_ok-walk.ensures held
