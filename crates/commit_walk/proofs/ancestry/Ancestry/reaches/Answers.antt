use Rattle.std.proofs.Common.{List, sym, subst, ap, ◌∙◌, arith}
use Rattle.git_model.specs.Repository.{Object}
use Rattle.git_model.specs.HeldObjects.{AreHeld}
use Rattle.git_model.specs.Reach.{reaches}
use Rattle.commit_walk.specs.Remembered.{Tells}
use Rattle.commit_walk.proofs.Answers.{no_tip, no_old, not_after, place_tells}
use Rattle.commit_walk.proofs.ancestry.Ancestry.reaches.Goals as goal

pub returns-in_default-clause-judged : goal.returns-in_default-clause-judged
returns-in_default-clause-judged g c good =
    sym (no_old c.self.inside.objects c.args.tip.now c.args.old.now c.in_default.ensures)
    ∙ ap (λ (os : List Object). reaches os c.args.tip.now c.args.old.now) c.self.view_is

pub returns-in_default-commit_place-clause-judged :
    goal.returns-in_default-commit_place-clause-judged
returns-in_default-commit_place-clause-judged g c good =
    sym (no_tip c.self.inside.objects c.args.tip.now c.args.old.now c.in_default-commit_place.ensures)
    ∙ ap (λ (os : List Object). reaches os c.args.tip.now c.args.old.now) c.self.view_is

pub returns-then-top-floor-clause-judged : goal.returns-then-top-floor-clause-judged
returns-then-top-floor-clause-judged g c good =
    let top_is = c.in-Some-commit_place.ensures.1 in
    let floor_is = c.in-Some.ensures.1 in
    sym (not_after _ c.self.inside.objects (subst (AreHeld g.N.Naming.digest_of) (sym c.self.view_is) good)
    c.args.tip.now c.args.old.now (omega (arith, top_is, floor_is)))
    ∙ ap (λ (os : List Object). reaches os c.args.tip.now c.args.old.now) c.self.view_is

pub returns-clause-judged : goal.returns-clause-judged
returns-clause-judged g c good =
    let here = subst (AreHeld g.N.Naming.digest_of) (sym c.self.view_is) good in
    let tip = c.in-Some-commit_place.ensures in
    let old = c.in-Some.ensures in
    let told : Tells c.self.inside.objects c.in-Some-commit_place.top c.in-Some.floor c.in_ok-is_reached.is_reached =
    subst (λ (os : List Object). Tells os c.in-Some-commit_place.top c.in-Some.floor c.in_ok-is_reached.is_reached)
    (sym c.self.view_is) (c.in_ok-is_reached.ensures.tells good) in
    place_tells _ c.self.inside.objects here c.args.tip.now c.args.old.now told.floor c.in-Some.floor
    c.in-Some-commit_place.top told.flags c.in_ok-is_reached.is_reached tip.0 tip.1 tip.2 old.1 old.2
    told.above told.reached told.told
    ∙ ap (λ (os : List Object). reaches os c.args.tip.now c.args.old.now) c.self.view_is
