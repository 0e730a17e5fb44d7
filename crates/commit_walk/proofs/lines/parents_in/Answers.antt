use Rattle.std.proofs.Common.{◌++◌, List, ℕ, map, refl, sym, ap, ◌∙◌}
use Rattle.git_model.specs.HeaderReading.{id_of_digits}
use Rattle.commit_walk.proofs.HeaderLines.{parents_read, one_taken, none_left}
use Rattle.commit_walk.proofs.lines.parents_in.Goals as goal

pub line-init : goal.line-init
line-init c = λ front rest is e.
    (front.parents, (is.parents, rw c.new-parents.ensures.items refl, c.after_tree-rest.ensures front rest is e))

pub line-preserved : goal.line-preserved
line-preserved c = λ front rest is e.
    let left = c.line.invariant front rest is e in
    let taken = one_taken front rest c.line.rest.now c.line.parents.items left.0 _ _ left.1
    (λ d more names there. c.in-Some.ensures.there d more names there)
    (λ same. let other = c.in-Some.ensures.none (λ begins. is.no_more_parents (begins.0, sym same ∙ begins.1)) in cc) in
    (taken.0, (taken.1.0, ap (λ (xs : List (List ℕ)). xs ++ map id_of_digits taken.0) c.in_ok-push.ensures.items ∙ taken.1.1, taken.1.2))

pub returns : goal.returns
returns c = λ (front, rest, is, e).
    let left = c.line.invariant front rest is e in
    none_left front rest c.line.rest.now c.line.parents.items left.0 left.1
    (λ d more names there. c.in_default.ensures.there d more names there)
    ∙ sym (parents_read c.args.contents.now front rest is e)
