use Rattle.std.proofs.Common.{sym, ap, map, slice_get, List, ℕ, ◌∙◌}
use Rattle.git_model.specs.HeaderReading.{id_of_digits}
use Rattle.commit_walk.proofs.HeaderLines.{parents_read, first_there, first_missing}
use Rattle.commit_walk.proofs.lines.first_parent_in.Goals as goal

pub returns-in-Some : goal.returns-in-Some
returns-in-Some c = λ (front, rest, is, e).
    first_there front rest c.after_tree.result.now front.parents _ is.parents (c.after_tree.ensures front rest is e)
    (λ d more names there. (c.in-Some.ensures.there d more names there).0)
    (λ same. let other = c.in-Some.ensures.none (λ begins. is.no_more_parents (begins.0, sym same ∙ begins.1)) in cc)
    ∙ ap (λ (ids : List (List ℕ)). slice_get ids 0) (sym (parents_read c.args.contents.now front rest is e))

pub returns-in-None : goal.returns-in-None
returns-in-None c = λ (front, rest, is, e).
    ap (λ (ds : List (List ℕ)). slice_get (map id_of_digits ds) 0)
    (sym (first_missing front rest c.after_tree.result.now front.parents is.parents (c.after_tree.ensures front rest is e)
    (λ d more names there. c.in-None.ensures.there d more names there)))
    ∙ ap (λ (ids : List (List ℕ)). slice_get ids 0) (sym (parents_read c.args.contents.now front rest is e))
