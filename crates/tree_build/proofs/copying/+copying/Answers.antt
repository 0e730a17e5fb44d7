use Rattle.std.proofs.Common.{map, ap, ◌∙◌, rules, arith, ℕ, ◌<◌, ◌≤◌, subst}
use Rattle.std.proofs.lemmas.List.{take_all}
use Rattle.tree_build.proofs.Copies.{copied_row, copied_rows}
use Rattle.tree_build.proofs.Named.{Rows}
use Rattle.tree_build.proofs.Places.{size-at}
use Rattle.tree_build.proofs.copying.+copying.Goals as goal

pub copied_entries-copied-requires-in-loop-place : goal.copied_entries-copied-requires-in-loop-place
copied_entries-copied-requires-in-loop-place t c =
    let d = c.decreases in
    let size = size-at c.args.entries.now.items c.loop-place.place c.at-entry.result.now
    (subst (λ (n : ℕ). c.loop-place.place < n) c.len-place-end.ensures c.loop-place-test.true) c.at-entry.ensures in
    omega arith

pub copied_entries-returns : goal.copied_entries-returns
copied_entries-returns t c =
    copied_rows c.loop-place.copies.items c.args.entries.now.items
    (c.loop-place.invariant
    ∙ ap (λ (xs : Rows). map copied_row xs)
    (take_all c.loop-place.place c.args.entries.now.items (subst (λ (n : ℕ). n ≤ c.loop-place.place) c.len-place-end.ensures c.loop-place-test.false)))

pub copied_dir-returns-in-Some : goal.copied_dir-returns-in-Some
copied_dir-returns-in-Some t c = search rules
