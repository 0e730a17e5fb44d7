use Rattle.std.proofs.Common.{length, sym, ap, ◌∙◌, subst, arith, rules, ℕ, ◌<◌, ◌≤◌}
use Rattle.file_maps.specs.StoredFiles.{stored_files}
use Rattle.std.proofs.lemmas.List.{drop_all}
use Rattle.tree_build.specs.declared.dir.Node.{Node}
use Rattle.tree_build.specs.Branch.{IsHeld}
use Rattle.tree_build.specs.Nodes.{held}
use Rattle.tree_build.specs.Shape.{shape_files, held_files}
use Rattle.tree_build.specs.Nodes.{shape_of}
use Rattle.tree_build.proofs.Counted.{turn}
use Rattle.tree_build.proofs.Named.{Rows}
use Rattle.tree_build.proofs.counting.+counting.Goals as goal

pub count-returns-in-Unopened : goal.count-returns-in-Unopened
count-returns-in-Unopened g t c =
    let os = c.args.objects.now in
    let sound = subst (λ (n : Node). IsHeld os (held n)) c.in-Unopened.is c.requires.sound in
    c.count_stored.ensures
    ∙ ap (λ (n : Node). length (held_files (stored_files os) (held n))) (sym c.in-Unopened.is)

pub count_all-count-files-requires : goal.count_all-count-files-requires
count_all-count-files-requires g t c κs within =
    let os = c.args.objects.now in
    let x = turn os c.args.entries.now.items c.loop-place.place c.at-entry.result.now c.requires.sound (subst (λ (n : ℕ). c.loop-place.place < n) c.len-place-end.ensures c.loop-place-test.true) c.at-entry.ensures in
    let d = c.decreases in
    let f = x.files in
    let i = c.loop-place.invariant in
    let few = c.requires.few in
    let s = x.smaller in
    (omega arith, (search (rules, within), (x.sound, omega arith)))

pub count_all-overflow_add-files : goal.count_all-overflow_add-files
count_all-overflow_add-files g t c =
    let os = c.args.objects.now in
    let x = turn os c.args.entries.now.items c.loop-place.place c.at-entry.result.now c.requires.sound (subst (λ (n : ℕ). c.loop-place.place < n) c.len-place-end.ensures c.loop-place-test.true) c.at-entry.ensures in
    let f = x.files in
    let i = c.loop-place.invariant in
    let few = c.requires.few in
    let n = c.count-files.ensures in
    omega arith

pub count_all-loop-place-preserved : goal.count_all-loop-place-preserved
count_all-loop-place-preserved g t c =
    let os = c.args.objects.now in
    let x = turn os c.args.entries.now.items c.loop-place.place c.at-entry.result.now c.requires.sound (subst (λ (n : ℕ). c.loop-place.place < n) c.len-place-end.ensures c.loop-place-test.true) c.at-entry.ensures in
    let f = x.files in
    let i = c.loop-place.invariant in
    let n = c.count-files.ensures in
    omega arith

pub count_all-returns : goal.count_all-returns
count_all-returns g t c =
    let os = c.args.objects.now in
    let none = ap (λ (xs : Rows). length (shape_files (stored_files os) (shape_of xs)))
    (drop_all c.loop-place.place c.args.entries.now.items (subst (λ (n : ℕ). n ≤ c.loop-place.place) c.len-place-end.ensures c.loop-place-test.false)) in
    let i = c.loop-place.invariant in
    omega arith
