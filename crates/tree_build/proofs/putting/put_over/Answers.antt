use Rattle.std.proofs.Common.{length, sym, ap, ◌∙◌, arith}
use Rattle.file_maps.specs.StoredFiles.{stored_files}
use Rattle.tree_build.specs.Shape.{Held, held_files}
use Rattle.tree_build.specs.Nodes.{held, shape_of}
use Rattle.tree_build.specs.Editing.{removed, inserted}
use Rattle.tree_build.proofs.Entries.{one_held, entry_at, count_there}
use Rattle.tree_build.proofs.Named.{entry_found}
use Rattle.tree_build.proofs.putting.put_over.Goals as goal

pub count-gone-requires-clause-sound : goal.count-gone-requires-clause-sound
count-gone-requires-clause-sound g c =
    let os = c.args.objects.now in
    let es = c.args.entries.now.items in
    let found = entry_found c.args.name.now es c.args.at c.requires.there c.at.result.now c.at.ensures in
    let e = entry_at os (shape_of es) c.requires.sound c.args.name.now (held c.at.result.now.1) found.stands in (e.0.sound, e.1)

pub count-gone-requires-clause-few : goal.count-gone-requires-clause-few
count-gone-requires-clause-few g c =
    let os = c.args.objects.now in
    let es = c.args.entries.now.items in
    let found = entry_found c.args.name.now es c.args.at c.requires.there c.at.result.now c.at.ensures in
    let few = c.requires.few in
    let m = count_there (stored_files os) (shape_of es) c.args.name.now (held c.at.result.now.1) found.stands in
    omega arith

pub returns-clause-gone : goal.returns-clause-gone
returns-clause-gone g c = λ h there.
    let os = c.args.objects.now in
    let es = c.args.entries.now.items in
    let found = entry_found c.args.name.now es c.args.at c.requires.there c.at.result.now c.at.ensures in
    c.count-gone.ensures
    ∙ ap (λ (x : Held). length (held_files (stored_files os) x)) (one_held (held c.at.result.now.1) h (sym found.stands ∙ there))

pub returns-clause-entries : goal.returns-clause-entries
returns-clause-entries g c =
    c.in_ok-put_instead.ensures
    ∙ ap (λ (x : Held). inserted c.args.name.now x (removed (shape_of c.args.entries.now.items) c.args.name.now)) c.in_ok-new_node.ensures
