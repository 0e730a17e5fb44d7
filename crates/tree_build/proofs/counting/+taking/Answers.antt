use Rattle.std.proofs.Common.{◌≡◌, ℕ, List, Bool, [], ◌∷◌, length, refl, sym, ap, ◌∙◌, arith, rules}
use Rattle.std.specs.Prelude.{Option, None}
use Rattle.file_maps.specs.FileMap.{Path}
use Rattle.file_maps.specs.StoredFiles.{stored_files}
use Rattle.tree_build.specs.Shape.{Held}
use Rattle.tree_build.specs.Nodes.{held, shape_of}
use Rattle.tree_build.specs.Editing.{entries_in, taken, taken_at}
use Rattle.tree_build.proofs.Entries.{entry_at, count_there}
use Rattle.tree_build.proofs.Named.{entry_found, name_lacks}
use Rattle.tree_build.proofs.counting.+taking.Goals as goal

none_taken : (known : List ℕ → List (Path × Rattle.file_maps.specs.declared.entry.Entry.Entry)) (clear : Bool) (path : Path) (n : ℕ) → taken_at known clear path None n ≡ 0
none_taken known clear [] n = refl
none_taken known clear (d ∷ path) n = refl

pub taken-taken_below-requires : goal.taken-taken_below-requires
taken-taken_below-requires g t c κs within =
    let os = c.args.objects.now in
    let d = c.decreases in
    let n = ap (λ (p : Path). length p) c.in-Some.ensures in
    let found = entry_found c.in-Some.name.now c.args.entries.now.items c.in-Some-place_of.at
    (sym c.place_of.ensures ∙ c.in-Some-place_of.is) c.at.result.now c.at.ensures in
    let e = entry_at os (shape_of c.args.entries.now.items) c.requires.sound c.in-Some.name.now (held c.at.result.now.1) found.stands in
    let m = count_there (stored_files os) (shape_of c.args.entries.now.items) c.in-Some.name.now (held c.at.result.now.1) found.stands in
    let few = c.requires.few in
    (omega arith, (search (rules, within), ((e.0.sound, e.1), omega arith)))

pub taken-returns-in-Some-place_of : goal.taken-returns-in-Some-place_of
taken-returns-in-Some-place_of g t c =
    let os = c.args.objects.now in
    let found = entry_found c.in-Some.name.now c.args.entries.now.items c.in-Some-place_of.at
    (sym c.place_of.ensures ∙ c.in-Some-place_of.is) c.at.result.now c.at.ensures in
    c.taken_below.ensures
    ∙ ap (λ (o : Option Held). taken_at (stored_files os) c.args.clear c.in-Some.rest o
    (taken (stored_files os) c.args.clear c.in-Some.rest (entries_in o))) (sym found.stands)
    ∙ ap (λ (p : Path). taken (stored_files os) c.args.clear p (shape_of c.args.entries.now.items)) (sym c.in-Some.ensures)

pub taken-returns-in-None : goal.taken-returns-in-None
taken-returns-in-None g t c =
    let os = c.args.objects.now in
    let lacks = name_lacks c.in-Some.name.now c.args.entries.now.items (sym c.place_of.ensures ∙ c.in-None.is) in
    sym (ap (λ (p : Path). taken (stored_files os) c.args.clear p (shape_of c.args.entries.now.items)) c.in-Some.ensures
    ∙ ap (λ (o : Option Held). taken_at (stored_files os) c.args.clear c.in-Some.rest o
    (taken (stored_files os) c.args.clear c.in-Some.rest (entries_in o))) lacks.0
    ∙ none_taken (stored_files os) c.args.clear c.in-Some.rest (taken (stored_files os) c.args.clear c.in-Some.rest (entries_in None)))
