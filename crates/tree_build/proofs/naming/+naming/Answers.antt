use Rattle.std.proofs.Common.{◌≡◌, List, [], ◌∷◌, ◌++◌, map, IfOk, sym, ap, ◌∙◌, subst, rules, arith, ℕ, ◌<◌, ◌≤◌}
use Rattle.std.proofs.lemmas.List.{map-append, take_all}
use Rattle.git_model.specs.Tree.{TreeEntry}
use Rattle.git_objects.specs.Parts.{entry_of, entries_of}
use Rattle.file_maps.specs.StoredFiles.{stored_files}
use Rattle.file_maps.specs.Trees.{tree_name}
use Rattle.file_maps.proofs.Nested.{pushed}
use Rattle.file_maps.proofs.TreeOf
use Rattle.tree_build.specs.Stores.{parts_of}
use Rattle.tree_build.proofs.Inside.{entries-inside}
use Rattle.tree_build.specs.Shape.{Directory}
use Rattle.tree_build.specs.Nodes.{shape_of}
use Rattle.tree_build.proofs.Here.{here-unopened, here-opened, tree-known, some-at, one-row}
use Rattle.tree_build.proofs.Places.{Entries, sound-at, size-at}
use Rattle.tree_build.proofs.naming.+naming.Goals as goal

pub entry_here-returns-in-Unopened : goal.entry_here-returns-in-Unopened
entry_here-returns-in-Unopened g t c =
    here-unopened g.N.Naming.digest_of c.args.objects.now c.are_backed.ensures c.args.node.now c.in-Unopened.name c.directory.result
    c.in-Unopened.is c.requires.sound c.requires.some c.directory.ensures

pub entry_here-returns-in_ok-tree_of-in-Opened : goal.entry_here-returns-in_ok-tree_of-in-Opened
entry_here-returns-in_ok-tree_of-in-Opened g t c =
    here-opened g.N.Naming.digest_of (stored_files c.args.objects.now) c.args.node.now c.in-Opened.dir c.in_ok-tree_of-in-Opened.field-0 c.directory-in-Opened.result
    c.in-Opened.is c.requires.some c.in_ok-tree_of-in-Opened.ensures c.directory-in-Opened.ensures

pub tree_of-returns-in-Some : goal.tree_of-returns-in-Some
tree_of-returns-in-Some g t c =
    tree-known g.N.Naming.digest_of c.args.objects.now c.are_backed.ensures c.args.dir.now c.in-Some.name
    (sym (ap (λ (d : Directory). d.tree) c.dir.view_is) ∙ c.in-Some.is)
    c.requires.sound

pub push_rows-entry_here-requires : goal.push_rows-entry_here-requires
push_rows-entry_here-requires g t c κs within =
    let os = c.args.objects.now in
    let size = size-at c.args.entries.now.items c.loop-place.place c.at-entry.result.now (subst (λ (n : ℕ). c.loop-place.place < n) c.len-place-end.ensures c.loop-place-test.true) c.at-entry.ensures in (
      omega (arith, c.decreases, size),
      (
        search (rules, within),
        (
          sound-at os c.args.entries.now.items c.loop-place.place c.at-entry.result.now (subst (λ (n : ℕ). c.loop-place.place < n) c.len-place-end.ensures c.loop-place-test.true) c.at-entry.ensures c.requires.sound,
          some-at os c.args.entries.now.items c.loop-place.place c.at-entry.result.now (subst (λ (n : ℕ). c.loop-place.place < n) c.len-place-end.ensures c.loop-place-test.true) c.at-entry.ensures c.requires.sound,
        ),
      ),
    )

pub push_rows-loop-place-preserved : goal.push_rows-loop-place-preserved
push_rows-loop-place-preserved g t c =
    let os = c.args.objects.now in
    let one = pushed c.push.result c.is_err.result c.push.new.self.items c.loop-place.rows.items c.row_of.result c.is_err.ensures.negation c.if-is_err.false c.push.ensures.items in
    ap entries_of one ∙ map-append entry_of c.loop-place.rows.items (c.row_of.result ∷ [])
    ∙ ap (λ (l : List TreeEntry). l ++ entry_of c.row_of.result ∷ []) c.loop-place.invariant
    ∙ sym
    (one-row g.N.Naming.digest_of (stored_files os) c.args.entries.now.items c.loop-place.place c.at-entry.result.now c.in_ok-held.held (entry_of c.row_of.result)
    (subst (λ (n : ℕ). c.loop-place.place < n) c.len-place-end.ensures c.loop-place-test.true) c.at-entry.ensures
    (some-at os c.args.entries.now.items c.loop-place.place c.at-entry.result.now (subst (λ (n : ℕ). c.loop-place.place < n) c.len-place-end.ensures c.loop-place-test.true) c.at-entry.ensures c.requires.sound)
    c.in_ok-held.ensures c.row_of.ensures)

pub push_rows-returns : goal.push_rows-returns
push_rows-returns g t c =
    let os = c.args.objects.now in
    c.loop-place.invariant
    ∙ ap
    (λ (l : Entries). map (TreeOf.entry_of g.N.Naming.digest_of) (parts_of (stored_files os) (shape_of l)))
    (take_all c.loop-place.place c.args.entries.now.items (subst (λ (n : ℕ). n ≤ c.loop-place.place) c.len-place-end.ensures c.loop-place-test.false))
    ∙ sym (entries-inside g.N.Naming.digest_of os (shape_of c.args.entries.now.items) c.requires.sound)

pub tree_of_entries-returns-in-Ok : goal.tree_of_entries-returns-in-Ok
tree_of_entries-returns-in-Ok g t c =
    subst
    (λ (es : List TreeEntry). IfOk c.name_of_rows.result (λ id. id ≡ tree_name g.N.Naming.digest_of es))
    (ap entries_of c.deref.ensures.value ∙ c.in-Ok.ensures) c.name_of_rows.ensures
