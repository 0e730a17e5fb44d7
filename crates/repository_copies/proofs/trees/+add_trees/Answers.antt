use Rattle.std.proofs.Common.{◌≡◌, List, sym, ap, subst, ◌∙◌, arith}
use Rattle.std.proofs.lemmas.Bool.{false≢true}
use Rattle.std.proofs.lemmas.List.{take_all}
use Rattle.std.proofs.lemmas.Result.{on_ok_weaker}
use Rattle.git_model.specs.declared.file_mode.FileMode.TheVariants as mode
use Rattle.git_model.specs.declared.kind.Kind.TheVariants as kind
use Rattle.git_model.specs.GoodRepository.{StandsBefore}
use Rattle.git_model.specs.References.{place_of, reference}
use Rattle.git_model.specs.StoredPath.{entries_of as stored_entries}
use Rattle.git_model.specs.Tree.{TreeEntry}
use Rattle.git_objects.specs.Parts.{entries_of, entry_of}
use Rattle.repository_copies.proofs.TreeSteps.{AreVisited, already, directory-visited, entries-next, entry-told, finished, none-visited, other-visited, place-within, tree-at}
use Rattle.repository_copies.proofs.trees.+add_trees.Goals as goal
use Rattle.repository_copies.proofs.trees.+add_trees.Goals.{in-None, in-Some+in_ok-add_trees-in-Some}

pub returns-then-has : goal.returns-then-has
returns-then-has g t c good tree is place are whole =
    already g.N.Naming.digest_of c.args.objects.now good tree is c.args.place place c.args.found.now are whole
    (sym c.has.ensures ∙ c.if-has.true)

pub loop-entry-init : goal.loop-entry-init
loop-entry-init g t c good tree is place are whole = none-visited c.args.objects.now c.args.found.now are whole

pub loop-entry-preserved : goal.loop-entry-preserved
loop-entry-preserved g t c good tree is place are whole =
    let digest = g.N.Naming.digest_of in
    let os = c.args.objects.now in
    let items = c.deref-entry-items.result.now in
    let i = c.loop-entry.entry-index in
    let e = c.entry-item.result in
    let lt = c.loop-entry-test.true in
    let before = c.args.found.now in
    let same : entries_of items ≡ stored_entries os tree = ap entries_of c.deref-entry-items.ensures.value
    ∙ c.in_ok-entries.ensures good tree is place in
    let stands = entry-told (λ (x : TreeEntry). x.mode ≡ mode.Directory → StandsBefore os (place_of tree os) (reference kind.Tree x.id))
    items (stored_entries os tree) same (tree-at digest os good tree is).below i e lt c.entry-item.is in
    let grown = entries-next items i e lt c.entry-item.is in
    let were = c.loop-entry.invariant good tree is place are whole in
    elim c.match-place_below.branch [
      | in-Some+in_ok-add_trees-in-Some w ↦
          let directory = w.in-Some.ensures.found.0 in
          let kind = (stands directory).kind in
          rw w.found-is (directory-visited digest os good _ _ (entry_of e) before c.loop-entry.found w.add_trees.new.found
          grown directory kind were
          (w.in_ok-add_trees-in-Some.ensures good e.id kind w.in-Some.ensures.found.1 were.adds.found were.whole))
      | in-None w ↦
          let within = place-within digest os good tree is c.args.place place in
          rw w.found-is (other-visited os _ _ (entry_of e) before c.loop-entry.found grown
          (λ (directory : e.mode ≡ mode.Directory).
          let below = (stands directory).before in
          absurd (false≢true (w.in-None.ensures.none within directory (omega (arith, below, place))))) were)
    ]

pub returns : goal.returns
returns g t c good tree is place are whole =
    let digest = g.N.Naming.digest_of in
    let os = c.args.objects.now in
    let items = c.deref-entry-items.result.now in
    let same : entries_of items ≡ stored_entries os tree = ap entries_of c.deref-entry-items.ensures.value
    ∙ c.in_ok-entries.ensures good tree is place in
    let all = subst (λ (es : List TreeEntry). AreVisited os es c.args.found.now c.loop-entry.found)
    (ap entries_of (take_all c.loop-entry.entry-index items c.loop-entry-test.false) ∙ same)
    (c.loop-entry.invariant good tree is place are whole) in
    on_ok_weaker c.add.result
    (finished digest os good tree is c.args.place place c.args.found.now c.loop-entry.found c.add.new.self all)
    (c.add.ensures digest os good (place-within digest os good tree is c.args.place place) all.adds.found)
