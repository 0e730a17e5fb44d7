use Rattle.std.proofs.Common.{◌≡◌, ◌≢◌, ℕ, List, [], ◌∷◌, ◌++◌, length, refl, sym, ap, ◌∙◌, arith}
use Rattle.std.proofs.lemmas.Bool.{eqb-true, eqb-false}
use Rattle.std.proofs.lemmas.List.{map_push}
use Rattle.git_model.specs.Tree.{TreeEntry}
use Rattle.git_objects.specs.Parts.{entry_of, entries_of}
use Rattle.git_objects.specs.RawEntries.{EntriesSoFar, raw_entry_of}
use Rattle.git_objects.proofs.LookedTrees.{none_so_far, one_more, readable_after, stuck, all_taken}
use Rattle.git_objects.proofs.tree.look_tree.Goals as goal

pub loop-rest-init : goal.loop-rest-init
loop-rest-init c = (rw c.in-Ok.ensures.items (none_so_far c.args.contents.now), λ readable. readable)

pub returns-in_default-take_raw_entry : goal.returns-in_default-take_raw_entry
returns-in_default-take_raw_entry c readable =
    let long : length c.loop-rest.rest.now ≢ 0 =
    eqb-false (length c.loop-rest.rest.now) 0
    (sym c.is_empty.ensures ∙ c.loop-rest-test.true) in
    stuck c.loop-rest.rest.now (omega (arith, long)) c.in_default-take_raw_entry.ensures
    (c.loop-rest.invariant.1 readable)

pub loop-rest-preserved : goal.loop-rest-preserved
loop-rest-preserved c =
    let raw = raw_entry_of c.in-Some.raw in
    let pushed : c.push.new.self.items ≡ c.loop-rest.entries.items ++ c.entry_from.result ∷ [] =
    c.push.ensures.items ∙ rw c.if-is_err.ensures.negation refl in
    let more = ap entries_of pushed ∙ map_push entry_of c.loop-rest.entries.items c.entry_from.result
    ∙ ap (λ (e : TreeEntry). entries_of c.loop-rest.entries.items ++ e ∷ []) c.entry_from.ensures in (
      rw more (one_more c.args.contents.now (entries_of c.loop-rest.entries.items) c.loop-rest.rest.now raw c.in-Some.after.now
          c.loop-rest.invariant.0 c.in-Some.ensures.found.0 c.in-Some.ensures.found.1),
      λ readable. readable_after c.loop-rest.rest.now raw c.in-Some.after.now c.in-Some.ensures (c.loop-rest.invariant.1 readable),
    )

pub returns : goal.returns
returns c =
    all_taken c.args.contents.now (entries_of c.loop-rest.entries.items) c.loop-rest.rest.now c.loop-rest.invariant.0
    (eqb-true (length c.loop-rest.rest.now) 0 (sym c.is_empty.ensures ∙ c.loop-rest-test.false))
