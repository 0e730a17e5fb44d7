use Rattle.std.proofs.Common.{◌≡◌, ◌≢◌, ℕ, List, length, refl, sym, ap, ◌∙◌, arith, [], ◌∷◌, ◌++◌}
use Rattle.std.proofs.lemmas.Bool.{eqb-true, eqb-false, iff_false}
use Rattle.std.proofs.lemmas.List.{map_push, append-nil}
use Rattle.std.proofs.lemmas.List.Elements.{recursion_from_All}
use Rattle.git_model.specs.Tree.{CanWriteEntry, tree_contents}
use Rattle.git_model.specs.TreeReading.{tree_read}
use Rattle.git_model.proofs.TreeReadings.{entries_back}
use Rattle.git_objects.specs.Parts.{entry_of, entries_of}
use Rattle.git_objects.specs.TreeParts.{CanFollow}
use Rattle.git_objects.proofs.TreeOrder.{in_order_from}
use Rattle.git_objects.proofs.TreeReads.{remains_next, remains_stuck, remains_none, taken_more}
use Rattle.git_objects.proofs.TreeGrowth.{tree_grows, follows_in_tree}
use Rattle.git_objects.proofs.tree.read_tree.Goals as goal

empty : (xs : List ℕ) → length xs ≡ 0 → xs ≡ []
empty [] none = refl
empty (x ∷ xs) none = absurd (omega (arith, none))

pub returns-in_default-take_entry-clause-only : goal.returns-in_default-take_entry-clause-only
returns-in_default-take_entry-clause-only c es t text =
    let long : length c.loop-rest.rest.now ≢ 0 =
    eqb-false (length c.loop-rest.rest.now) 0
    (sym c.is_empty.ensures ∙ c.loop-rest-test.true) in
    remains_stuck es _ _ (c.loop-rest.invariant.2 es t.entries text)
    (omega (arith, long)) c.in_default-take_entry.ensures

pub returns-in_default-take_entry-clause-exact : goal.returns-in_default-take_entry-clause-exact
returns-in_default-take_entry-clause-exact c none es t text =
    returns-in_default-take_entry-clause-only c es t text

pub returns-then-not-can_follow-clause-only : goal.returns-then-not-can_follow-clause-only
returns-then-not-can_follow-clause-only c es t text =
    let taken = entries_of c.loop-rest.entries.items in
    let answer = rw c.deref.ensures.value at c.can_follow.ensures in
    iff_false (answer (in_order_from taken c.loop-rest.invariant.0)) c.if-not-can_follow.true
    (follows_in_tree es taken c.loop-rest.rest.now (entry_of c.in-Some.entry) c.in-Some.after.now t (c.loop-rest.invariant.2 es t.entries text) c.in-Some.ensures)

pub returns-then-not-can_follow-clause-exact : goal.returns-then-not-can_follow-clause-exact
returns-then-not-can_follow-clause-exact c none es t text =
    returns-then-not-can_follow-clause-only c es t text

pub loop-rest-preserved : goal.loop-rest-preserved
loop-rest-preserved c =
    let taken = entries_of c.loop-rest.entries.items in
    let e = entry_of c.in-Some.entry in
    let pushed : c.push.new.self.items ≡ c.loop-rest.entries.items ++ c.in-Some.entry ∷ [] =
    c.push.ensures.items ∙ rw c.if-is_err.ensures.negation refl in
    let more : entries_of c.push.new.self.items ≡ taken ++ e ∷ [] =
    ap entries_of pushed ∙ map_push entry_of c.loop-rest.entries.items c.in-Some.entry in
    let answer = rw c.deref.ensures.value at c.can_follow.ensures in
    let follow : CanFollow taken e =
    (answer (in_order_from taken c.loop-rest.invariant.0)).0 c.if-not-can_follow.false in
    rw more (
      tree_grows taken e c.loop-rest.invariant.0 c.in-Some.ensures.found.0 follow,
      taken_more c.args.contents.now taken c.loop-rest.rest.now e c.in-Some.after.now
          c.loop-rest.invariant.1 c.in-Some.ensures.found.1,
      λ es all text. remains_next es taken c.loop-rest.rest.now e c.in-Some.after.now (c.loop-rest.invariant.2 es all text) c.in-Some.ensures,
    )

pub returns-clause-only : goal.returns-clause-only
returns-clause-only c es t text =
    remains_none es _ _ (c.loop-rest.invariant.2 es t.entries text)
    (eqb-true (length c.loop-rest.rest.now) 0 (sym c.is_empty.ensures ∙ c.loop-rest-test.false))

pub returns-clause-read : goal.returns-clause-read
returns-clause-read c =
    let es = entries_of c.loop-rest.entries.items in
    let none : c.loop-rest.rest.now ≡ [] =
    empty c.loop-rest.rest.now
    (eqb-true (length c.loop-rest.rest.now) 0 (sym c.is_empty.ensures ∙ c.loop-rest-test.false)) in
    let text =
    c.loop-rest.invariant.1 ∙ ap (λ r. tree_contents es ++ r) none ∙ append-nil (tree_contents es) in
    sym (ap tree_read text ∙ entries_back es (recursion_from_All CanWriteEntry es c.loop-rest.invariant.0.entries))
