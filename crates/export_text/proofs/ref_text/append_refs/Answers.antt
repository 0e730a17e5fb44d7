use Rattle.std.proofs.Common.{ℕ, ◌+◌, ◌++◌, List, take, ap, ◌∙◌, arith}
use Rattle.std.specs.List.{flat_map}
use Rattle.std.proofs.lemmas.List.{take_all}
use Rattle.git_model.specs.RefStore.{listed_refs}
use Rattle.export_text.specs.ItemText.{items_text}
use Rattle.export_text.specs.Export.{items_of_ref}
use Rattle.export_text.proofs.Pieces.{more, next-at, kept_twice, nothing-at}
use Rattle.export_text.proofs.ref_text.append_refs.Goals as goal

pub loop-position-preserved : goal.loop-position-preserved
loop-position-preserved g c = (
  kept_twice c.args.out.now.items c.loop-position.out.items c.append_ref.new.out.items c.loop-position.invariant.0
      c.in_ok-append_ref.ensures.kept,
  λ good. more (items_of_ref c.args.objects.now) c.args.out.now.items c.loop-position.out.items c.append_ref.new.out.items
      (take c.loop-position.position (listed_refs c.args.refs.now)) (take (c.loop-position.position + 1) (listed_refs c.args.refs.now))
      (c.in-Some.entry.0.now, c.in-Some.entry.1)
      (next-at (listed_refs c.args.refs.now) c.loop-position.position (c.in-Some.entry.0.now, c.in-Some.entry.1) c.in-Some.ensures.entry)
      (c.loop-position.invariant.1 good) (c.in_ok-append_ref.ensures.written good),
)

pub returns-in_default-clause-written : goal.returns-in_default-clause-written
returns-in_default-clause-written g c = λ good.
    let past = nothing-at (listed_refs c.args.refs.now) c.loop-position.position c.in_default.ensures.entry in
    let many = c.len-position-end.ensures in
    let before = c.loop-position-test.true in
    absurd (omega (arith, past, many, before))

pub returns-clause-written : goal.returns-clause-written
returns-clause-written g c = λ good.
    let many = c.len-position-end.ensures in
    let past = c.loop-position-test.false in
    c.loop-position.invariant.1 good
    ∙ ap (λ (rs : List (List ℕ × List ℕ)). c.args.out.now.items ++ items_text (flat_map (items_of_ref c.args.objects.now) rs))
    (take_all c.loop-position.position (listed_refs c.args.refs.now) (omega (arith, many, past)))
