use Rattle.std.proofs.Common.{ℕ, ◌++◌, List, length, take, refl, ap, ◌∙◌, arith}
use Rattle.std.specs.List.{flat_map}
use Rattle.std.proofs.lemmas.List.{take_all, take_at}
use Rattle.git_model.specs.RefStore.{listed_refs}
use Rattle.git_objects.proofs.Kept.{kept_front}
use Rattle.answers.specs.Printed.{ref_line}
use Rattle.answers.proofs.Kept.{one_more}
use Rattle.answers.proofs.ref_printing.append_refs.Goals as goal

pub returns-in_err-append_ref-clause-kept : goal.returns-in_err-append_ref-clause-kept
returns-in_err-append_ref-clause-kept c =
    kept_front c.args.out.now.items c.loop-position.out.items c.append_ref.new.out.items _ c.loop-position.invariant c.in_err-append_ref.ensures.kept

pub loop-position-preserved : goal.loop-position-preserved
loop-position-preserved c =
    one_more ref_line c.args.out.now.items c.loop-position.out.items c.append_ref.new.out.items
    (listed_refs c.args.refs.now) c.loop-position.position (c.in-Some.entry.0.now, c.in-Some.entry.1)
    c.in-Some.ensures.entry c.loop-position.invariant c.in_ok-append_ref.ensures.written

pub returns-clause-written : goal.returns-clause-written
returns-clause-written c =
    let many = c.len-position-end.ensures in
    let past = c.loop-position-test.false in
    c.loop-position.invariant
    ∙ ap (λ (rs : List (List ℕ × List ℕ)). c.args.out.now.items ++ flat_map ref_line rs)
    (take_all c.loop-position.position (listed_refs c.args.refs.now) (omega (arith, many, past)))

pub returns-clause-kept : goal.returns-clause-kept
returns-clause-kept c =
    ap (take (length c.args.out.now.items)) c.loop-position.invariant
    ∙ take_at c.args.out.now.items _ (length c.args.out.now.items) refl

pub returns-in_default-clause-kept : goal.returns-in_default-clause-kept
returns-in_default-clause-kept c =
    ap (take (length c.args.out.now.items)) c.loop-position.invariant
    ∙ take_at c.args.out.now.items _ (length c.args.out.now.items) refl
