use Rattle.std.proofs.Common.{ℕ, ◌++◌, List, map, ap, ◌∙◌, arith}
use Rattle.std.proofs.lemmas.List.{take_all}
use Rattle.git_model.specs.RefStore.{listed_refs}
use Rattle.gitpool.proofs.PackLemmas.{held_by, one_target}
use Rattle.gitpool.proofs.pack_writing.append_targets.Goals as goal

pub loop-position-preserved : goal.loop-position-preserved
loop-position-preserved c =
    one_target c.args.out.now.items c.loop-position.out.items c.push.new.self.items (listed_refs c.args.refs.now) c.loop-position.position
    (c.in-Some.entry.0.now, c.in-Some.entry.1) c.in-Some.ensures.entry c.loop-position.invariant c.in_ok-push.ensures.items

pub returns : goal.returns
returns c =
    let many = c.len-position-end.ensures in
    let past = c.loop-position-test.false in
    c.loop-position.invariant
    ∙ ap (λ (rs : List (List ℕ × List ℕ)). c.args.out.now.items ++ map held_by rs)
    (take_all c.loop-position.position (listed_refs c.args.refs.now) (omega (arith, many, past)))
