use Rattle.std.proofs.Common.{◌∷◌, ◌++◌, [], ap, refl, ◌∙◌}
use Rattle.pack_objects.proofs.NamesMore.{name-left, names-more}
use Rattle.pack_objects.proofs.names.names_in.Goals as goal
use Rattle.pack_objects.proofs.names.names_in.Goals.{in-Some+in_ok-push, in_default}

pub loop-preserved : goal.loop-preserved
loop-preserved c = elim c.match-split_first_chunk.branch [
  | in-Some+in_ok-push w ↦
      rw (w.names-is, w.rest-is)
      (names-more c.args.bytes.now c.loop.counter c.loop.rest.now w.in-Some.after.now w.in-Some.name.now c.loop.names.items w.push.new.self.items
      c.loop.invariant.0 c.loop.invariant.1 w.in-Some.ensures.cases.0 w.in-Some.ensures.cases.1
      (w.in_ok-push.ensures.items ∙ ap (λ x. c.loop.names.items ++ x ∷ []) w.from_bytes.ensures))
  | in_default w ↦
      let e = c.loop.auto.counter-end in
      let t = c.loop-test.true in
      absurd (name-left c.args.bytes.now c.loop.counter _ c.loop.rest.now c.loop.invariant.0 refl c.loop-test.true w.in_default.ensures.cases)
]
