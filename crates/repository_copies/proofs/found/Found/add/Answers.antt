use Rattle.std.proofs.Common.{◌≡◌, arith, refl, length, ◌∙◌}
use Rattle.repository_copies.proofs.Adding.{comes, flag-read, stays}
use Rattle.repository_copies.proofs.found.Found.add.Goals as goal
use Rattle.repository_copies.proofs.found.Found.add.Goals.{else-place-len-via-then-place-len+else-not-index, else-place-len-via-else-place-len}

pub returns-in_ok-push : goal.returns-in_ok-push
returns-in_ok-push c digest os good lt are =
    let size = are.size in
    comes digest os good c.args.place lt c.args.self.now are _
    (flag-read c.args.self.now.there.items c.args.place c.index.result.now (omega (arith, size, lt)) c.index.ensures
    ∙ c.if-not-index.true)
    c.in_ok-push.ensures.items refl

pub returns-else-place-len : goal.returns-else-place-len
returns-else-place-len c digest os good lt are =
    let size = are.size in
    elim c.else-place-len.branch [
      | else-place-len-via-then-place-len+else-not-index w ↦
          stays digest os good c.args.place lt c.args.self.now are
          (flag-read c.args.self.now.there.items c.args.place w.index.result.now (omega (arith, size, lt)) w.index.ensures
          ∙ w.if-not-index.false)
      | else-place-len-via-else-place-len w ↦
          let past = w.if-place-len.false in
          let n : c.len.result ≡ length c.args.self.now.there.items = c.len.ensures ∙ c.args.self.now.there.ok.0 in
          absurd (omega (arith, past, n, size, lt))
    ]
