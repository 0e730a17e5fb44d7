use Rattle.std.proofs.Common.{ℕ, List, drop, Ok, refl, sym, ap}
use Rattle.git_paths.proofs.Inside.{closes, fails, unquoted_closed, unquoted_nothing, rest_of}
use Rattle.git_paths.proofs.unquoting.unquote.Goals as goal

pub returns-then-first-eq34 : goal.returns-then-first-eq34
returns-then-first-eq34 c =
    let now = c.bytes.rest.now in
    let closed = unquoted_closed now c.in-len1-up.len_at_least c.if-first-eq34.true in
    rw (closes c.bytes.bytes.items now (drop 1 now) c.args.text.now c.bytes.invariant closed)
    (ap (λ (rest : List ℕ). Ok (c.bytes.bytes.items, rest)) (sym (rest_of 1 now)))

pub returns : goal.returns
returns c =
    rw (fails c.bytes.bytes.items c.bytes.rest.now c.args.text.now c.bytes.invariant (unquoted_nothing c.bytes.rest.now c.in_default.len_below)) refl
