use Rattle.std.proofs.Common.{ℕ, Option, sym, ap, subst}
use Rattle.stream_lex.specs.Search.{FindsLineEnd}
use Rattle.stream_lex.proofs.LineEnds.{finds_none_after, finds_some_after}
use Rattle.stream_lex.proofs.search.Search.line_end.Goals as goal
use Rattle.stream_lex.proofs.search.Search.line_end.Goals.{in-Some, in-None}

pub returns-clause-found : goal.returns-clause-found
returns-clause-found c =
    let bytes = c.args.bytes.now in
    let seen = c.args.self.now.seen in
    let fresh = c.split_at.result.1.now in
    let remaining = c.split_at.ensures.back in
    elim c.match-memchr.branch [
      | in-Some w ↦ subst (λ (o : Option ℕ). FindsLineEnd bytes seen o) (sym (ap (λ p. p.0) w.end-is)) (finds_some_after bytes fresh seen w.in-Some.at remaining c.requires w.in-Some.ensures)
      | in-None w ↦ subst (λ (o : Option ℕ). FindsLineEnd bytes seen o) (sym (ap (λ p. p.0) w.end-is)) (finds_none_after bytes fresh seen remaining w.in-None.ensures)
    ]
