use Rattle.std.proofs.Common.{◌≡◌, sym, ap, ◌∙◌}
use Rattle.stream_lex.specs.Items.{after_items}
use Rattle.stream_lex.specs.Running.{extended, more_of}
use Rattle.stream_lex.specs.Looking.{tail_at}
use Rattle.stream_lex.specs.Cursor.{rest_of, tail_of}
use Rattle.stream_lex.proofs.Feeding.{tail_of-append, Leads-extended, place-failed}
use Rattle.stream_lex.proofs.lexer.Lexer.feed.Goals as goal

-- the tail afterwards
tail-extended : (c : goal.After-self-1) → tail_of c.extend_from_slice.new.self.items c.give_up_taken.new.cursor ≡ extended c.args.self.now.tail c.args.piece.now
tail-extended c =
    let rest = rest_of c.self.inside.buffer.items c.self.inside.cursor in
    let kept = c.give_up_taken.ensures in
    tail_of-append c.give_up_taken.new.buffer.items c.extend_from_slice.new.self.items c.args.piece.now c.give_up_taken.new.cursor rest kept.inside kept.rest c.in_ok-extend_from_slice.ensures.items
    ∙ ap (λ place. extended (tail_at rest place) c.args.piece.now) (ap (λ cursor. cursor.place) kept.cursor)
    ∙ ap (λ tail. extended tail c.args.piece.now) (ap (λ state. state.tail) c.self.view_is)

pub returns-clause-ok : goal.returns-clause-ok
returns-clause-ok c = tail-extended c

pub returns-clause-leads : goal.returns-clause-leads
returns-clause-leads c bytes items leads more =
    Leads-extended bytes c.args.piece.now items c.args.self.now.tail leads more ∙ ap (λ tail. after_items items (more_of tail more)) (sym (tail-extended c))

pub returns-clause-failed : goal.returns-clause-failed
returns-clause-failed c fault failed =
    absurd (c.in_default.not-Failed fault
    (place-failed (rest_of c.self.inside.buffer.items c.self.inside.cursor) c.self.inside.cursor.place fault (ap (λ state. state.tail) c.self.view_is ∙ failed)))
