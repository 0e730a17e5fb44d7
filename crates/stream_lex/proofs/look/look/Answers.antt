use Rattle.std.proofs.Common.{◌≡◌, ◌≢◌, ◌<◌, false, length, get_or, ap, ◌∙◌, subst, arith}
use Rattle.stream_lex.specs.declared.place.Place.{Place}
use Rattle.stream_lex.specs.declared.place.Place.TheVariants.{Counted as InCounted}
use Rattle.stream_lex.specs.Looking.{IsPlaced, tail_at}
use Rattle.stream_lex.specs.Items.{Rest}
use Rattle.stream_lex.specs.Running.{more_of}
use Rattle.stream_lex.proofs.Lookings.{next_found}
use Rattle.stream_lex.proofs.Walks.{stands-false, stands-other, nothing_yet, passes_first}
use Rattle.stream_lex.proofs.look.look.Goals as goal

pub returns-in-Counted-clause-next : goal.returns-in-Counted-clause-next
returns-in-Counted-clause-next c =
    next_found c.args.bytes.now c.args.place false c.counted.result (ap (tail_at c.args.bytes.now) c.in-Counted.is) (stands-false c.args.bytes.now) c.counted.ensures.first c.counted.ensures.rest

pub returns-in-Counted-clause-placed : goal.returns-in-Counted-clause-placed
returns-in-Counted-clause-placed c =
    let placed : IsPlaced c.args.bytes.now c.args.search.now.seen (InCounted c.in-Counted.header c.in-Counted.size) = subst (λ (p : Place). IsPlaced c.args.bytes.now c.args.search.now.seen p) c.in-Counted.is c.requires.placed in
    c.counted.ensures.placed c.args.search.now.seen placed.1

pub returns-in-Delimited-clause-next : goal.returns-in-Delimited-clause-next
returns-in-Delimited-clause-next c =
    next_found c.args.bytes.now c.args.place false c.delimited.result (ap (tail_at c.args.bytes.now) c.in-Delimited.is) (stands-false c.args.bytes.now) c.delimited.ensures.first c.delimited.ensures.rest

pub returns-in-None-clause-next : goal.returns-in-None-clause-next
returns-in-None-clause-next c =
    let item = c.in-None.ensures.item in
    (λ more. ap (λ p. more_of (tail_at c.args.bytes.now p) more) c.in-Line-true.is, nothing_yet c.args.bytes.now c.in-Line-true.after_data item.3)

pub returns-in-Some-eq10-clause-next : goal.returns-in-Some-eq10-clause-next
returns-in-Some-eq10-clause-next c =
    let item = c.in-Some-eq10.ensures.item in
    let some : 0 < length c.args.bytes.now = item.3.0 in
    let byte : c.in-Some-eq10.field-0.now ≡ get_or c.args.bytes.now 0 0 = item.4 (omega arith) 0 in (
      omega arith,
      omega arith,
      λ more.
          ap (λ p. more_of (tail_at c.args.bytes.now p) more) c.in-Line-true.is
          ∙ passes_first c.args.bytes.now c.in-Line-true.after_data c.in-Line-true.after_data-test some (omega (arith, c.in-Some-eq10.field-0-test)) more,
    )

pub returns-in-Some-clause-next : goal.returns-in-Some-clause-next
returns-in-Some-clause-next c =
    let item = c.in-Some.ensures.item in
    let some : 0 < length c.args.bytes.now = item.3.0 in
    let byte : c.in-Some.field-0.now ≡ get_or c.args.bytes.now 0 0 = item.4 (omega arith) 0 in
    let other : get_or c.args.bytes.now 0 0 ≢ 10 = λ e. c.in-Some.field-0-test.1 (byte ∙ e) in
    next_found c.args.bytes.now c.args.place c.in-Line-true.after_data c.line.result (ap (tail_at c.args.bytes.now) c.in-Line-true.is)
    (stands-other c.args.bytes.now c.in-Line-true.after_data some other) c.line.ensures.first c.line.ensures.rest

pub returns-in-Line-false-clause-next : goal.returns-in-Line-false-clause-next
returns-in-Line-false-clause-next c =
    next_found c.args.bytes.now c.args.place false c.line-in-Line-false.result (ap (tail_at c.args.bytes.now) c.in-Line-false.is ∙ ap (λ wish. Rest wish c.args.bytes.now) c.in-Line-false.after_data-test) (stands-false c.args.bytes.now) c.line-in-Line-false.ensures.first c.line-in-Line-false.ensures.rest
