use Rattle.std.proofs.Common.{◌≡◌, ◌≢◌, ◌-◌, Some, length, take, drop, sym, ap, ◌∙◌, arith}
use Rattle.std.proofs.lemmas.Bool.{false≢true}
use Rattle.std.proofs.lemmas.Bool.Decides.{Decides-eqb}
use Rattle.std.proofs.lemmas.Slice.Eq.{slice_eq-Decides}
use Rattle.stream_lex.specs.Headers.{delimiter_of}
use Rattle.stream_lex.proofs.Firsts.{before-unfinished, before-overdue}
use Rattle.stream_lex.proofs.Lookings.{text_at, in_next_line, at_delimiter, delimiter_length, before_delimiter_line, all_seen}
use Rattle.stream_lex.proofs.Searching.{goes_on}
use Rattle.stream_lex.proofs.look.delimited.Goals as goal

pub returns-then-eq-clause-first : goal.returns-then-eq-clause-first
returns-then-eq-clause-first c =
    let bytes = c.args.bytes.now in
    let delimiter : c.split_at-2.result.1.now ≡ delimiter_of (take (c.args.header - 1) bytes) = c.split_at-2.ensures.back ∙ ap (drop 7) c.split_at.ensures.front in
    let text : c.split_at-in-Some-2.result.0.now ≡ text_at bytes c.lines.line c.in-Some.end = c.split_at-in-Some-2.ensures.front ∙ ap (take (c.in-Some.end - c.lines.line)) c.split_at-in-Some.ensures.back in
    let same = sym text ∙ (slice_eq-Decides Decides-eqb _ _ _ c.eq.ensures).0 c.if-eq.true ∙ delimiter in
    let found = c.in-Some.ensures.found in
    c.raw.ensures.first (delimiter_of (take (c.args.header - 1) bytes)) (delimiter_length bytes c.lines.line c.in-Some.end found.inside same)
    ∙ sym (at_delimiter bytes c.lines.search.seen c.args.header c.lines.line c.in-Some.end c.lines.invariant.1.within c.lines.invariant.0 found same)

pub lines-preserved : goal.lines-preserved
lines-preserved c =
    let bytes = c.args.bytes.now in
    let delimiter : c.split_at-2.result.1.now ≡ delimiter_of (take (c.args.header - 1) bytes) = c.split_at-2.ensures.back ∙ ap (drop 7) c.split_at.ensures.front in
    let text : c.split_at-in-Some-2.result.0.now ≡ text_at bytes c.lines.line c.in-Some.end = c.split_at-in-Some-2.ensures.front ∙ ap (take (c.in-Some.end - c.lines.line)) c.split_at-in-Some.ensures.back in
    let decides = slice_eq-Decides Decides-eqb _ _ _ c.eq.ensures in
    let other : text_at bytes c.lines.line c.in-Some.end ≢ delimiter_of (take (c.args.header - 1) bytes) = λ same. false≢true (sym c.if-eq.false ∙ decides.1 (text ∙ same ∙ sym delimiter)) in
    let found = c.in-Some.ensures.found in
    let counted = c.in-Some.ensures.counted in (
      rw counted.seen (in_next_line bytes c.lines.search.seen c.args.header c.lines.line c.in-Some.end c.lines.invariant.1.within c.lines.invariant.0 found other),
      goes_on bytes c.args.search.now c.lines.search c.line_end.new.self (Some c.in-Some.end) c.lines.invariant.1 found counted,
    )

pub returns-then-bytes-header-clause-first : goal.returns-then-bytes-header-clause-first
returns-then-bytes-header-clause-first c =
    let bytes = c.args.bytes.now in
    let long = ap length (c.split_at-2.ensures.back ∙ ap (drop 7) c.split_at.ensures.front) in
    sym (before_delimiter_line bytes c.lines.search.seen c.args.header c.lines.line c.lines.invariant.1.within c.lines.invariant.0 c.in_default.ensures.found
    ∙ before-unfinished (delimiter_of (take (c.args.header - 1) bytes)) c.args.header bytes (omega (arith, c.lines.invariant.0.lines)))

pub returns-then-bytes-header-clause-placed : goal.returns-then-bytes-header-clause-placed
returns-then-bytes-header-clause-placed c =
    rw c.in_default.ensures.counted.seen
    (all_seen c.args.bytes.now c.lines.search.seen c.args.header c.lines.line c.lines.invariant.1.within c.lines.invariant.0 c.in_default.ensures.found)

pub returns-else-bytes-header-clause-first : goal.returns-else-bytes-header-clause-first
returns-else-bytes-header-clause-first c =
    let bytes = c.args.bytes.now in
    let long = ap length (c.split_at-2.ensures.back ∙ ap (drop 7) c.split_at.ensures.front) in
    sym (before_delimiter_line bytes c.lines.search.seen c.args.header c.lines.line c.lines.invariant.1.within c.lines.invariant.0 c.in_default.ensures.found
    ∙ before-overdue (delimiter_of (take (c.args.header - 1) bytes)) c.args.header bytes (omega arith))
