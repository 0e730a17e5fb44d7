-- Whole commands, one after the other, find their places, if no part may stand in two terms and no
-- command of several lines may stand in another one.
use Rattle.std.proofs.Common.{◌≡◌, refl, sym, ◌∙◌, ap, rules, true, false, IfSome, List, [], ◌∷◌, ◌++◌, Option, Some, None}
use Rattle.stream_grammar.specs.declared.part.Part.{Part}
use Rattle.stream_grammar.specs.declared.part.Part.TheVariants as part
use Rattle.stream_grammar.specs.declared.part.OpeningLine.{OpeningLine}
use Rattle.stream_grammar.specs.declared.part.OpeningLine.TheVariants as opening
use Rattle.stream_grammar.specs.declared.part.ReplyLine.{ReplyLine}
use Rattle.stream_grammar.specs.declared.part.ReplyLine.TheVariants as reply
use Rattle.stream_grammar.specs.declared.part.ControlLine.{ControlLine}
use Rattle.stream_grammar.specs.declared.part.ControlLine.TheVariants as control
use Rattle.stream_grammar.specs.declared.part.ChangeLine.TheVariants as change
use Rattle.stream_grammar.specs.Parts.{same}
use Rattle.stream_grammar.specs.Grammar.{Term, Fit, Stands, Ends, Misses, production, production_of, accepts, is_free, left_after, used, fit, may_end}
use Rattle.stream_grammar.specs.Grammar.{Often, Once, Perhaps, AnyNumber, once}
use Rattle.stream_grammar.specs.Whole.{Fills, nothing_left, stays_empty, is_filled, AreCommands, none_left, one_first}
use Rattle.stream_grammar.specs.Whole.{left_by, ArePlaced}
use Rattle.stream_grammar.proofs.Filled.{by_test, Fills-may_end}
use Rattle.stream_grammar.proofs.Taken.{NoneAccepts, NoneAccepts-used, NoneAccepts-listed, left_by-NoneAccepts, HaveOwnParts, HaveOwnParts-after}
use Rattle.stream_grammar.proofs.Streams.{Continues, Fills-nil}

-- A command of several lines stands in none of the terms.
abbrev NoneBegins : List Term → Type 0
NoneBegins terms =
    NoneAccepts terms (part.Opening opening.Blob) × NoneAccepts terms (part.Opening opening.Commit) × NoneAccepts terms (part.Opening opening.Tag)
    × NoneAccepts terms (part.Opening opening.Reset) × NoneAccepts terms (part.Opening opening.Alias)

record Orderly (terms : List Term) : Type 0 where
  own : HaveOwnParts terms
  alone : NoneBegins terms

NoneAccepts-after : (taken other : Part) (term : Term) (terms : List Term)
    → accepts (once part.Data) other ≡ false → NoneAccepts (term ∷ terms) other
    → NoneAccepts (left_after taken term terms) other
NoneAccepts-after taken other term terms apart none =
    by_test (same taken (part.Change change.ModifyInline))
    (λ is. rw is (apart, NoneAccepts-used term.often term terms other none))
    (λ differs. rw differs (NoneAccepts-used term.often term terms other none))

Orderly-after : (taken : Part) (term : Term) (terms : List Term) → accepts term taken ≡ true
    → Orderly (term ∷ terms) → Orderly (left_after taken term terms)
Orderly-after taken term terms stands orderly =
    record {
      own = HaveOwnParts-after term terms taken stands orderly.own;
      alone = (
        NoneAccepts-after taken (part.Opening opening.Blob) term terms refl orderly.alone.0,
        NoneAccepts-after taken (part.Opening opening.Commit) term terms refl orderly.alone.1,
        NoneAccepts-after taken (part.Opening opening.Tag) term terms refl orderly.alone.2,
        NoneAccepts-after taken (part.Opening opening.Reset) term terms refl orderly.alone.3,
        NoneAccepts-after taken (part.Opening opening.Alias) term terms refl orderly.alone.4,
      );
    }

Orderly-rest : (term : Term) (terms : List Term) → Orderly (term ∷ terms) → Orderly terms
Orderly-rest term terms orderly =
    record {
      own = orderly.own.2;
      alone = (
        orderly.alone.0.1,
        orderly.alone.1.1,
        orderly.alone.2.1,
        orderly.alone.3.1,
        orderly.alone.4.1,
      );
    }

-- The terms that are left after a part are as orderly as those before it.
Orderly-Stands : (taken : Part) (terms left : List Term) → fit taken terms ≡ Stands left
    → Orderly terms → Orderly left
Orderly-Stands taken [] left stands orderly = let absent : Ends ≡ Stands left = stands in cc
Orderly-Stands taken (term ∷ terms) left stands orderly =
    by_test (accepts term taken)
    (λ here.
    let is : Stands (left_after taken term terms) ≡ Stands left = rw here at stands in
    let same_left : left_after taken term terms ≡ left = cc in
    rw (sym same_left) (Orderly-after taken term terms here orderly))
    (λ passes. let later = rw passes at stands in
    by_test (is_free term.often)
    (λ free. Orderly-Stands taken terms left (rw free at later) (Orderly-rest term terms orderly))
    (λ bound. let absent : Misses ≡ Stands left = rw bound at later in cc))

-- A part stands nowhere where no term accepts it.
nowhere : (taken : Part) (terms left : List Term) → NoneAccepts terms taken
    → fit taken terms ≡ Stands left → ⊥
nowhere taken terms left none stands =
    let next : List Term → Option (List Term) = λ rest. Some rest in
    let gone : left_by (fit taken terms) next ≡ None = left_by-NoneAccepts taken next terms none in
    let here : left_by (fit taken terms) next ≡ Some left =
    ap (λ (place : Fit). left_by place next) stands in
    let absent : None ≡ Some left = sym gone ∙ here in cc

-- Parts that fill terms: the first stands in them, and the others fill what is left.
record Standing (terms : List Term) (taken : Part) (parts : List Part) : Type 0 where
  left : List Term
  is : fit taken terms ≡ Stands left
  fills : Fills left parts

abbrev FirstStands : List Term → List Part → Type 0
FirstStands terms [] = may_end terms ≡ true
FirstStands terms (taken ∷ parts) = Standing terms taken parts

FirstStands-empty : (term : Term) (terms : List Term) (parts : List Part)
    → HaveOwnParts (term ∷ terms) → is_free term.often ≡ true → FirstStands terms parts
    → FirstStands (term ∷ terms) parts
FirstStands-empty term terms [] own free end = rw free end
FirstStands-empty term terms (taken ∷ parts) own free standing =
    by_test (accepts term taken)
    (λ here. absurd (nowhere taken terms standing.left
    (NoneAccepts-listed term.parts terms taken own.0 here) standing.is))
    (λ passes. record {
      left = standing.left;
      is = rw (passes, free) standing.is;
      fills = standing.fills;
    })

FirstStands-Fills : (terms : List Term) (parts : List Part) → HaveOwnParts terms
    → Fills terms parts → FirstStands terms parts
FirstStands-Fills _ _ own nothing_left = refl
FirstStands-Fills _ _ own (stays_empty term terms parts free fills) =
    FirstStands-empty term terms parts own free (FirstStands-Fills terms parts own.2 fills)
FirstStands-Fills _ _ own (is_filled term terms taken parts here fills) =
    record { left = left_after taken term terms; is = rw here refl; fills = fills }

-- Where a command may end, no part is missing, and it may end after a part without data too.
may_end-Misses : (taken : Part) (terms : List Term) → may_end terms ≡ true
    → fit taken terms ≡ Misses → ⊥
may_end-Misses taken [] end misses = let absent : Ends ≡ Misses = misses in cc
may_end-Misses taken (term ∷ terms) end misses =
    by_test (accepts term taken)
    (λ here. let absent : Stands (left_after taken term terms) ≡ Misses = rw here at misses in cc)
    (λ passes. let later = rw passes at misses in
    by_test (is_free term.often)
    (λ free. may_end-Misses taken terms (rw free at end) (rw free at later))
    (λ bound. let absent : false ≡ true = rw bound at end in cc))

may_end-used : (often : Often) (term : Term) (terms : List Term) → is_free term.often ≡ true
    → may_end terms ≡ true → may_end (used often term terms) ≡ true
may_end-used Once term terms free end = end
may_end-used Perhaps term terms free end = end
may_end-used AnyNumber term terms free end = rw free end

may_end-Stands : (taken : Part) (terms left : List Term) → same taken (part.Change change.ModifyInline) ≡ false
    → may_end terms ≡ true → fit taken terms ≡ Stands left → may_end left ≡ true
may_end-Stands taken [] left plain end stands = let absent : Ends ≡ Stands left = stands in cc
may_end-Stands taken (term ∷ terms) left plain end stands =
    by_test (is_free term.often)
    (λ free. let rest = rw free at end in
    by_test (accepts term taken)
    (λ here.
    let is : Stands (left_after taken term terms) ≡ Stands left = rw here at stands in
    let same_left : left_after taken term terms ≡ left = cc in
    rw (sym same_left, plain) (may_end-used term.often term terms free rest))
    (λ passes. may_end-Stands taken terms left plain rest (rw (passes, free) at stands)))
    (λ bound. let absent : false ≡ true = rw bound at end in cc)

-- The terms of each production are orderly.
Orderly-opening : (line : OpeningLine) → Orderly (production line)
Orderly-opening opening.Blob = record { own = search rules; alone = search rules }
Orderly-opening opening.Commit = record { own = search rules; alone = search rules }
Orderly-opening opening.Tag = record { own = search rules; alone = search rules }
Orderly-opening opening.Reset = record { own = search rules; alone = search rules }
Orderly-opening opening.Alias = record { own = search rules; alone = search rules }

Orderly-command : (command : Part) → IfSome (production_of command) Orderly
Orderly-command (part.Opening line) = Orderly-opening line
Orderly-command (part.Reply line) = record { own = tt; alone = (tt, tt, tt, tt, tt) }
Orderly-command (part.Control line) = record { own = tt; alone = (tt, tt, tt, tt, tt) }
Orderly-command part.Blank = record { own = tt; alone = (tt, tt, tt, tt, tt) }
Orderly-command _ = tt

-- A command that may stand in another one has one line, and no data after it.
IsAlone : Part → List Term → Type 0
IsAlone command terms = (terms ≡ []) × (same command (part.Change change.ModifyInline) ≡ false)

no_terms : (terms : List Term) → Some [] ≡ Some terms → terms ≡ []
no_terms terms is = let whole : [] ≡ terms = cc in sym whole

no_command : (terms : List Term) → None ≡ Some terms → ⊥
no_command terms is = cc

reply_without_data : (line : ReplyLine) → same (part.Reply line) (part.Change change.ModifyInline) ≡ false
reply_without_data reply.Progress = refl
reply_without_data reply.GetMark = refl
reply_without_data reply.CatBlob = refl
reply_without_data reply.Ls = refl

control_without_data : (line : ControlLine) → same (part.Control line) (part.Change change.ModifyInline) ≡ false
control_without_data control.Checkpoint = refl
control_without_data control.Done = refl
control_without_data control.Feature = refl
control_without_data control.OptionCommand = refl

alone : (command : Part) (terms before left : List Term) → production_of command ≡ Some terms
    → NoneBegins before → fit command before ≡ Stands left → IsAlone command terms
unfolding IsAlone
alone (part.Opening opening.Blob) terms before left is none stands =
    absurd (nowhere (part.Opening opening.Blob) before left none.0 stands)
alone (part.Opening opening.Commit) terms before left is none stands =
    absurd (nowhere (part.Opening opening.Commit) before left none.1 stands)
alone (part.Opening opening.Tag) terms before left is none stands =
    absurd (nowhere (part.Opening opening.Tag) before left none.2 stands)
alone (part.Opening opening.Reset) terms before left is none stands =
    absurd (nowhere (part.Opening opening.Reset) before left none.3 stands)
alone (part.Opening opening.Alias) terms before left is none stands =
    absurd (nowhere (part.Opening opening.Alias) before left none.4 stands)
alone (part.Reply line) terms before left is none stands = (no_terms terms is, reply_without_data line)
alone (part.Control line) terms before left is none stands = (no_terms terms is, control_without_data line)
alone part.Blank terms before left is none stands = (no_terms terms is, refl)
alone _ terms before left is none stands = absurd (no_command terms is)

-- What is to be shown of the parts after one.
abbrev AreLaterPlaced : List Part → Type 0
AreLaterPlaced parts =
    (terms : List Term) → Orderly terms → Continues terms parts → ArePlaced parts terms

-- A part that begins a command: it is placed where the open command may end.
placed_command : (command : Part) (terms next : List Term) (parts : List Part) (place : Fit)
    → fit command terms ≡ place → production_of command ≡ Some next → Orderly terms
    → may_end terms ≡ true → Continues next parts → AreLaterPlaced parts
    → ArePlaced (command ∷ parts) terms
unfolding IsAlone
placed_command command terms next parts (Stands left) is begins orderly end continues later =
    let one = alone command next terms left begins orderly.alone is in
    let none : continues.first ≡ [] = Fills-nil continues.first (rw one.0 at continues.fills) in
    let placed = later left (Orderly-Stands command terms left is orderly) (record {
      first = [];
      later = continues.later;
      both = rw none at continues.both;
      fills = Fills-may_end left (may_end-Stands command terms left one.1 end is);
      whole = continues.whole;
    }) in
    record { left = placed.left; after_parts = rw is placed.after_parts; end = placed.end }
placed_command command terms next parts Ends is begins orderly end continues later =
    let placed = later next (rw begins at (Orderly-command command)) continues in
    record {
      left = placed.left;
      after_parts = rw (is, begins) placed.after_parts;
      end = placed.end;
    }
placed_command command terms next parts Misses is begins orderly end continues later =
    absurd (may_end-Misses command terms end is)

placed_later : (taken : Part) (parts later : List Part) (terms : List Term)
    → taken ∷ parts ≡ later → Orderly terms → may_end terms ≡ true → AreCommands later
    → AreLaterPlaced parts → ArePlaced (taken ∷ parts) terms
placed_later taken parts _ terms both orderly end none_left rest =
    let absent : taken ∷ parts ≡ [] = both in cc
placed_later taken parts _ terms both orderly end (one_first c next first later is fills whole) rest =
    let same_part : taken ≡ c = cc in
    let same_parts : parts ≡ first ++ later = cc in
    rw same_part
    (placed_command c terms next parts (fit c terms) refl is orderly end
    (record { first = first; later = later; both = same_parts; fills = fills; whole = whole }) rest)

placed_first : (taken : Part) (parts first later : List Part) (terms : List Term)
    → taken ∷ parts ≡ first ++ later → Orderly terms → Fills terms first → AreCommands later
    → AreLaterPlaced parts → ArePlaced (taken ∷ parts) terms
placed_first taken parts [] later terms both orderly fills whole rest =
    placed_later taken parts later terms both orderly
    (FirstStands-Fills terms [] orderly.own fills) whole rest
placed_first taken parts (part ∷ first) later terms both orderly fills whole rest =
    let standing = FirstStands-Fills terms (part ∷ first) orderly.own fills in
    let same_part : taken ≡ part = cc in
    let same_parts : parts ≡ first ++ later = cc in
    let placed = rest standing.left (Orderly-Stands part terms standing.left standing.is orderly)
    (record {
      first = first;
      later = later;
      both = same_parts;
      fills = standing.fills;
      whole = whole;
    }) in
    record {
      left = placed.left;
      after_parts = rw (same_part, standing.is) placed.after_parts;
      end = placed.end;
    }

-- No part is left, and the open command may end.
may_end-nil : (first later : List Part) (terms : List Term) → [] ≡ first ++ later
    → HaveOwnParts terms → Fills terms first → may_end terms ≡ true
may_end-nil [] later terms both own fills = FirstStands-Fills terms [] own fills
may_end-nil (part ∷ first) later terms both own fills =
    let absent : [] ≡ part ∷ (first ++ later) = both in cc

ArePlaced-Continues : (parts : List Part) → AreLaterPlaced parts
ArePlaced-Continues [] terms orderly continues =
    record {
      left = terms;
      after_parts = refl;
      end =
          may_end-nil continues.first continues.later terms continues.both orderly.own
          continues.fills;
    }
ArePlaced-Continues (part ∷ parts) terms orderly continues =
    placed_first part parts continues.first continues.later terms continues.both orderly
    continues.fills continues.whole (ArePlaced-Continues parts)

pub ArePlaced-commands : (parts : List Part) → AreCommands parts → ArePlaced parts []
ArePlaced-commands parts whole =
    ArePlaced-Continues parts [] (record { own = tt; alone = (tt, tt, tt, tt, tt) })
    (record { first = []; later = parts; both = refl; fills = nothing_left; whole = whole })
