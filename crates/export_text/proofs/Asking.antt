-- What items ask for, one after the other.
use Rattle.std.proofs.Common.{◌≡◌, refl, ap, ◌∙◌, List, [], ◌∷◌, ◌++◌, Option, Ok, None, Some, true, false, Bool, ◌||◌, ◌&&◌, ℕ}
use Rattle.std.specs.List.{flat_map, AllByRecursion}
use Rattle.stream_lex.specs.Items.{Item, Line, Data, Blank}
use Rattle.stream_grammar.specs.declared.part.Part.{Part}
use Rattle.stream_grammar.specs.declared.part.Part.TheVariants as part
use Rattle.stream_grammar.specs.declared.stage.Opened.{Opened}
use Rattle.stream_grammar.specs.declared.stage.Opened.TheVariants as opened
use Rattle.stream_grammar.specs.Acts.{Act, Wait, Effect}
use Rattle.stream_grammar.specs.Commands.{Open, Done, commands, step, step_by, goes_on, is_commit, opened_after, opened_after_data, opened_by}
use Rattle.stream_grammar.specs.Grammar.{Term, Stands, Ends, fit, production_of, is_empty}
use Rattle.stream_grammar.specs.Lines.{inner_effect, data_act, line_effect, first_line_act}
use Rattle.stream_grammar.specs.Parts.{part_of_line, is_early}
use Rattle.stream_grammar.proofs.InTurn.{commands-append}
use Rattle.export_text.specs.ExportActs.{asks}

pub record Asks (now : Open) (items : List Item) (acts : List Done) (later : Open) : Type 0 where
  pub asks_for : commands (Ok now) items ≡ record { given = acts; rest = Ok later }

pub record Gives (now : Open) (item : Item) (done : Done) (next : Open) : Type 0 where
  pub gives : step now item ≡ Ok (record { done = done; next = next })

none-more : (now : Open) → commands (Ok now) [] ≡ record { given = []; rest = Ok now }
unfolding commands
none-more now = refl

pub nothing-asked : (now : Open) → Asks now [] [] now
nothing-asked now = record { asks_for = none-more now }

one-more : (now next later : Open) (item : Item) (items : List Item) (done : Done) (acts : List Done)
    → step now item ≡ Ok (record { done = done; next = next })
    → commands (Ok next) items ≡ record { given = acts; rest = Ok later }
    → commands (Ok now) (item ∷ items) ≡ record { given = done ∷ acts; rest = Ok later }
unfolding commands
one-more now next later item items done acts first others = rw (first, others) refl

-- An item, and then others.
pub then-more : {now next later : Open} {item : Item} {items : List Item} {done : Done} {acts : List Done}
    → Gives now item done next → Asks next items acts later
    → Asks now (item ∷ items) (done ∷ acts) later
then-more {now} {next} {later} {item} {items} {done} {acts} first others =
    record { asks_for = one-more now next later item items done acts first.gives others.asks_for }

-- Some items, and then others.
pub and-then : {now mid later : Open} {front more : List Item} {acts others : List Done}
    → Asks now front acts mid → Asks mid more others later
    → Asks now (front ++ more) (acts ++ others) later
and-then {now} {mid} {later} {front} {more} {acts} {others} first next =
    record { asks_for = rw (commands-append (Ok now) front more, first.asks_for, next.asks_for) refl }

-- ---- from one command to the next

-- No command is open.
abbrev pub idle : Bool → Open
idle late = record { late = late; opened = opened.Nothing; mark = None; left = [] }

-- Items that stand outside of other commands.
abbrev pub AsksAlone : List Item → List Done → Type 0
AsksAlone items acts = (late : Bool) → (later : Bool) × Asks (idle late) items acts (idle later)

pub alone-append : (front more : List Item) (acts others : List Done) → AsksAlone front acts
    → AsksAlone more others → AsksAlone (front ++ more) (acts ++ others)
alone-append front more acts others first next late =
    let one = first late in let two = next one.0 in
    (two.0, and-then one.1 two.1)

pub alone-flat_map : {X : Type 0} (items : X → List Item) (acts : X → List Done) (xs : List X)
    → AllByRecursion (λ x. AsksAlone (items x) (acts x)) xs
    → AsksAlone (flat_map items xs) (flat_map acts xs)
alone-flat_map items acts [] all late = (late, nothing-asked (idle late))
alone-flat_map items acts (x ∷ xs) all late =
    alone-append (items x) (flat_map items xs) (acts x) (flat_map acts xs) all.0
    (alone-flat_map items acts xs all.1) late

-- ---- one item

-- A command is open, and no feature may come any more.
abbrev pub under_way : Opened → Option ℕ → List Term → Open
under_way now mark left = record { late = true; opened = now; mark = mark; left = left }

line_inside : (now : Open) (text : List ℕ) (p : Part) (left : List Term) (effect : Effect)
    → part_of_line text ≡ p → fit p now.left ≡ Stands left
    → line_effect now.opened now.mark p text ≡ Ok effect
    → step now (Line text) ≡ goes_on now p left (Ok effect)
unfolding step
line_inside now text p left effect is fits says =
    ap (λ (q : Part). step_by now q (Line text) (fit q now.left)) is
    ∙ ap (step_by now p (Line text)) fits
    ∙ ap (goes_on now p left) says

-- A line stands in the open command.
pub inside : (now : Open) (text : List ℕ) (p : Part) (left : List Term) (effect : Effect)
    → part_of_line text ≡ p → fit p now.left ≡ Stands left
    → line_effect now.opened now.mark p text ≡ Ok effect
    → Gives now (Line text)
    (record { ends_commit = is_commit now.opened && is_empty left; act = effect.act })
    (record { late = now.late; opened = opened_after p now.opened; mark = effect.mark; left = left })
inside now text p left effect is fits says =
    record { gives = line_inside now text p left effect is fits says }

data_inside : (now : Open) (bytes : List ℕ) (left : List Term) → fit part.Data now.left ≡ Stands left
    → step now (Data bytes)
    ≡ goes_on now part.Data left (inner_effect now.opened now.mark part.Data (Data bytes))
unfolding step
data_inside now bytes left fits = ap (step_by now part.Data (Data bytes)) fits

-- So do data.
pub data-inside : (now : Open) (bytes : List ℕ) (left : List Term)
    → fit part.Data now.left ≡ Stands left
    → Gives now (Data bytes)
    (record { ends_commit = is_commit now.opened && is_empty left; act = data_act now.opened now.mark bytes })
    (record { late = now.late; opened = opened_after_data now.opened; mark = None; left = left })
data-inside now bytes left fits = record { gives = data_inside now bytes left fits }

blank_inside : (now : Open) (left : List Term) → fit part.Blank now.left ≡ Stands left
    → step now Blank ≡ goes_on now part.Blank left (inner_effect now.opened now.mark part.Blank Blank)
unfolding step
blank_inside now left fits = ap (step_by now part.Blank Blank) fits

-- A blank line ends the open command.
pub blank-inside : (now : Open) (left : List Term) → fit part.Blank now.left ≡ Stands left
    → Gives now Blank (record { ends_commit = is_commit now.opened && is_empty left; act = Wait })
    (record { late = now.late; opened = opened.Nothing; mark = None; left = left })
blank-inside now left fits = record { gives = blank_inside now left fits }

or_true : (b : Bool) → (b || true) ≡ true
or_true true = refl
or_true false = refl

line_begins : (now : Open) (text : List ℕ) (p : Part) (terms : List Term) (act : Act)
    → part_of_line text ≡ p → fit p now.left ≡ Ends → production_of p ≡ Some terms
    → is_early p ≡ false → is_commit now.opened ≡ false
    → first_line_act now.late p text ≡ Ok act
    → step now (Line text)
    ≡ Ok (record { done = asks act; next = under_way (opened_by p) None terms })
unfolding step
line_begins now text p terms act is fits has late outside says =
    ap (λ (q : Part). step_by now q (Line text) (fit q now.left)) is
    ∙ ap (step_by now p (Line text)) fits
    ∙ rw (has, says, late, or_true now.late, outside) refl

-- A line begins a command after which features are late.
pub begins : (now : Open) (text : List ℕ) (p : Part) (terms : List Term) (act : Act)
    → part_of_line text ≡ p → fit p now.left ≡ Ends → production_of p ≡ Some terms
    → is_early p ≡ false → is_commit now.opened ≡ false
    → first_line_act now.late p text ≡ Ok act
    → Gives now (Line text) (asks act) (under_way (opened_by p) None terms)
begins now text p terms act is fits has late outside says =
    record { gives = line_begins now text p terms act is fits has late outside says }
