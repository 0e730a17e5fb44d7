-- What a prefix of the items gives is a prefix of what all of them give.
use Rattle.std.proofs.Common.{◌≡◌, refl, List, [], ◌∷◌, ◌++◌, Result, Ok, Err}
use Rattle.stream_lex.specs.Items.{Item}
use Rattle.stream_grammar.specs.declared.fault.Fault.{Fault}
use Rattle.stream_grammar.specs.Texts.{read}
use Rattle.stream_grammar.specs.Commands.{Parsing, Done, Step, Leads, commands, given_before, given_by, then_given, step, top}
use Rattle.stream_grammar.specs.Commands.{done_of, next_of, done_by, after}

-- After a fault nothing is given.
pub commands-Err : (e : Fault) (items : List Item)
    → commands (Err e) items ≡ record { given = []; rest = Err e }
unfolding commands
commands-Err e [] = refl
commands-Err e (item ∷ items) = refl

then_given-append : (done : Result Done Fault) (front more : List Item) (parsing : Parsing)
    → commands parsing (front ++ more)
    ≡ given_before (commands parsing front).given (commands (commands parsing front).rest more)
    → then_given done (commands parsing (front ++ more))
    ≡ given_before (then_given done (commands parsing front)).given
    (commands (then_given done (commands parsing front)).rest more)
then_given-append (Ok done) front more parsing same = rw same refl
then_given-append (Err e) front more parsing same = rw (commands-Err e more) refl

pub commands-append : (parsing : Parsing) (front more : List Item)
    → commands parsing (front ++ more)
    ≡ given_before (commands parsing front).given (commands (commands parsing front).rest more)
unfolding commands
commands-append parsing [] more = refl
commands-append parsing (item ∷ front) more =
    then_given-append (done_by parsing item) front more (after parsing item)
    (commands-append (after parsing item) front more)

one-step : (result : Result Step Fault)
    → then_given (done_of result) (commands (next_of result) [])
    ≡ record { given = given_by (done_of result); rest = next_of result }
unfolding commands
one-step (Ok step) = refl
one-step (Err e) = refl

-- the commands of one item
commands-one : (parsing : Parsing) (item : Item)
    → commands parsing (item ∷ [])
    ≡ record { given = given_by (done_by parsing item); rest = after parsing item }
unfolding commands
commands-one parsing item = one-step (read parsing (λ now. step now item))

pub Leads-one : (items : List Item) (given : List Done) (parsing : Parsing) (item : Item)
    → Leads items given parsing
    → Leads (items ++ item ∷ []) (given ++ given_by (done_by parsing item)) (after parsing item)
Leads-one items given parsing item leads =
    rw (commands-append (Ok top) items (item ∷ [])) (rw leads (rw (commands-one parsing item) refl))
