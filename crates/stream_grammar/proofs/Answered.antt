-- What a call answers is what its item adds to what was given.
use Rattle.std.proofs.Common.{◌≡◌, ◌≢◌, sym, ap, subst, List, [], ◌∷◌, ◌++◌, Result, Ok, Err}
use Rattle.stream_lex.specs.Items.{Item}
use Rattle.stream_grammar.specs.declared.fault.Fault.{Fault}
use Rattle.stream_grammar.specs.declared.fault.Fault.TheVariants as fault
use Rattle.stream_grammar.specs.declared.act.Done.{Done as LentDone}
use Rattle.stream_grammar.specs.Commands.{Parsing, Done, Leads, given_by, done_by, after}
use Rattle.stream_grammar.specs.Shown.{Answers, given_shown}
use Rattle.stream_grammar.proofs.InTurn.{Leads-one}

given-answered : (result : Result LentDone Fault) (wanted : Result Done Fault)
    → Answers result wanted → result ≢ Err fault.Memory → given_by wanted ≡ given_shown result
given-answered (Ok done) wanted answers some = ap (λ (r : Result Done Fault). given_by r) answers
given-answered (Err e) wanted answers some =
    ap (λ (r : Result Done Fault). given_by r)
    (answers (λ short. some (ap (λ (f : Fault). Err f) short)))

-- A call adds its answer to what was given, and leaves what its item leaves.
pub Leads-answered : (items : List Item) (given : List Done) (old new : Parsing) (item : Item)
    (result : Result LentDone Fault)
    → Answers result (done_by old item) → (result ≢ Err fault.Memory → new ≡ after old item)
    → result ≢ Err fault.Memory → Leads items given old → Leads (items ++ item ∷ []) (given ++ given_shown result) new
Leads-answered items given old new item result answers leaves some leads =
    subst (λ (now : Parsing). Leads (items ++ item ∷ []) (given ++ given_shown result) now) (sym (leaves some))
    (subst (λ (more : List Done). Leads (items ++ item ∷ []) (given ++ more) (after old item))
    (given-answered result (done_by old item) answers some) (Leads-one items given old item leads))
