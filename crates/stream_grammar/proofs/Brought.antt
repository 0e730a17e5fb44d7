-- What an act brings that a commit-ish gives.
use Rattle.std.proofs.Common.{◌≡◌, ℕ, Option, Result, Ok, Err}
use Rattle.stream_grammar.specs.declared.fault.Fault.{Fault}
use Rattle.stream_grammar.specs.declared.act.Act.{Act as LentAct}
use Rattle.stream_grammar.specs.Acts.{Act, brings}
use Rattle.stream_grammar.specs.Faults.{Gives}
use Rattle.stream_grammar.specs.Names.{CommitIsh}
use Rattle.stream_grammar.specs.Shown.{act_shown, Brings}
use Rattle.stream_grammar.specs.Texts.{read}

pub Brings-Gives : (result : Result LentAct Fault) (reading : Result CommitIsh Fault)
    (act_of : CommitIsh → Act) (mark : Option ℕ)
    → Gives act_shown result (read reading (λ commit. Ok (act_of commit)))
    → Brings result mark (read reading (λ commit. brings mark (act_of commit)))
Brings-Gives (Ok act) (Ok commit) act_of mark gives = cc
Brings-Gives (Ok act) (Err e) act_of mark gives = cc
Brings-Gives (Err e) (Ok commit) act_of mark gives =
    λ other. let is : Ok (act_of commit) ≡ Err e = gives other in cc
Brings-Gives (Err e) (Err first) act_of mark gives =
    λ other. let is : read (Err first) (λ commit. Ok (act_of commit)) ≡ Err e = gives other in cc
