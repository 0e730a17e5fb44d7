-- What an item does by its text, by the end of the open commit and by its act.
use Rattle.std.proofs.Common.{◌≡◌, ◌≢◌, ℕ, List, [], Result, Ok, Err, refl, sym, ap, subst, Bool, false, append-nil, true}
use Rattle.std.specs.Prelude.{OnOk}
use Rattle.std.proofs.lemmas.Bool.{cond-true}
use Rattle.stream_parts.specs.declared.fault.Fault.{Fault}
use Rattle.stream_parts.specs.declared.fault.Fault.TheVariants as fault
use Rattle.stream_lex.specs.Items.{Item}
use Rattle.stream_grammar.specs.declared.fault.Fault.{Fault as TextFault}
use Rattle.stream_grammar.specs.declared.act.Done.{Done as LentDone}
use Rattle.stream_grammar.specs.declared.fault.Fault.TheVariants as text_fault
use Rattle.stream_grammar.specs.Shown.{Answers, act_shown, done_shown}
use Rattle.stream_grammar.specs.Commands.{Done, Parsing}
use Rattle.git_model.specs.Results.{and_then}
use Rattle.stream_parts.specs.Faults.{text_first}
use Rattle.stream_commands.specs.Workspace.{Workspace, Effect}
use Rattle.import_session.specs.Commits.{closed_where}
use Rattle.import_session.specs.Stream.{Running, Step, step, taken, is_finish}
use Rattle.import_session.specs.Meaning.{after_act}
use Rattle.stream_commands.specs.State.{CarriesOut}
use Rattle.import_session.specs.Session.{ReadsItem, Takes}
use Rattle.stream_commands.proofs.ActLemmas.{is_memory}

-- the step that an effect makes
abbrev pub stepped : Effect → Parsing → Bool → Step
stepped effect p b = record {
  running = record { workspace = effect.workspace; parsing = p; is_done = b };
  reply = effect.reply;
}

-- what a session that runs takes
pub step_running : (digest : List ℕ → List ℕ) (now : Running) (item : Item) → now.is_done ≡ false
    → step digest now item ≡ taken digest now item
unfolding step
step_running digest now item running = rw running refl

-- after `done` an item is passed over
pub step_over : (digest : List ℕ → List ℕ) (now : Running) (item : Item) (next : Running)
    (out : List ℕ) → now.is_done ≡ true → now ≡ next
    → Takes (step digest now item) next out out (Ok tt)
unfolding step
step_over digest now item next out done same =
    let over : Result Step Fault = Ok (record { running = now; reply = [] }) in
    subst (λ (r : Result Step Fault). Takes r next out out (Ok tt))
    (sym (cond-true now.is_done over (taken digest now item) done)) (same, sym (append-nil out))

-- an item that gave no act
takes_refused : (r : Result Step Fault) (next : Running) (out out' : List ℕ) (e : Fault)
    → (e ≢ fault.Memory → r ≡ Err e) → Takes r next out out' (Err e)
takes_refused (Ok step) next out out' e refused = is_memory step e refused
takes_refused (Err refusal) next out out' e refused = λ other. let is = refused other in cc

pub no_act : (k : Result Done TextFault) (later : Done → Result Step Fault) (next : Running)
    (out out' : List ℕ) (e : Fault)
    → ReadsItem (Err e) k → Takes (and_then (text_first k) later) next out out' (Err e)
no_act k later next out out' e reads =
    takes_refused (and_then (text_first k) later) next out out' e (λ other. rw (reads other) refl)

-- what an item does after its text
abbrev pub done_effect : (List ℕ → List ℕ) → Workspace → Done → Result Effect Fault
done_effect digest w done =
    and_then (closed_where digest done.ends_commit w) (after_act digest done.act)

abbrev pub done_step : (List ℕ → List ℕ) → Workspace → Parsing → Done → Result Step Fault
done_step digest w p done =
    and_then (closed_where digest done.ends_commit w) (λ workspace.
    and_then (after_act digest done.act workspace) (λ effect.
    Ok (stepped effect p (is_finish done.act))))

-- first the commit ends and its act is carried out, and then comes the step
steps : (closed : Result Workspace Fault) (later : Workspace → Result Effect Fault)
    (more : Effect → Result Step Fault)
    → and_then (and_then closed later) more ≡ and_then closed (λ w. and_then (later w) more)
steps (Ok w) later more = refl
steps (Err e) later more = refl

-- an act that was carried out, or refused
effect_answered : (r : Result Effect Fault) (p : Parsing) (a b : Bool) (new : Workspace)
    (out out' : List ℕ) (result : Result Unit Fault)
    → CarriesOut r new out out' result → OnOk result (b ≡ a)
    → Takes (and_then r (λ effect. Ok (stepped effect p a)))
    (record { workspace = new; parsing = p; is_done = b }) out out' result
effect_answered (Ok effect) p a b new out out' (Ok u) carried same = rw same (
  ap (λ (w : Workspace). record { workspace = w; parsing = p; is_done = a }) carried.0,
  carried.1,
)
effect_answered (Err refusal) p a b new out out' (Ok u) carried same = absurd carried
effect_answered (Ok effect) p a b new out out' (Err e) carried same = carried
effect_answered (Err refusal) p a b new out out' (Err e) carried same = carried

pub item_answered : (digest : List ℕ → List ℕ) (w : Workspace) (p : Parsing)
    (k : Result Done TextFault) (done : LentDone) (new : Workspace) (b : Bool)
    (out out' : List ℕ) (result : Result Unit Fault)
    → ReadsItem (Ok done) k
    → CarriesOut (done_effect digest w (done_shown done)) new out out' result
    → OnOk result (b ≡ is_finish (act_shown done.act))
    → Takes (and_then (text_first k) (done_step digest w p))
    (record { workspace = new; parsing = p; is_done = b }) out out' result
item_answered digest w p k done new b out out' result reads carried finished =
    rw (
      reads,
      ← steps (closed_where digest done.ends_commit w)
          (after_act digest (act_shown done.act))
          (λ effect. Ok (stepped effect p (is_finish (act_shown done.act)))),
    )
    (effect_answered (done_effect digest w (done_shown done)) p (is_finish (act_shown done.act)) b new
    out out' result carried finished)

-- what was given was not that memory ran out
pub no_memory : (given : Result LentDone TextFault) (done : LentDone)
    → ((by : Result Done TextFault) → Answers given by → ReadsItem (Ok done) by)
    → given ≢ Err text_fault.Memory
no_memory given done reads memory =
    let refused : Err text_fault.Memory ≡ Ok (done_shown done) = reads (Err text_fault.Memory)
    (subst (λ (g : Result LentDone TextFault). Answers g (Err text_fault.Memory))
    (sym memory) (λ other. refl)) in
    cc
