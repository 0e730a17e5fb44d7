-- The items of a stream are carried out as the acts that they ask for.
use Rattle.std.proofs.Common.{◌≡◌, ℕ, Bool, false, List, [], ◌∷◌, Result, Ok, Err, refl, sym, ap, ◌∙◌}
use Rattle.std.specs.List.{AllByRecursion}
use Rattle.stream_lex.specs.Items.{Item, Tail, Rest}
use Rattle.stream_grammar.specs.declared.fault.Fault.{Fault}
use Rattle.stream_grammar.specs.Commands.{Commands, Done, Parsing, after, commands, done_by, end_of, then_given}
use Rattle.import_session.specs.Commits.{closed_where}
use Rattle.import_session.specs.Meaning.{after_act}
use Rattle.import_session.specs.Stream.{Outcome, Runs, Running, Step, at_tail, carried, going_on, is_finish, step}
use Rattle.stream_commands.specs.Workspace.{Workspace, quiet}
use Rattle.export_laws.specs.Leaving.{Leaves, nothing, first_act}

-- None of some acts is `done`, which ends a stream.
abbrev pub GoOn : List Done → Type 0
GoOn acts = AllByRecursion (λ (done : Done). is_finish done.act ≡ false) acts

-- A stream that runs on.
abbrev pub running : Workspace → Parsing → Running
running workspace parsing =
    record { workspace = workspace; parsing = parsing; is_done = false }

-- How it stands after its items, where nothing was printed.
abbrev pub status : Workspace → Parsing → Bool → List ℕ → Outcome
status workspace parsing skips bytes = record {
  replies = [];
  status = Runs (running workspace parsing) (Rest skips bytes);
}

module _ (digest : List ℕ → List ℕ) where
  one-step : (w ready next : Workspace) (p : Parsing) (item : Item) (done : Done)
      → done_by p item ≡ Ok done → closed_where digest done.ends_commit w ≡ Ok ready
      → after_act digest done.act ready ≡ quiet next → is_finish done.act ≡ false
      → step digest (running w p) item
      ≡ Ok (record { running = running next (after p item); reply = [] })
  unfolding step
  one-step w ready next p item done given closes acts goes = rw (given, closes, acts, goes) refl

  -- an item that gives nothing is a fault
  nothing-given : (r : Result Done Fault) (later : Commands) (ends : Bool)
      → (then_given r later).given ≡ [] → end_of (then_given r later).rest ≡ Ok ends → ⊥
  nothing-given (Ok done) later ends none end = cc
  nothing-given (Err e) later ends none end = cc

  -- What an item gives is the first of its acts.
  record First (r : Result Done Fault) (later : Commands) (done : Done) (acts : List Done)
      (ends : Bool) : Type 0 where
    gives : r ≡ Ok done
    then_acts : later.given ≡ acts
    same_rest : (then_given r later).rest ≡ later.rest
    ends_so : end_of later.rest ≡ Ok ends

  first-given : (r : Result Done Fault) (later : Commands) (done : Done) (acts : List Done)
      (ends : Bool) → (then_given r later).given ≡ done ∷ acts
      → end_of (then_given r later).rest ≡ Ok ends → First r later done acts ends
  first-given (Ok d) later done acts ends is end =
      record { gives = cc; then_acts = cc; same_rest = refl; ends_so = end }
  first-given (Err e) later done acts ends is end = cc

  no-items : (w : Workspace) (p : Parsing) (skips : Bool) (bytes : List ℕ)
      → carried digest (running w p) [] (Rest skips bytes) ≡ status w p skips bytes
  unfolding carried at_tail
  no-items w p skips bytes = refl

  one-item : (w next : Workspace) (p : Parsing) (item : Item) (items : List Item) (tail : Tail)
      → step digest (running w p) item
      ≡ Ok (record { running = running next (after p item); reply = [] })
      → carried digest (running w p) (item ∷ items) tail
      ≡ carried digest (running next (after p item)) items tail
  unfolding carried
  one-item w next p item items tail is =
      ap (λ (r : Result Step _). going_on (running w p) r (λ now. carried digest now items tail)) is

  none-asked : (p : Parsing) → (commands p []).given ≡ []
  unfolding commands
  none-asked p = refl

  none-rest : (p : Parsing) → (commands p []).rest ≡ p
  unfolding commands
  none-rest p = refl

  next-asked : (p : Parsing) (item : Item) (items : List Item)
      → commands p (item ∷ items) ≡ then_given (done_by p item) (commands (after p item) items)
  unfolding commands
  next-asked p item items = refl

  -- acts that lead from one workspace to another do so as the items of a stream ask for them
  pub carried-out : {acts : List Done} {before left : Workspace} → Leaves digest acts before left
      → (items : List Item) (p : Parsing) (ends skips : Bool) (bytes : List ℕ) → GoOn acts
      → (commands p items).given ≡ acts → end_of (commands p items).rest ≡ Ok ends
      → carried digest (running before p) items (Rest skips bytes)
      ≡ status left (commands p items).rest skips bytes
  carried-out (nothing w) [] p ends skips bytes goes is end =
      no-items w p skips bytes ∙ ap (λ (q : Parsing). status w q skips bytes) (sym (none-rest p))
  carried-out (nothing w) (item ∷ items) p ends skips bytes goes is end =
      absurd (nothing-given (done_by p item) (commands (after p item) items) ends
      (ap (λ (c : Commands). c.given) (sym (next-asked p item items)) ∙ is)
      (ap (λ (c : Commands). end_of c.rest) (sym (next-asked p item items)) ∙ end))
  carried-out (first_act done later before ready next left closes acts more) [] p ends skips bytes goes is end =
      (let none = none-asked p in cc)
  carried-out (first_act done later before ready next left closes acts more) (item ∷ items) p ends skips bytes goes is end =
      let one = first-given (done_by p item) (commands (after p item) items) done later ends
      (ap (λ (c : Commands). c.given) (sym (next-asked p item items)) ∙ is)
      (ap (λ (c : Commands). end_of c.rest) (sym (next-asked p item items)) ∙ end) in
      one-item before next p item items (Rest skips bytes)
      (one-step before ready next p item done one.gives closes acts goes.0)
      ∙ carried-out more items (after p item) ends skips bytes goes.1 one.then_acts one.ends_so
      ∙ ap (λ (q : Parsing). status left q skips bytes)
      (sym (ap (λ (c : Commands). c.rest) (next-asked p item items) ∙ one.same_rest))
