use Rattle.std.proofs.Common.{◌≡◌, false, Result, Err, refl, sym, ap, subst, ◌∙◌}
use Rattle.stream_lex.specs.Looking.{item_of}
use Rattle.stream_grammar.specs.Commands.{Parsing, done_by, after}
use Rattle.stream_parts.specs.declared.fault.Fault.{Fault}
use Rattle.import_session.specs.Stream.{Step, step, taken}
use Rattle.import_session.specs.Sound.{IsSound}
use Rattle.stream_commands.specs.Held.{FilesStand}
use Rattle.stream_commands.specs.State.{state_shown, workspace_in}
use Rattle.import_session.specs.Session.{SessionView, Takes, running_in}
use Rattle.import_session.proofs.ItemLemmas.{done_step, step_over, step_running, no_act, item_answered, no_memory}
use Rattle.import_session.proofs.session.Session.take.Goals as goal

pub carry_out_done-carried-requires-clause-held : goal.carry_out_done-carried-requires-clause-held
carry_out_done-carried-requires-clause-held g c =
    subst (λ (k : SessionView). FilesStand g.N.Naming.digest_of k.state c.args.pool.now c.args.table.now)
    (sym c.self.view_is) c.requires.held

pub returns-then-is_done-clause-taken : goal.returns-then-is_done-clause-taken
returns-then-is_done-clause-taken g c sound =
    let now = running_in c.args.self.now c.args.pool.now c.args.table.now c.args.refs.now in
    step_over g.N.Naming.digest_of now (item_of c.args.item) now c.args.out.now.items
    (sym c.is_done.ensures ∙ c.if-is_done.true) refl

pub returns-in-Err-clause-taken : goal.returns-in-Err-clause-taken
returns-in-Err-clause-taken g c sound =
    let digest = g.N.Naming.digest_of in
    let item = item_of c.args.item in
    let kept : SessionView = record {
      parsing = c.self.inside.parser;
      state = state_shown c.self.inside.state;
      is_done = c.self.inside.is_done;
    } in
    let now = running_in kept c.args.pool.now c.args.table.now c.args.refs.now in
    let running : c.self.inside.is_done ≡ false =
    ap (λ (k : SessionView). k.is_done) c.self.view_is ∙ sym c.is_done.ensures ∙ c.if-is_done.false in
    let next_kept : SessionView = record {
      parsing = c.take.new.self;
      state = state_shown c.self.inside.state;
      is_done = c.self.inside.is_done;
    } in
    let next = running_in next_kept c.args.pool.now c.args.table.now c.args.refs.now in
    let by = done_by c.self.inside.parser item in
    subst
    (λ (k : SessionView). Takes (step digest (running_in k c.args.pool.now c.args.table.now
    c.args.refs.now) item)
    next c.args.out.now.items c.args.out.now.items (Err c.in-Err.fault))
    c.self.view_is
    (subst (λ (r : Result Step Fault). Takes r next c.args.out.now.items c.args.out.now.items
    (Err c.in-Err.fault))
    (sym (step_running digest now item running))
    (no_act by (done_step digest now.workspace (after c.self.inside.parser item))
    next c.args.out.now.items c.args.out.now.items c.in-Err.fault
    (c.in-Err.ensures by c.take.ensures.answers)))

pub returns-clause-taken : goal.returns-clause-taken
returns-clause-taken g c sound =
    let digest = g.N.Naming.digest_of in
    let item = item_of c.args.item in
    let kept : SessionView = record {
      parsing = c.self.inside.parser;
      state = state_shown c.self.inside.state;
      is_done = c.self.inside.is_done;
    } in
    let now = running_in kept c.args.pool.now c.args.table.now c.args.refs.now in
    let here = subst (λ (k : SessionView). IsSound digest
    (workspace_in k.state c.args.pool.now c.args.table.now c.args.refs.now)) (sym c.self.view_is)
    sound in
    let running : c.self.inside.is_done ≡ false =
    ap (λ (k : SessionView). k.is_done) c.self.view_is ∙ sym c.is_done.ensures ∙ c.if-is_done.false in
    let left = c.carry_out_done-carried.new in
    let next_kept : SessionView = record {
      parsing = c.take.new.self;
      state = state_shown left.state;
      is_done = c.is_finished-self-inside.result;
    } in
    let next = running_in next_kept left.pool left.table left.refs in
    let by = done_by c.self.inside.parser item in
    let new = workspace_in (state_shown left.state) left.pool left.table left.refs in
    let parsing = c.take.ensures.leaves (no_memory _ _ c.in-Ok.ensures) in
    let result = c.carry_out_done-carried.result in
    subst
    (λ (k : SessionView). Takes (step digest (running_in k c.args.pool.now c.args.table.now
    c.args.refs.now) item)
    next c.args.out.now.items left.out.items result)
    c.self.view_is
    (subst (λ (r : Result Step Fault). Takes r next c.args.out.now.items left.out.items result)
    (sym (step_running digest now item running))
    (subst
    (λ (p : Parsing). Takes (taken digest now item)
    (record { workspace = new; parsing = p; is_done = c.is_finished-self-inside.result })
    c.args.out.now.items left.out.items result)
    (sym parsing)
    (item_answered digest now.workspace (after c.self.inside.parser item) by c.in-Ok.done new
    c.is_finished-self-inside.result c.args.out.now.items left.out.items result
    (c.in-Ok.ensures by c.take.ensures.answers)
    (c.carry_out_done-carried.ensures.carried here)
    c.is_finished-self-inside.ensures)))
