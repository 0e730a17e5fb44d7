use Rattle.std.proofs.Common.{List, subst, sym, ap, ◌∙◌, Bool, get_or, false, ◌-◌}
use Rattle.git_model.specs.Repository.{Object}
use Rattle.git_model.specs.HeldObjects.{AreHeld}
use Rattle.commit_walk.specs.Remembered.{Tells}
use Rattle.commit_walk.proofs.Answers.{flag_tells}
use Rattle.commit_walk.proofs.ancestry.Ancestry.is_reached.Goals as goal

pub returns-clause-tells : goal.returns-clause-tells
returns-clause-tells g c good =
    let here = subst (AreHeld g.N.Naming.digest_of) (sym c.self.view_is) good in
    let known = c.in_ok-read_parents.ensures.places here (c.self.invariant.1 here).places in
    subst (λ (os : List Object). Tells os c.args.top c.args.place c.flag_at-yes.result) c.self.view_is (record {
      floor = c.floor_of-floor.result;
      flags = c.in_ok-flags.flags.items;
      above = c.floor_of-floor.ensures;
      reached = c.in_ok-flags.ensures here known;
      told = flag_tells c.floor_of-floor.result c.args.place c.in_ok-flags.flags.items c.flag_at-yes.result
          c.floor_of-floor.ensures
          (c.flag_at-yes.ensures
          ∙ ap (λ (flags : List Bool). get_or flags (c.args.place - c.floor_of-floor.result) false) c.deref-2.ensures.value);
    })
