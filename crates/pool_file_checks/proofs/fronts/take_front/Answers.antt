use Rattle.std.proofs.Common.{◌<◌, List, length, sym, subst}
use Rattle.std.specs.Prelude.{All}
use Rattle.std.proofs.lemmas.List.Elements.{All-get_or}
use Rattle.pool_file_checks.specs.Fronts.{IsFront}
use Rattle.pool_file_checks.specs.declared.fronts.Front.{Front}
use Rattle.pool_file_checks.proofs.FrontLemmas.{others_are}
use Rattle.pool_file_checks.proofs.fronts.take_front.Goals as goal

pub returns-in-Some : goal.returns-in-Some
returns-in-Some c = λ digest os all.
    let inside = rw c.in-Some.is at c.place_of_front.ensures in (
      subst (λ (l : List Front). All (IsFront digest os) l) (sym c.remove.ensures.by_index.2)
          (others_are (IsFront digest os) c.args.fronts.now.items c.in-Some.place all),
      subst (IsFront digest os) (sym c.remove.ensures.value)
          (All-get_or (IsFront digest os) c.args.fronts.now.items c.in-Some.place c.remove.result (subst (λ (l : List Front). c.in-Some.place < length l) c.deref.ensures.value inside) all),
    )

pub returns : goal.returns
returns c = λ digest os all. (c.make_room.ensures digest os all, c.new.ensures digest os)
