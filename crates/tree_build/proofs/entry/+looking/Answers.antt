use Rattle.std.proofs.Common.{◌≡◌, Option, IfOk, sym, ◌∙◌, subst, rules, arith}
use Rattle.file_maps.specs.declared.entry.Entry.{Entry}
use Rattle.tree_build.specs.Nodes.{has_name}
use Rattle.tree_build.proofs.Here.{some-at}
use Rattle.tree_build.proofs.Looked.{nothing-there, held-there}
use Rattle.tree_build.proofs.Places.{sound-at}
use Rattle.std.proofs.lemmas.List.Quantifiers.{position-Some}
use Rattle.tree_build.proofs.entry.+looking.Goals as goal

pub entry_below-entry_at-requires : goal.entry_below-entry_at-requires
entry_below-entry_at-requires g t c κs within =
    let os = c.args.objects.now in
    let lt = (position-Some (has_name c.args.name.now) c.args.entries.now.items c.in-Some.place c.at.result.now (sym c.place_of.ensures ∙ c.in-Some.is)).0 in (
      omega (arith, c.decreases),
      (
        search (rules, within),
        (
          (sound-at os c.args.entries.now.items c.in-Some.place c.at.result.now lt c.at.ensures c.requires.sound),
          λ root. (some-at os c.args.entries.now.items c.in-Some.place c.at.result.now lt c.at.ensures c.requires.sound),
        ),
      ),
    )

pub entry_below-returns-in-Some : goal.entry_below-returns-in-Some
entry_below-returns-in-Some g t c =
    let os = c.args.objects.now in
    subst (λ (x : Option Entry). IfOk c.entry_at.result (λ o. o ≡ x))
    (held-there g.N.Naming.digest_of os c.args.entries.now.items c.requires.sound c.args.name.now c.args.rest.now c.in-Some.place c.at.result.now
    (sym c.place_of.ensures ∙ c.in-Some.is) c.at.ensures)
    c.entry_at.ensures

pub entry_below-returns-in-None : goal.entry_below-returns-in-None
entry_below-returns-in-None g t c =
    let os = c.args.objects.now in
    nothing-there g.N.Naming.digest_of os c.args.entries.now.items c.requires.sound c.args.name.now c.args.rest.now (sym c.place_of.ensures ∙ c.in-None.is)
