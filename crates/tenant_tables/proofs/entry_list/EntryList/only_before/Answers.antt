use Rattle.std.proofs.Common.{◌≡◌, true, false, nat_lt, sym, refl, arith}
use Rattle.std.specs.Str.{bytes_eq}
use Rattle.std.proofs.lemmas.Bool.Decides.{nat_tests}
use Rattle.tenant_tables.specs.View.{entry_named}
use Rattle.tenant_tables.proofs.EntryLemmas.{before-found, lookup-take-none, none-from_lookup}
use Rattle.tenant_tables.proofs.entry_list.EntryList.only_before.Goals as goal
use Rattle.tenant_tables.proofs.entry_list.EntryList.only_before.Goals.{in_default-via-in-Some+else-place-count, in_default-via-in_default}

pub returns-in-Some : goal.returns-in-Some
unfolding entry_named
returns-in-Some c =
    let found =
    before-found
    (bytes_eq c.args.id) c.args.count c.in-Some.place c.self.inside.objects.entries
    (sym c.in-Some.ensures.index) (sym c.in-Some.ensures.found) in
    let below = c.if-place-count.true in
    let here : nat_lt c.in-Some.place c.args.count ≡ true = grind (arith, nat_tests, below) in
    rw (← c.self.view_is, found, here) refl

pub returns-in_default : goal.returns-in_default
unfolding entry_named
returns-in_default c = elim c.in_default.branch [
  | in_default-via-in-Some+else-place-count w ↦
      let found =
      before-found
      (bytes_eq c.args.id) c.args.count w.in-Some.place c.self.inside.objects.entries
      (sym w.in-Some.ensures.index) (sym w.in-Some.ensures.found) in
      let past = w.if-place-count.false in
      let beyond : nat_lt w.in-Some.place c.args.count ≡ false = grind (arith, nat_tests, past) in
      rw (← c.self.view_is, found, beyond) refl
  | in_default-via-in_default w ↦
      let none =
      lookup-take-none
      (bytes_eq c.args.id) c.args.count c.self.inside.objects.entries
      (none-from_lookup _ (sym w.in_default.ensures.found)) in
      rw (← c.self.view_is, none) refl
]
