use Rattle.std.proofs.Common.{◌≡◌, true, false, nat_lt, sym, refl, arith}
use Rattle.std.specs.Str.{bytes_eq}
use Rattle.std.proofs.lemmas.Bool.Decides.{nat_tests}
use Rattle.tenant_tables.specs.View.{entry_named}
use Rattle.tenant_tables.proofs.EntryLemmas.{lookup-take-found, lookup-take-none}
use Rattle.tenant_tables.proofs.table.Table.find_committed.Goals as goal

pub returns-in_err-place : goal.returns-in_err-place
unfolding entry_named
returns-in_err-place c =
    let none =
    lookup-take-none
    (bytes_eq c.args.id.now) c.args.self.now.committed c.args.self.now.entries
    (sym c.in_err-place.ensures.entry) in
    rw (c.from_residual.ensures, none) refl

pub returns-then-place-committed_len : goal.returns-then-place-committed_len
unfolding entry_named
returns-then-place-committed_len c =
    let here : nat_lt c.in_ok-place.place c.committed_len.result ≡ true = grind (arith, nat_tests) in
    rw (← c.committed_len.ensures.value, lookup-take-found (bytes_eq c.args.id.now) c.committed_len.result c.in_ok-place.place c.args.self.now.entries (sym c.in_ok-place.ensures.place), here, ← c.in_ok-place.ensures.entry) refl

pub returns-else-place-committed_len : goal.returns-else-place-committed_len
unfolding entry_named
returns-else-place-committed_len c =
    let past : nat_lt c.in_ok-place.place c.committed_len.result ≡ false = grind (arith, nat_tests) in
    rw (← c.committed_len.ensures.value, lookup-take-found (bytes_eq c.args.id.now) c.committed_len.result c.in_ok-place.place c.args.self.now.entries (sym c.in_ok-place.ensures.place), past) refl
