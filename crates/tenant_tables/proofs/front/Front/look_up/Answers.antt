use Rattle.std.proofs.Common.{◌≡◌, ℕ, List, [], Option, Some, take}
use Rattle.std.specs.Option.{option_map_or}
use Rattle.tenant_tables.proofs.Joined.{first_found, first_nowhere, first_past}
use Rattle.tenant_tables.proofs.front.Front.look_up.Goals as goal

-- What is in sight of a list that is there.
seen : {A B : Type 0} (n : ℕ) (list : Option B) (of : B → List A) (now : List A) (there : B)
    → take n (option_map_or of list []) ≡ now → list ≡ Some there → take n (of there) ≡ now
seen n list of now there view is = rw is at view

pub returns-in_err-found : goal.returns-in_err-found
returns-in_err-found c =
    let now = seen c.self.inside.count c.self.inside.list (λ l. l.value.entries) c.args.self.now _ c.self.view_is c.in-Some.is in
    let none = c.in_err-found.ensures in
    let told = first_nowhere c.args.id.now c.self.inside.count c.deref.result.now.entries none.place none.entry in
    record {
      place = rw (c.from_residual.ensures, ← now, ← c.deref.ensures) told.place;
      entry = rw (c.from_residual.ensures, ← now, ← c.deref.ensures) told.entry;
    }

pub returns-then-found-self : goal.returns-then-found-self
returns-then-found-self c =
    let now = seen c.self.inside.count c.self.inside.list (λ l. l.value.entries) c.args.self.now _ c.self.view_is c.in-Some.is in
    let some = c.in_ok-found.ensures in
    let told = first_found c.args.id.now c.self.inside.count c.deref.result.now.entries c.in_ok-found.found some.place some.entry some.within c.if-found-self.true in
    record {
      place = rw (← now, ← c.deref.ensures) told.place;
      entry = rw (← now, ← c.deref.ensures) told.entry;
    }

pub returns-else-found-self : goal.returns-else-found-self
returns-else-found-self c =
    let now = seen c.self.inside.count c.self.inside.list (λ l. l.value.entries) c.args.self.now _ c.self.view_is c.in-Some.is in
    let told = first_past c.args.id.now c.self.inside.count c.deref.result.now.entries c.in_ok-found.found c.in_ok-found.ensures.place c.if-found-self.false in
    record {
      place = rw (← now, ← c.deref.ensures) told.place;
      entry = rw (← now, ← c.deref.ensures) told.entry;
    }
