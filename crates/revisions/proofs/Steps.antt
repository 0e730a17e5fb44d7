-- How steps that may be refused follow each other.
use Rattle.std.proofs.Common.{◌≡◌, Option, Some, None, Result, Ok, Err, refl, sym, ap}
use Rattle.std.specs.Prelude.{◌≢◌}
use Rattle.std.specs.Option.{option_map, option_and_then}
use Rattle.revisions.specs.declared.fault.Fault.{Fault}
use Rattle.revisions.specs.declared.fault.Fault.TheVariants as fault
use Rattle.git_model.specs.Results.{and_then, or_fault}
use Rattle.revisions.specs.Faults.{GivesBy, Gives}

-- where the first step is refused, so is the whole
pub refused : {X Y Z : Type 0} (view : Z → Y) (r : Result Z Fault) (e : Fault)
    (first : Result X Fault)
    (next : X → Result Y Fault) → r ≡ Err e → (e ≢ fault.Memory → first ≡ Err e)
    → GivesBy view r (and_then first next)
refused {X} {Y} {Z} view r e first next is h = rw is (λ no. ap (λ
    (f : Result X Fault). and_then f next) (h no))

-- where the first step is well, the next one decides
pub went_on : {X Y : Type 0} (first : Result X Fault) (x : X) (next : X → Result Y Fault)
    → first ≡ Ok x → and_then first next ≡ next x
went_on {X} first x next is = ap (λ (f : Result X Fault). and_then f next) is

-- what must be there, and something made of it
pub or_fault-map : {X Y : Type 0} (e : Fault) (f : X → Y) (o : Option X)
    → or_fault e (option_map f o) ≡ and_then (or_fault e o) (λ x. Ok (f x))
or_fault-map e f None = refl
or_fault-map e f (Some x) = refl

pub or_fault-then : {X Y : Type 0} (e : Fault) (f : X → Option Y) (o : Option X)
    → or_fault e (option_and_then f o) ≡ and_then (or_fault e o) (λ x. or_fault e (f x))
or_fault-then e f None = refl
or_fault-then e f (Some x) = refl

-- what a call answers exactly, it gives
pub gives-same : {A : Type 0} (r defined : Result A Fault) → r ≡ defined → Gives r defined
gives-same (Ok value) defined is = sym is
gives-same (Err e) defined is = λ _. sym is
