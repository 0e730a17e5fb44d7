-- The numbers of the faults of a path, and what a call answers that reads a path.
use Rattle.std.specs.Prelude.{◌≡◌, ℕ, Result, Ok, Err}
use Rattle.git_paths.specs.declared.fault.Fault.{Fault}
use Rattle.git_paths.specs.declared.fault.Fault.TheVariants.{BadPath, Limit, Memory}

-- the number of a fault
abbrev pub code_of : Fault → ℕ
code_of BadPath = 10
code_of Limit = 25
code_of Memory = 90

-- A fault of the text is what reading gives; out of memory may replace any answer.
abbrev pub Fails : {Y : Type 0} → Fault → Result Y Fault → Type 0
Fails BadPath read = read ≡ Err BadPath
Fails Limit read = read ≡ Err Limit
Fails Memory read = Unit {0}

-- What a call answers, seen by view, is what reading gives, unless memory ran out.
abbrev pub Gives : {X Y : Type 0} → (X → Y) → Result X Fault → Result Y Fault → Type 0
Gives view (Ok x) read = read ≡ Ok (view x)
Gives view (Err e) read = Fails e read
