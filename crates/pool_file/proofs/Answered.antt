-- What a load answers of a file that was read and judged, or was not.
use Rattle.std.proofs.Common.{◌≡◌, ◌∙◌, ℕ, List, Option, None, Some, Ok, Err, sym, subst}
use Rattle.std.specs.Global.{Vec}
use Rattle.byte_devices.specs.Device.{Device}
use Rattle.content_pool.specs.Pool.{Cells}
use Rattle.pool_file_format.specs.declared.fault.Fault.{Fault}
use Rattle.pool_file_format.specs.declared.fault.Fault.TheVariants as fault
use Rattle.pool_file_format.specs.Format.{RawFile}
use Rattle.pool_file_format.specs.Shown.{file_of}
use Rattle.pool_file_checks.specs.Repositories.{Named}
use Rattle.pool_file_checks.specs.Saved.{saved_in}
use Rattle.pool_file_checks.specs.Saving.{IsTextOf}
use Rattle.pool_file_checks.specs.declared.judged.Judged.{Judged}
use Rattle.pool_file_checks.specs.Judging.{Judges, Finds, ReadsTexts, IsBlamed, ReadsAndJudges}
use Rattle.pool_file.specs.declared.tenant.Tenant.{Tenant}
use Rattle.pool_file.specs.Loading.{loaded_repositories, AreTenants, LoadsAs, LoadsText, LoadsEach, Loads}

-- ---- a file

loads_as : (digest : List ℕ → List ℕ) (f : RawFile) (all : List Named)
    → all ≡ saved_in digest f → (old new : Option (List ℕ)) → Judges digest old (Ok f) new
    → LoadsAs digest old (Ok all) new
loads_as digest f all says None new judges = tt
loads_as digest f all says (Some bytes) new judges =
    (record { file = f; judged = judges.0; says = sym says }, judges.1)

loads_text : (digest : List ℕ → List ℕ) (f : RawFile) (all : List Named)
    → all ≡ saved_in digest f → (old : Option (List ℕ)) → Finds digest old (Ok f)
    → LoadsText digest old (Ok all)
loads_text digest f all says None found = tt
loads_text digest f all says (Some bytes) found =
    subst (λ (x : List Named). IsTextOf digest x bytes) (sym says) found

loads_each : (digest : List ℕ → List ℕ) (f : RawFile) (all : List Named)
    → all ≡ saved_in digest f → (old : Option (List ℕ)) → ReadsTexts digest old (Ok f)
    → LoadsEach digest old (Ok all)
loads_each digest f all says None reads = tt
loads_each digest f all says (Some bytes) reads = λ others text. says ∙ reads others text

pub blamed_ok : {A B : Type 0} (bound : ℕ) (old new : Device) (x : A) (y : B)
    → IsBlamed bound old (Ok x) new → IsBlamed bound old (Ok y) new
blamed_ok bound old new x y b = record { blames = b.blames; few = b.few }

-- ---- a fault

loads_as_err : (digest : List ℕ → List ℕ) (e : Fault) (old new : Option (List ℕ))
    → Judges digest old (Err e) new → LoadsAs digest old (Err e) new
loads_as_err digest e None new judges = tt
loads_as_err digest (fault.Refused r) (Some bytes) new judges = judges
loads_as_err digest fault.Device (Some bytes) new judges = tt
loads_as_err digest fault.Memory (Some bytes) new judges = tt

loads_text_err : (digest : List ℕ → List ℕ) (e : Fault) (old : Option (List ℕ))
    → LoadsText digest old (Err e)
loads_text_err digest e None = tt
loads_text_err digest e (Some bytes) = tt

loads_each_err : (digest : List ℕ → List ℕ) (e : Fault) (old : Option (List ℕ))
    → ReadsTexts digest old (Err e) → LoadsEach digest old (Err e)
loads_each_err digest e None reads = tt
loads_each_err digest (fault.Refused r) (Some bytes) reads = λ all text. reads all text
loads_each_err digest fault.Device (Some bytes) reads = λ all text. tt
loads_each_err digest fault.Memory (Some bytes) reads = λ all text. tt

pub blamed_err : {A B : Type 0} (bound : ℕ) (old new : Device) (e : Fault)
    → IsBlamed {A = A} bound old (Err e) new → IsBlamed {A = B} bound old (Err e) new
blamed_err bound old new (fault.Refused r) b = record { blames = b.blames; few = b.few }
blamed_err bound old new fault.Device b = record { blames = b.blames; few = b.few }
blamed_err bound old new fault.Memory b = record { blames = b.blames; few = b.few }

-- ---- no memory for what a file says

loads_as_memory : (digest : List ℕ → List ℕ) (old new : Option (List ℕ))
    → LoadsAs digest old (Err fault.Memory) new
loads_as_memory digest None new = tt
loads_as_memory digest (Some bytes) new = tt

loads_each_memory : (digest : List ℕ → List ℕ) (old : Option (List ℕ))
    → LoadsEach digest old (Err fault.Memory)
loads_each_memory digest None = tt
loads_each_memory digest (Some bytes) = λ all text. tt

pub blamed_memory : {A B : Type 0} (bound : ℕ) (old new : Device) (x : A)
    → IsBlamed bound old (Ok x) new → IsBlamed {A = B} bound old (Err fault.Memory) new
blamed_memory bound old new x b = record { blames = b.blames.asked; few = b.few }

-- ---- all of it

pub loads_file : (digest : List ℕ → List ℕ) (bound : ℕ) (old new : Device) (judged : Judged)
    (pool : Cells) (tenants : Vec Tenant) → ReadsAndJudges digest bound old (Ok judged) new
    → loaded_repositories pool tenants.items ≡ saved_in digest (file_of judged.file)
    → AreTenants digest pool tenants.items → Loads digest bound old (Ok (pool, tenants)) new
loads_file digest bound old new judged pool tenants j says good =
    let f = file_of judged.file in
    let all = loaded_repositories pool tenants.items in
    record {
      exact = loads_as digest f all says old.known new.known j.exact;
      found = loads_text digest f all says old.known j.found;
      only = loads_each digest f all says old.known j.only;
      cause = blamed_ok bound old new f all j.cause;
      tenants = good;
    }

pub loads_none : (digest : List ℕ → List ℕ) (bound : ℕ) (old new : Device) (e : Fault)
    → ReadsAndJudges digest bound old (Err e) new → Loads digest bound old (Err e) new
loads_none digest bound old new e j = record {
  exact = loads_as_err digest e old.known new.known j.exact;
  found = loads_text_err digest e old.known;
  only = loads_each_err digest e old.known j.only;
  cause = blamed_err bound old new e j.cause;
  tenants = tt;
}

pub loads_no_more : (digest : List ℕ → List ℕ) (bound : ℕ) (old new : Device) (judged : Judged)
    → ReadsAndJudges digest bound old (Ok judged) new
    → Loads digest bound old (Err fault.Memory) new
loads_no_more digest bound old new judged j = record {
  exact = loads_as_memory digest old.known new.known;
  found = loads_text_err digest fault.Memory old.known;
  only = loads_each_memory digest old.known;
  cause = blamed_memory bound old new (file_of judged.file) j.cause;
  tenants = tt;
}
