-- An export as the answer to a query.
use Rattle.std.proofs.Common.{◌≡◌, ℕ, Bool, true, false, List, refl}
use Rattle.std.specs.Prelude.{Ok, Err}
use Rattle.git_model.specs.Repository.{Repository}
use Rattle.export_text.specs.declared.fault.Fault.{Fault as ExportFault}
use Rattle.export_text.specs.declared.fault.Fault.TheVariants as export_fault
use Rattle.export_text.specs.Export.{Exports}
use Rattle.export_text.specs.Reached.{is_exportable}
use Rattle.answers.specs.declared.fault.Fault.{Fault}
use Rattle.answers.specs.Answers.{export_asked}
use Rattle.answers.specs.Faults.{Prints, exporting_fault}

pub exported : (r : Repository) (old now : List ℕ) (u : Unit {0}) → Exports r old now (Ok u)
    → Prints (export_asked r) old now (Ok u)
exported r old now u e = rw e.0 e.1

pub refused : (r : Repository) (old now : List ℕ) (refusal : ExportFault) (e : Fault)
    → Exports r old now (Err refusal) → e ≡ exporting_fault refusal
    → Prints (export_asked r) old now (Err e)
refused r old now export_fault.Limit e many is = rw many (λ _. is)
refused r old now export_fault.Memory e any is = by (is_exportable r) refl
  where
    by : (b : Bool) → is_exportable r ≡ b → Prints (export_asked r) old now (Err e)
    by true few = rw few is
    by false many = rw many (λ other. absurd (other is))
