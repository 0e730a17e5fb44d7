use Rattle.std.proofs.Common.{Err, refl}
use Rattle.pool_file_format.specs.declared.fault.Fault.TheVariants as fault
use Rattle.gitpool_c.proofs.lent.gitpool_load_lent.Goals as goal

-- there is no memory for the box: the outcome of a load that ran out of memory
pub returns-in-Err-fill : goal.returns-in-Err-fill
returns-in-Err-fill c = record {
  outcome = Err fault.Memory;
  loads = record { rest = c.loaded_lent.ensures.rest; exact = tt; found = tt; only = λ all text. tt };
  numbered = refl;
  left = c.in-Err-fill.ensures.err;
}
