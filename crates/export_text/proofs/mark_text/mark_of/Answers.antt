use Rattle.std.proofs.Common.{ℕ, ◌+◌, sym, ap}
use Rattle.export_text.proofs.mark_text.mark_of.Goals as goal

pub returns-in-Some : goal.returns-in-Some
returns-in-Some g c = ap (λ (n : ℕ). n + 1) (sym c.in-Some.ensures.0)
