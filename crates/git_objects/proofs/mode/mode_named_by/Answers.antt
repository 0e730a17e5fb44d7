use Rattle.std.proofs.Common.{ℕ, ◌/◌, ◌%◌, sym, ap, ◌∙◌}
use Rattle.git_model.specs.TreeReading.{mode_named_by, mode_of}
use Rattle.git_model.proofs.TreeReadings.{mode_back}
use Rattle.git_objects.proofs.mode.mode_named_by.Goals as goal

pub returns-in-Some : goal.returns-in-Some
returns-in-Some c = sym (ap mode_named_by c.in-Some.ensures ∙ mode_back c.in-Some.mode)

pub returns-in-None : goal.returns-in-None
unfolding mode_named_by
returns-in-None c =
    c.mode_of.ensures ∙ ap (λ (bits : ℕ). mode_of (bits / 4096 % 16) bits) c.octal_number.ensures
