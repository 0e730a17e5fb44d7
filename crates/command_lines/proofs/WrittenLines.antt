-- The words of a line are taken, and say that line. Words that ask for the version have that fault.
use Rattle.std.proofs.Common.{◌≡◌, ◌∙◌, [], ◌∷◌, List, ap, refl, codes, inl, inr, Some, true, false}
use Rattle.clap.specs.Words.{Text, fault_of, takes}
use Rattle.clap.specs.declared.error.kind.ErrorKind.TheVariants.{DisplayVersion}
use Rattle.clap.proofs.OnLiterals.{clap_on_literals}
use Rattle.command_lines.specs.Lines.{AsksVersion, Said, ask, check, compact, copy, extract, host, import, merge, pack, remove, said_in, serve, sizes, words_of}
use Rattle.command_lines.specs.Usage.{gitpool}

written : (line : Said) → (takes gitpool (words_of line) ≡ true) × (said_in (words_of line) ≡ Some line)
unfolding clap_on_literals
written (serve pool) = (refl, refl)
written (import tenant pool) = (refl, refl)
written (ask tenant query pool) = (refl, refl)
written (check pool) = (refl, refl)
written (copy from to pool) = (refl, refl)
written (remove tenant pool) = (refl, refl)
written (compact tenant pool) = (refl, refl)
written (sizes pool) = (refl, refl)
written (extract tenant file pool) = (refl, refl)
written (merge file pool) = (refl, refl)
written (host pool) = (refl, refl)
written (pack tenant false pool) = (refl, refl)
written (pack tenant true pool) = (refl, refl)

pub written_taken : (line : Said) → takes gitpool (words_of line) ≡ true
written_taken line = (written line).0

pub written_said : (line : Said) → said_in (words_of line) ≡ Some line
written_said line = (written line).1

long_version : fault_of gitpool (codes "--version" ∷ []) ≡ DisplayVersion ∷ []
unfolding clap_on_literals
long_version = refl

short_version : fault_of gitpool (codes "-V" ∷ []) ≡ DisplayVersion ∷ []
unfolding clap_on_literals
short_version = refl

pub version_fault : (words : List Text) → AsksVersion words → fault_of gitpool words ≡ DisplayVersion ∷ []
version_fault words (inl is) = ap (fault_of gitpool) is ∙ long_version
version_fault words (inr is) = ap (fault_of gitpool) is ∙ short_version
