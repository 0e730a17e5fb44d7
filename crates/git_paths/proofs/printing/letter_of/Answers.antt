use Rattle.std.proofs.Common.{ℕ, eqb, ap, ◌∙◌, rules, tests}
use Rattle.std.proofs.lemmas.Iterator.{YieldsList-from_slice}
use Rattle.std.proofs.lemmas.Iterator.Search.{find_from_yields_List}
use Rattle.std.specs.Borrow.{Bor}
use Rattle.std.specs.Option.{option_map}
use Rattle.git_paths.specs.Quoting.{letters, letter_of_byte}
use Rattle.git_paths.proofs.Cases.{mapped}
use Rattle.git_paths.proofs.printing.letter_of.Goals as goal

pub returns : goal.returns
unfolding letter_of_byte
returns c =
    mapped (λ (e : Bor (ℕ × ℕ)). e.now) (λ e. e.0) _ _ c.map.ensures.cases (λ x y k. search (rules, tests)) ∙ ap (option_map (λ (e : ℕ × ℕ). e.0))
    (find_from_yields_List (λ (e : ℕ × ℕ). eqb e.1 c.args.byte) _ _ _ c.find-entry.ensures.ran (YieldsList-from_slice letters cc) (λ x b q k. search (rules, tests)))
