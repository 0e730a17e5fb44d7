use Rattle.std.proofs.Common.{ℕ, eqb, ap, ◌∙◌, rules, tests}
use Rattle.std.proofs.lemmas.Iterator.{YieldsList-from_slice}
use Rattle.std.proofs.lemmas.Iterator.Search.{find_from_yields_List}
use Rattle.std.specs.Borrow.{Bor}
use Rattle.std.specs.Option.{option_map}
use Rattle.git_paths.specs.Quoting.{letters, byte_of_letter}
use Rattle.git_paths.proofs.Cases.{mapped}
use Rattle.git_paths.proofs.unquoting.byte_of.Goals as goal

pub returns : goal.returns
unfolding byte_of_letter
returns c =
    mapped (λ (e : Bor (ℕ × ℕ)). e.now) (λ e. e.1) _ _ c.map.ensures.cases (λ x y k. search (rules, tests)) ∙ ap (option_map (λ (e : ℕ × ℕ). e.1))
    (find_from_yields_List (λ (e : ℕ × ℕ). eqb e.0 c.args.letter) _ _ _ c.find-entry.ensures.ran (YieldsList-from_slice letters cc) (λ x b q k. search (rules, tests)))
