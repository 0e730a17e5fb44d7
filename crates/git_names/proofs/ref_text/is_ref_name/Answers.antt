use Rattle.std.proofs.Common.{◌≡◌, List, ℕ, Bool, IsTrue, rules, subst, sym}
use Rattle.git_model.specs.RefName.{IsRefName, is_ref_name}
use Rattle.git_model.proofs.RefNames.{is_ref_name-Decides}
use Rattle.git_names.proofs.ref_text.is_ref_name.Goals as goal

-- what equals the test decides the rules
decided : (text : List ℕ) (b : Bool) → b ≡ is_ref_name text
    → (IsTrue b → IsRefName text) × (IsRefName text → IsTrue b)
decided text b e =
    subst (λ (t : Bool). (IsTrue t → IsRefName text) × (IsRefName text → IsTrue t)) (sym e)
    (is_ref_name-Decides text)

pub returns-then-is_ref_text-clause-rules : goal.returns-then-is_ref_text-clause-rules
unfolding is_ref_name
returns-then-is_ref_text-clause-rules c =
    decided c.args.text.now c.are_ref_components.result (search rules)

pub returns-else-is_ref_text-clause-rules : goal.returns-else-is_ref_text-clause-rules
unfolding is_ref_name
returns-else-is_ref_text-clause-rules c =
    decided c.args.text.now c.if-is_in_refs.value (search rules)
