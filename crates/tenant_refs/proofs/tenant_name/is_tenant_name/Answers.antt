use Rattle.std.proofs.Common.{◌≡◌, List, ℕ, Bool, IsTrue, rules, subst, sym}
use Rattle.tenant_refs.specs.TenantName.{IsTenantName, is_tenant_name}
use Rattle.tenant_refs.proofs.Names.{is_tenant_name-Decides}
use Rattle.tenant_refs.proofs.tenant_name.is_tenant_name.Goals as goal

-- what equals the test decides the rules
decided : (text : List ℕ) (b : Bool) → b ≡ is_tenant_name text
    → (IsTrue b → IsTenantName text) × (IsTenantName text → IsTrue b)
decided text b e =
    subst (λ (t : Bool). (IsTrue t → IsTenantName text) × (IsTenantName text → IsTrue t)) (sym e)
    (is_tenant_name-Decides text)

pub returns-then-text-le-TENANT_NAME_LIMIT-clause-rules : goal.returns-then-text-le-TENANT_NAME_LIMIT-clause-rules
unfolding is_tenant_name
returns-then-text-le-TENANT_NAME_LIMIT-clause-rules c =
    decided c.args.text.now c.are_parts.result (search rules)
