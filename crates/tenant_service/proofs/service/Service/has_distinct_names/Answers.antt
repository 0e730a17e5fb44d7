use Rattle.std.proofs.Common.{ℕ, List, ap, sym, subst, ◌∙◌}
use Rattle.std.specs.List.{IsDistinct}
use Rattle.std.specs.Map.{keys_of}
use Rattle.std.specs.Str.{bytes_eq}
use Rattle.tenant_service.proofs.StoredLemmas.{keys-holdings}
use Rattle.tenant_service.proofs.service.Service.has_distinct_names.Goals as goal

pub returns : goal.returns
returns g c =
    subst (λ (names : List (List ℕ)). IsDistinct bytes_eq names)
    (sym (keys-holdings c.self.inside.pool c.self.inside.tenants.entries) ∙ ap keys_of c.self.view_is) c.len-many.ensures.unique
