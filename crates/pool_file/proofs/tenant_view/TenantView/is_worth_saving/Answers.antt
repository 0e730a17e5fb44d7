use Rattle.std.proofs.Common.{◌<◌, ◌||◌, Bool, length, sym, ap, ◌∙◌, arith}
use Rattle.std.specs.Prelude.{not}
use Rattle.std.specs.Str.{bytes_eq}
use Rattle.std.proofs.lemmas.Bool.{lt-ltb}
use Rattle.git_model.specs.RefStore.{first_head}
use Rattle.pool_file.specs.Worth.{named_in}
use Rattle.pool_file.proofs.tenant_view.TenantView.is_worth_saving.Goals as goal

pub returns-then-object_count-gt0 : goal.returns-then-object_count-gt0
returns-then-object_count-gt0 c = λ pool.
    let count = c.object_count.ensures pool in
    let positive = c.if-object_count-gt0.true in
    let some : 0 < length (named_in pool c.args.self.now).repository.objects =
    omega (arith, count, positive) in
    lt-ltb 0 c.object_count.result positive
    ∙ sym (ap (λ (b : Bool). b || not (bytes_eq c.args.self.now.refs.now.head first_head))
    (lt-ltb 0 (length (named_in pool c.args.self.now).repository.objects) some))
