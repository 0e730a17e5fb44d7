use Rattle.std.proofs.Common.{◌≡◌, refl, sym, subst, ◌∙◌}
use Rattle.std.specs.Prelude.{◌↔◌, All, IsTrue, IfOk}
use Rattle.std.proofs.lemmas.List.Elements.{All-nil}
use Rattle.git_model.specs.Content.{Content, content_from}
use Rattle.git_model.specs.References.{references_in, object_at}
use Rattle.git_model.specs.GoodRepository.{StandsBefore}
use Rattle.pool_file_checks.specs.Objects.{IsText}
use Rattle.pool_file_checks.specs.Own.{objects_in}
use Rattle.pool_file_format.specs.Shown.{objects_of}
use Rattle.pool_file_checks.proofs.ConnectLemmas.{is_stored_text, own_content, own_past}
use Rattle.pool_file_checks.proofs.references.place_is_connected.Goals as goal

pub returns-in-Some : goal.returns-in-Some
returns-in-Some c =
    let os = objects_of c.args.objects.now in let rows = c.args.index.now.entries in let n = c.in-Some.number.now in
    let P = StandsBefore (objects_in os rows) c.args.place in
    let same : content_from c.content_at-kind.result.0 c.content_at-kind.result.1.now ≡ (object_at c.args.place (objects_in os rows)).content =
    c.content_at-kind.ensures ∙ sym (own_content os rows c.args.place c.in-Some.field-0-0.now n (sym c.in-Some.ensures.entry)) in
    λ stored. subst (λ (x : Content). IfOk c.is_connected.result (λ b. IsTrue b ↔ All P (references_in x))) same
    (c.is_connected.ensures (subst (λ (x : Content). IsText x.kind x.bytes) (sym c.content_at-kind.ensures) (is_stored_text os n stored)))

pub returns-in-None : goal.returns-in-None
returns-in-None c =
    let os = objects_of c.args.objects.now in let rows = c.args.index.now.entries in
    let P = StandsBefore (objects_in os rows) c.args.place in
    λ _. (λ _. subst (All P) (sym (own_past os rows c.args.place (sym c.in-None.ensures.entry))) (All-nil P), λ _. refl)
