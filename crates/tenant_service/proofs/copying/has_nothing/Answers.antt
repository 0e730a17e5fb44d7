use Rattle.std.proofs.Common.{List, ℕ, sym, ap, ◌∙◌, true≢false}
use Rattle.std.specs.Str.{bytes_eq}
use Rattle.std.proofs.lemmas.Bool.{eqb-true, eqb-false, ne_eqb}
use Rattle.git_model.specs.RefStore.{first_head}
use Rattle.tenant_service.proofs.CopyLemmas.{head-decides, ref-decides, entry-decides}
use Rattle.tenant_service.proofs.copying.has_nothing.Goals as goal
use Rattle.tenant_service.proofs.copying.has_nothing.Goals.{then-len-eq0, else-len-eq0}

pub returns-then-len-eq0-2 : goal.returns-then-len-eq0-2
returns-then-len-eq0-2 c = λ pool. elim c.if-len-eq0.branch [
  | then-len-eq0 w ↦
      head-decides pool c.args.table.now c.args.refs.now c.eq.result (sym c.len.ensures.value ∙ w.if-len-eq0.true)
      (sym w.len-then-len-eq0.ensures ∙ eqb-true w.len-then-len-eq0.result 0 (sym w.value-is ∙ c.if-len-eq0-2.true))
      (c.eq.ensures ∙ ap (λ (head : List ℕ). bytes_eq head first_head) c.head.ensures.head)
  | else-len-eq0 w ↦ absurd (true≢false (sym c.if-len-eq0-2.true ∙ w.value-is ∙ ne_eqb c.len.result 0 w.if-len-eq0.false))
]

pub returns-else-len-eq0-2 : goal.returns-else-len-eq0-2
returns-else-len-eq0-2 c = λ pool. elim c.if-len-eq0.branch [
  | then-len-eq0 w ↦
      c.if-len-eq0-2.false
      ∙ ref-decides pool c.args.table.now c.args.refs.now (sym c.len.ensures.value ∙ w.if-len-eq0.true)
      (λ none. eqb-false w.len-then-len-eq0.result 0 (sym w.value-is ∙ c.if-len-eq0-2.false) (w.len-then-len-eq0.ensures ∙ none))
  | else-len-eq0 w ↦
      c.if-len-eq0-2.false
      ∙ entry-decides pool c.args.table.now c.args.refs.now (λ none. w.if-len-eq0.false (c.len.ensures.value ∙ none))
]
