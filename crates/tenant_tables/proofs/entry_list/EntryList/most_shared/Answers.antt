use Rattle.std.proofs.Common.{◌≡◌, ◌≤◌, ℕ, length, take, sym, ap, ◌∙◌, arith}
use Rattle.std.proofs.lemmas.List.{take_all}
use Rattle.name_index.specs.Index.{most_shared}
use Rattle.tenant_tables.specs.View.{Entries, names}
use Rattle.tenant_tables.proofs.SharedDigits.{most_by_index}
use Rattle.tenant_tables.proofs.entry_list.EntryList.most_shared.Goals as goal
use Rattle.std.specs.Prelude.{true, false}

pub returns-then-count-self : goal.returns-then-count-self
returns-then-count-self c =
    let chosen = c.if-count-self.true in
    let size : c.self.inside.committed ≡ c.args.count = omega (arith, chosen) in
    rw (← c.self.view_is)
    (c.most_shared.ensures ∙ most_by_index c.args.id.now false _ _ _ c.self.invariant
    ∙ ap (λ (n : ℕ). most_shared c.args.id.now (names (take n c.self.inside.objects.entries))) size)

pub returns-then-count-len : goal.returns-then-count-len
returns-then-count-len c =
    let size : c.len.result ≡ length c.self.inside.objects.entries = c.len.ensures.len in
    let past = c.if-count-len.true in
    let all : length c.self.inside.objects.entries ≤ c.args.count = omega (arith, size, past) in
    rw (← c.self.view_is)
    (c.most_shared-then-count-len.ensures ∙ most_by_index c.args.id.now true _ _ _ c.self.invariant
    ∙ ap (λ (es : Entries). most_shared c.args.id.now (names es)) (sym (take_all c.args.count c.self.inside.objects.entries all)))
