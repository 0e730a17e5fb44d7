use Rattle.std.proofs.Common.{ℕ, List, sym, ap, ◌-◌, ◌∙◌, subst, arith}
use Rattle.std.proofs.lemmas.Bool.{true≢false}
use Rattle.std.proofs.lemmas.Slice.Eq.{bytes_eq-Decides}
use Rattle.git_model.specs.Tree.{slash_of}
use Rattle.tree_build.specs.declared.dir.Node.{Node}
use Rattle.tree_build.specs.Searches.{IsPlaceAfter}
use Rattle.tree_build.proofs.Look.{is_bytes}
use Rattle.tree_build.proofs.Searched.{first_named, none_named, another}
use Rattle.tree_build.proofs.names.place_before.Goals as goal

pub returns-then-next-eq0 : goal.returns-then-next-eq0
returns-then-next-eq0 c =
    let zero = c.if-next-eq0.true in
    none_named c.args.name.now (slash_of c.args.mode) c.args.entries.now.items c.requires
    c.place_by_halves-next.result c.place_by_halves-next.ensures.within
    (subst (λ (key : List ℕ). IsPlaceAfter key c.args.entries.now.items c.place_by_halves-next.result) c.ordered.ensures (c.place_by_halves-next.ensures.point c.requires))
    (λ d lt. absurd (omega arith))

pub returns-then-is_named : goal.returns-then-is_named
returns-then-is_named c =
    let some = c.if-next-eq0.false in
    let bound = c.place_by_halves-next.ensures.within in
    let same = is_bytes c.at.result.now.0 c.args.name.now (sym c.is_named.ensures ∙ c.if-is_named.true) in
    first_named c.args.name.now c.args.entries.now.items c.requires (c.place_by_halves-next.result - 1) c.at.result.now (omega arith)
    (ap (λ (e : List ℕ × Node). e.0) (sym c.at.ensures) ∙ same)

pub returns-else-is_named : goal.returns-else-is_named
returns-else-is_named c =
    let some = c.if-next-eq0.false in
    let bound = c.place_by_halves-next.ensures.within in
    none_named c.args.name.now (slash_of c.args.mode) c.args.entries.now.items c.requires
    c.place_by_halves-next.result bound
    (subst (λ (key : List ℕ). IsPlaceAfter key c.args.entries.now.items c.place_by_halves-next.result) c.ordered.ensures (c.place_by_halves-next.ensures.point c.requires))
    (λ d lt. another c.args.entries.now.items (c.place_by_halves-next.result - 1) c.at.result.now c.at.ensures c.args.name.now
    (omega arith)
    (λ is. true≢false (sym ((bytes_eq-Decides c.at.result.now.0 c.args.name.now).1 is) ∙ sym c.is_named.ensures ∙ c.if-is_named.false)) d)
