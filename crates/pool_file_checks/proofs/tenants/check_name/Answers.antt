use Rattle.std.proofs.Common.{refl, sym, subst, inl, inr}
use Rattle.std.specs.Option.{option_map}
use Rattle.std.proofs.lemmas.Bool.{iff_false}
use Rattle.pool_file_checks.specs.Objects.{IsAfter}
use Rattle.pool_file_checks.specs.Tenants.{IsNameIn}
use Rattle.pool_file_checks.proofs.tenants.check_name.Goals as goal

pub returns-then-not-is_name_in : goal.returns-then-not-is_name_in
returns-then-not-is_name_in c =
    inl (
      λ name. iff_false c.is_name_in.ensures c.if-not-is_name_in.true
          (subst (IsNameIn c.args.version) (sym c.deref.ensures.value) name),
      refl,
    )

pub returns-then-not-is_after : goal.returns-then-not-is_after
returns-then-not-is_after c =
    let name = subst (IsNameIn c.args.version) c.deref.ensures.value (c.is_name_in.ensures.0 c.if-not-is_name_in.false) in
    let last = option_map (λ o. o.now) c.args.last in
    inr (
      name,
      inl (
        λ after. iff_false c.is_after.ensures c.if-not-is_after.true
            (subst (IsAfter last) (sym c.deref-2.ensures.value) after),
        refl,
      ),
    )

pub returns-then-not-is_worth_saving : goal.returns-then-not-is_worth_saving
returns-then-not-is_worth_saving c =
    let name = subst (IsNameIn c.args.version) c.deref.ensures.value (c.is_name_in.ensures.0 c.if-not-is_name_in.false) in
    let last = option_map (λ o. o.now) c.args.last in
    let after = subst (IsAfter last) c.deref-2.ensures.value (c.is_after.ensures.0 c.if-not-is_after.false) in
    inr (name, inr (after, inl (λ worth. iff_false c.is_worth_saving.ensures c.if-not-is_worth_saving.true worth, refl)))

pub returns : goal.returns
returns c =
    let name = subst (IsNameIn c.args.version) c.deref.ensures.value (c.is_name_in.ensures.0 c.if-not-is_name_in.false) in
    let last = option_map (λ o. o.now) c.args.last in
    let after = subst (IsAfter last) c.deref-2.ensures.value (c.is_after.ensures.0 c.if-not-is_after.false) in
    (name, (after, (c.is_worth_saving.ensures.0 c.if-not-is_worth_saving.false, tt)))
