use Rattle.std.proofs.Common.{◌≡◌, ◌+◌, ◌-◌, length, take, sym, ap, ◌∙◌, arith}
use Rattle.std.proofs.lemmas.List.{length-take-le}
use Rattle.tenant_tables.specs.Objects.{objects}
use Rattle.tenant_tables.proofs.Joined.{take-none, take-one}
use Rattle.tenant_tables.proofs.TableLemmas.{last_live, last_given_up, last_objects}
use Rattle.tenant_tables.proofs.table.Table.release_at.Goals as goal

pub release-requires : goal.release-requires
release-requires g c =
    last_live _ _ _ _ _ _
    (take-one c.args.place c.args.self.now.entries _ (sym c.entry_at.ensures.entry ∙ c.in-Some.is)) c.requires.stands

pub returns-in_default-clause-stands : goal.returns-in_default-clause-stands
returns-in_default-clause-stands g c =
    let past = take-none c.args.place c.args.self.now.entries (sym c.in_default.is ∙ c.entry_at.ensures.entry) in
    let within = c.requires.within in absurd (omega (arith, past, within))

pub returns-in_default-clause-others : goal.returns-in_default-clause-others
returns-in_default-clause-others g c =
    let past = take-none c.args.place c.args.self.now.entries (sym c.in_default.is ∙ c.entry_at.ensures.entry) in
    let within = c.requires.within in absurd (omega (arith, past, within))

pub returns-in_default-clause-objects : goal.returns-in_default-clause-objects
returns-in_default-clause-objects g c =
    let past = take-none c.args.place c.args.self.now.entries (sym c.in_default.is ∙ c.entry_at.ensures.entry) in
    let within = c.requires.within in absurd (omega (arith, past, within))

pub returns-clause-stands : goal.returns-clause-stands
returns-clause-stands g c =
    (last_given_up _ _ _ _ _ _ _ (take-one c.args.place c.args.self.now.entries _ (sym c.entry_at.ensures.entry ∙ c.in-Some.is)) c.requires.stands c.release.ensures).0

pub returns-clause-others : goal.returns-clause-others
returns-clause-others g c =
    (last_given_up _ _ _ _ _ _ _ (take-one c.args.place c.args.self.now.entries _ (sym c.entry_at.ensures.entry ∙ c.in-Some.is)) c.requires.stands c.release.ensures).1

pub returns-clause-objects : goal.returns-clause-objects
returns-clause-objects g c =
    let es = c.args.self.now.entries in
    let i = c.args.place in
    let within = c.requires.within in
    let len = length-take-le (i + 1) es (omega (arith, within)) in
    let last : length (take (i + 1) es) - 1 ≡ i = omega (arith, len) in
    last_objects _ _ _ _ _ _ _
    (take-one i es _ (sym c.entry_at.ensures.entry ∙ c.in-Some.is)) c.requires.stands c.release.ensures
    ∙ ap (λ n. take n (objects c.args.pool.now (take (i + 1) es))) last
