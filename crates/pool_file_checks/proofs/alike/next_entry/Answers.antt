use Rattle.std.proofs.Common.{◌≡◌, ◌+◌, ◌≤◌, length, take, drop, ap, sym, subst, ◌∙◌, arith}
use Rattle.std.proofs.lemmas.Bool.{OnTrue_at}
use Rattle.pool_file_format.specs.Shown.{objects_of}
use Rattle.pool_file_checks.specs.Alike.{MayName}
use Rattle.pool_file_checks.specs.Own.{objects_in}
use Rattle.pool_file_checks.proofs.AlikeEntries.{begins_same, begins_renamed, after_id}
use Rattle.pool_file_checks.proofs.alike.next_entry.Goals as goal

pub returns-then-size-equal-clause-alike : goal.returns-then-size-equal-clause-alike
returns-then-size-equal-clause-alike c =
    let t = c.if-size-equal.true in
    begins_same (objects_in (objects_of c.args.objects.now) c.args.index.now.entries) c.args.place c.args.sums.now
    c.args.old.now c.args.new.now c.in_ok-nul.nul c.args.equal c.in_ok-nul.ensures c.requires (omega (arith, t))

pub returns-clause-equal : goal.returns-clause-equal
returns-clause-equal c =
    let old = after_id c.in_ok-nul.nul c.args.old.now c.split_at.result.1.now c.in_ok-old_id.old_rest.now c.split_at.ensures.back c.in_ok-old_id.ensures.cases.1 in
    let new = after_id c.in_ok-nul.nul c.args.new.now c.split_at-2.result.1.now c.in_ok-new_id.new_rest.now c.split_at-2.ensures.back c.in_ok-new_id.ensures.cases.1 in
    rw (← old, ← new) c.equal_front.ensures

pub returns-clause-alike : goal.returns-clause-alike
returns-clause-alike c =
    let os = objects_in (objects_of c.args.objects.now) c.args.index.now.entries in
    let nul = c.in_ok-nul.nul in
    let was = c.in_ok-old_id.ensures.cases in let now = c.in_ok-new_id.ensures.cases in
    let long : 20 ≤ length (drop (nul + 1) c.args.new.now) =
    let size = now.2 in subst (λ l. 20 ≤ length l) c.split_at-2.ensures.back (omega (arith, size)) in
    let less = c.if-nul-equal.false in
    begins_renamed os c.args.place c.args.sums.now c.args.old.now c.args.new.now nul c.args.equal c.in_ok-nul.ensures c.requires
    (omega (arith, less)) c.type_inv.new long
    (λ e rest w is id.
    let old : e.id ≡ c.from_bytes-was.result =
    id ∙ ap (take 20) (sym c.split_at.ensures.back) ∙ sym was.0 ∙ sym c.from_bytes-was.ensures in
    let new : c.from_bytes-now.result ≡ take 20 (drop (nul + 1) c.args.new.now) =
    c.from_bytes-now.ensures ∙ now.0 ∙ ap (take 20) c.split_at-2.ensures.back in
    subst (MayName os c.args.place c.args.sums.now e) new
    (OnTrue_at c.if-not-may_name.false (c.may_name.ensures e (c.in_ok-kind.ensures e rest is) old)))
