use Rattle.std.proofs.Common.{None, Some, sym, ◌∙◌}
use Rattle.tenant_service.proofs.SoundLemmas.{sound-running}
use Rattle.tenant_service.proofs.TenantLemmas.{took-ended, took-ran_out}
use Rattle.tenant_service.proofs.tenant.end.Goals as goal

pub returns-in-Ok-clause-own : goal.returns-in-Ok-clause-own
returns-in-Ok-clause-own g c =
    let t = c.args.tenant.now in
    let s = c.in-Running.stream in
    let p = c.args.pool.now in
    let new = c.finish.new in
    let is = sym c.replace.ensures.value ∙ c.in-Running.is in
    took-ended g.N.Naming.digest_of t.phase c.replace.new.dest c.in-Running.opened s p new.pool
    t.table new.table t.refs new.refs c.args.out.now.items new.out.items is c.replace.ensures.after
    None (c.in-Ok.ensures.ended
    (sound-running _ t.phase c.in-Running.opened s p t.table t.refs is c.requires.sound))

pub returns-in-Err-Fault-clause-own : goal.returns-in-Err-Fault-clause-own
returns-in-Err-Fault-clause-own g c =
    let t = c.args.tenant.now in
    let s = c.in-Running.stream in
    let p = c.args.pool.now in
    let new = c.finish.new in
    let is = sym c.replace.ensures.value ∙ c.in-Running.is in
    took-ended g.N.Naming.digest_of t.phase c.replace.new.dest c.in-Running.opened s p new.pool
    t.table new.table t.refs new.refs c.args.out.now.items new.out.items is c.replace.ensures.after
    (Some c.in-Err-Fault.code) (rw c.in-Err-Fault.field-0-is at (c.in-Err-Fault.ensures.ended
    (sound-running _ t.phase c.in-Running.opened s p t.table t.refs is c.requires.sound)))

pub returns-in-Err-Memory-clause-own : goal.returns-in-Err-Memory-clause-own
returns-in-Err-Memory-clause-own g c =
    let t = c.args.tenant.now in
    let s = c.in-Running.stream in
    let p = c.args.pool.now in
    let new = c.finish.new in
    let is = sym c.replace.ensures.value ∙ c.in-Running.is in
    took-ran_out g.N.Naming.digest_of t.phase c.replace.new.dest c.in-Running.opened s p new.pool
    t.table new.table t.refs new.refs c.args.out.now.items new.out.items is c.replace.ensures.after
    c.in-Err-Memory.items (rw c.in-Err-Memory.field-0-is at (c.in-Err-Memory.ensures.ended
    (sound-running _ t.phase c.in-Running.opened s p t.table t.refs is c.requires.sound)))
