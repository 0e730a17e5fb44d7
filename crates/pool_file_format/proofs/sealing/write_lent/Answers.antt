use Rattle.std.proofs.Common.{[], ◌++◌, Err, refl, ap, ◌∙◌}
use Rattle.std.proofs.lemmas.Result.{err_from_is_err_and}
use Rattle.byte_devices.specs.declared.device_fault.DeviceFault.{DeviceFault}
use Rattle.byte_devices.specs.Device.{device_of, seen}
use Rattle.pool_file_format.specs.Format.{body_text}
use Rattle.pool_file_format.specs.Shown.{lent_file, listed_text}
use Rattle.pool_file_format.specs.Sinks.{HasWritten, HasBroken}
use Rattle.pool_file_format.specs.AddingUp.{writers_add_up}
use Rattle.pool_file_format.proofs.Pieces.{then_is, stops_is, as_writes, err_writes}
use Rattle.pool_file_format.proofs.sealing.write_lent.Goals as goal

pub returns-in_err-put_both : goal.returns-in_err-put_both
unfolding listed_text
returns-in_err-put_both g c =
    let p = err_from_is_err_and c.from_residual.result c.from_residual.ensures.1 in
    let text = body_text (lent_file c.args.objects.now c.args.tenants.now) in
    err_writes _ _ _ c.in_err-put_both.field-0.0 _ (p.1 ∙ ap (λ (e : DeviceFault). Err e) p.2) (stops_is (λ old new bytes. HasWritten (seen (g.W.Write.contents (device_of old)) old) (seen (g.W.Write.contents (device_of new)) new) bytes)
    (λ old new bytes. HasBroken (seen (g.W.Write.contents (device_of old)) old) (seen (g.W.Write.contents (device_of new)) new) bytes)
    c.args.writer.now c.put_both.new.sink c.in_err-put_both.field-0.0 text text (g.N.Naming.digest_of text) (writers_add_up g.W.Write.contents) refl c.in_err-put_both.ensures.gives)

pub returns : goal.returns
unfolding listed_text
returns g c =
    let text = body_text (lent_file c.args.objects.now c.args.tenants.now) in
    as_writes g.W.Write.contents c.args.writer.now c.take.new.self c.take.result (text ++ g.N.Naming.digest_of text) (then_is (λ old new bytes. HasWritten (seen (g.W.Write.contents (device_of old)) old) (seen (g.W.Write.contents (device_of new)) new) bytes)
    (λ old new bytes. HasBroken (seen (g.W.Write.contents (device_of old)) old) (seen (g.W.Write.contents (device_of new)) new) bytes)
    c.args.writer.now c.put_both.new.sink c.take.new.self c.take.result text text c.end.result (g.N.Naming.digest_of text) (writers_add_up g.W.Write.contents) refl (c.end.ensures text (c.in_ok-put_both.ensures.fed [] c.start-running.ensures))
    c.in_ok-put_both.ensures.gives c.take.ensures)
