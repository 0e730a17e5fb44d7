use Rattle.std.proofs.Common.{◌++◌, Err, ap, ◌∙◌}
use Rattle.std.proofs.lemmas.Result.{err_from_is_err_and}
use Rattle.byte_devices.specs.declared.device_fault.DeviceFault.{DeviceFault}
use Rattle.byte_devices.specs.Device.{device_of, seen}
use Rattle.pool_file_format.specs.Format.{body_text}
use Rattle.pool_file_format.specs.Shown.{file_of, listed_file, object_of}
use Rattle.pool_file_format.specs.Sinks.{HasWritten, HasBroken}
use Rattle.pool_file_format.specs.AddingUp.{writers_add_up}
use Rattle.pool_file_format.proofs.Pieces.{then_is, stops_is, as_writes, err_writes}
use Rattle.pool_file_format.proofs.sealing.write_sealed.Goals as goal

pub returns-in_err-put_body : goal.returns-in_err-put_body
returns-in_err-put_body g c =
    let p = err_from_is_err_and c.from_residual.result c.from_residual.ensures.1 in
    err_writes _ _ _ c.in_err-put_body.field-0.0 _ (p.1 ∙ ap (λ (e : DeviceFault). Err e) p.2) (stops_is (λ old new bytes. HasWritten (seen (g.W.Write.contents (device_of old)) old) (seen (g.W.Write.contents (device_of new)) new) bytes)
    (λ old new bytes. HasBroken (seen (g.W.Write.contents (device_of old)) old) (seen (g.W.Write.contents (device_of new)) new) bytes)
    c.args.writer.now c.put_body.new.sink c.in_err-put_body.field-0.0 (body_text (listed_file object_of c.listed.result)) (body_text (file_of c.args.file.now)) (g.N.Naming.digest_of (body_text (file_of c.args.file.now))) (writers_add_up g.W.Write.contents) (ap body_text c.listed.ensures) c.in_err-put_body.ensures)

pub returns : goal.returns
returns g c =
    as_writes g.W.Write.contents c.args.writer.now c.take.new.self c.take.result (body_text (file_of c.args.file.now) ++ g.N.Naming.digest_of (body_text (file_of c.args.file.now))) (then_is (λ old new bytes. HasWritten (seen (g.W.Write.contents (device_of old)) old) (seen (g.W.Write.contents (device_of new)) new) bytes)
    (λ old new bytes. HasBroken (seen (g.W.Write.contents (device_of old)) old) (seen (g.W.Write.contents (device_of new)) new) bytes)
    c.args.writer.now c.put_body.new.sink c.take.new.self c.take.result (body_text (listed_file object_of c.listed.result)) (body_text (file_of c.args.file.now)) c.digest_of-digest.result (g.N.Naming.digest_of (body_text (file_of c.args.file.now))) (writers_add_up g.W.Write.contents) (ap body_text c.listed.ensures) c.digest_of-digest.ensures
    c.in_ok-put_body.ensures c.take.ensures)
