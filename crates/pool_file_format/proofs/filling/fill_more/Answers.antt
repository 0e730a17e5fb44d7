use Rattle.std.proofs.Common.{ℕ, ◌∙◌, ap, length, replicate, arith}
use Rattle.std.proofs.lemmas.List.{length-append, length-replicate}
use Rattle.pool_file_format.proofs.Readings.{adds, front_is}
use Rattle.pool_file_format.proofs.filling.fill_more.Goals as goal

pub returns : goal.returns
returns g c =
    let e = c.split_at_mut.ensures in let f = c.in_ok-add_zeros.ensures in let i = c.deref_mut.ensures in let h = c.fill.ensures.length in
    let t = ap length c.as_slice-start.ensures.value in let k = e.back_len in let o = e.front_len in let zeros = replicate {A = ℕ} c.args.block 0 in
    let l = ap length (i.value ∙ f) ∙ length-append c.args.bytes.now.items zeros in let m = length-replicate {A = ℕ} c.args.block 0 in
    adds c.args.block _ c.args.bytes.now.items c.split_at_mut.result.0.now c.fill.new.room _ _ _ c.fill.result
    (front_is (length c.as_slice-start.result.now) c.args.bytes.now.items zeros _ c.deref_mut.result.now c.split_at_mut.result.0.now t f i.value e.front)
    (omega (arith, h, k, l, m, o, t)) (omega (arith, h, k, l, m, o, t)) c.fill.ensures.reads
