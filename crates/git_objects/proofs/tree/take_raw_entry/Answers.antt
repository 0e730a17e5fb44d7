use Rattle.std.proofs.Common.{arith}
use Rattle.git_objects.proofs.TreeFronts.{after_fits}
use Rattle.git_objects.proofs.RawFronts.{raw_name_missing, raw_short_of_id, raw_entry_there}
use Rattle.git_objects.proofs.tree.take_raw_entry.Goals as goal

pub returns-in_default-take_raw_name : goal.returns-in_default-take_raw_name
returns-in_default-take_raw_name c =
    raw_name_missing _ _ _ c.in-Some.ensures c.in_default-take_raw_name.ensures

pub returns-in_default-split_first_chunk : goal.returns-in_default-split_first_chunk
returns-in_default-split_first_chunk c =
    raw_short_of_id _ _ _ _ _ c.in-Some.ensures c.in-Some-take_raw_name.ensures c.in_default-split_first_chunk.ensures.cases

pub returns : goal.returns
returns c =
    let chunk = c.in-Some-split_first_chunk.ensures.cases in
    rw (c.from_bytes-id.ensures, chunk.0, chunk.1)
    (raw_entry_there c.args.contents.now c.in-Some.mode.now c.in-Some.rest.now c.in-Some-take_raw_name.name.now c.in-Some-take_raw_name.rest.now (after_fits _ _ _ c.in-Some-take_raw_name.ensures.found.1 (after_fits _ _ _ c.in-Some.ensures.found.1 c.type_inv.contents)) c.in-Some.ensures c.in-Some-take_raw_name.ensures (omega (arith, chunk.2)))
