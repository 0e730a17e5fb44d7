use Rattle.std.proofs.Common.{◌≡◌, drop, length, sym, ap, subst, ◌∙◌}
use Rattle.std.proofs.Math.Seq.{drop-append_seam}
use Rattle.git_model.specs.GoodRepository.{IsShortRefName}
use Rattle.pool_file.proofs.LoadedRefs.{ref_after, target_is}
use Rattle.pool_file.proofs.refs.set_ref.Goals as goal

pub read_ref_name-requires : goal.read_ref_name-requires
read_ref_name-requires c =
    let full = c.as_slice-full.ensures.value ∙ c.requires.full in
    subst IsShortRefName
    (sym (ref_after c.args.front.now c.as_slice-full.result.now c.requires.ref full)) c.requires.name

pub returns : goal.returns
returns c =
    let front = c.args.front.now in
    let id = target_is c.args.table.now.entries c.args.one.now.place _ _ (sym c.unwrap-target.ensures ∙ c.at.ensures) in
    let full = c.as_slice-full.ensures.value ∙ c.requires.full in
    let name : c.in_ok-ref_name.ref_name ≡ drop (length front) c.args.one.now.name.items =
    c.in_ok-ref_name.ensures ∙ ref_after front c.as_slice-full.result.now c.requires.ref full
    ∙ sym (ap (drop (length front)) c.requires.full ∙ drop-append_seam front c.requires.ref) in
    rw (id, ← name) c.set.ensures.set
