use Rattle.std.proofs.Common.{[], ◌∷◌, ◌++◌}
use Rattle.store_format.specs.Rows.{place_text, summary_text}
use Rattle.store_format.specs.Shown.{row_of}
use Rattle.store_format.proofs.Appending.{then_appended}
use Rattle.store_format.proofs.printing.append_row.Goals as goal

pub returns : goal.returns
returns c =
    let r = row_of c.args.row.now in
    let id = c.extend_from_slice.new.self.items in
    let kind = c.push.new.self.items in
    let place = c.append_place.new.out.items in
    let all = c.append_summary.new.out.items in
    then_appended c.args.out.now.items id all r.id ((r.kind ∷ []) ++ (place_text r ++ summary_text r.summary)) c.in_ok-extend_from_slice.ensures.items
    (then_appended id kind all (r.kind ∷ []) (place_text r ++ summary_text r.summary) c.in_ok-push.ensures.items
    (then_appended kind place all (place_text r) (summary_text r.summary) c.in_ok-append_place.ensures c.in_ok-append_summary.ensures))
