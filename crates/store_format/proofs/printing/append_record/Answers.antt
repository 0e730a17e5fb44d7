use Rattle.std.proofs.Common.{ℕ, List, ◌++◌, ap, ◌∙◌}
use Rattle.std.specs.Int.{w16, w32, to_be_bytes}
use Rattle.pool_file_format.specs.Format.{sized, counted}
use Rattle.store_format.specs.Records.{row_number_text, optional_text, change_text}
use Rattle.store_format.specs.Shown.{changes_of, record_of}
use Rattle.store_format.specs.declared.tenant_record.RefChange.{RefChange}
use Rattle.store_format.proofs.Appending.{then_appended}
use Rattle.store_format.proofs.printing.append_record.Goals as goal

pub returns : goal.returns
returns c =
    let r = record_of c.args.tenant.now in
    let out = c.args.out.now.items in
    let name = c.append_sized.new.out.items in
    let base = c.append_optional.new.out.items in
    let shared = c.extend_from_slice.new.self.items in
    let numbers = c.append_numbers.new.out.items in
    let changes = c.append_changes.new.out.items in
    let all = c.append_sized-2.new.out.items in
    let h = sized w16 r.head in
    let cs = counted change_text r.changes in
    let ns = counted row_number_text r.numbers in
    let s = to_be_bytes w32 r.shared in
    let b = optional_text r.base in
    let in_name = c.in_ok-append_sized.ensures ∙ ap (λ (l : List ℕ). out ++ sized w16 l) c.deref.ensures.value in
    let in_shared = c.in_ok-extend_from_slice.ensures.items ∙ ap (λ l. base ++ l) c.to_be_bytes.ensures in
    let in_numbers = c.in_ok-append_numbers.ensures ∙ ap (λ (l : List ℕ). shared ++ counted row_number_text l) c.deref-2.ensures.value in
    let in_changes = c.in_ok-append_changes.ensures ∙ ap (λ (l : List RefChange). numbers ++ counted change_text (changes_of l)) c.deref-3.ensures.value in
    let in_head = c.in_ok-append_sized-2.ensures ∙ ap (λ (l : List ℕ). changes ++ sized w16 l) c.deref-4.ensures.value in
    then_appended out name all (sized w16 r.name) (b ++ (s ++ (ns ++ (cs ++ h)))) in_name
    (then_appended name base all b (s ++ (ns ++ (cs ++ h))) c.in_ok-append_optional.ensures
    (then_appended base shared all s (ns ++ (cs ++ h)) in_shared
    (then_appended shared numbers all ns (cs ++ h) in_numbers
    (then_appended numbers changes all cs h in_changes in_head))))
