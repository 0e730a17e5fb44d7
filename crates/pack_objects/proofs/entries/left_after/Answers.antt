use Rattle.std.proofs.Common.{◌≡◌, ℕ, length, Option, sym, ap, ◌∙◌, refl, arith}
use Rattle.git_model.specs.Content.{content_from}
use Rattle.pack_text.specs.PackText.{entry_text}
use Rattle.pack_objects.specs.Entries.{left_after}
use Rattle.pack_objects.proofs.EntryTexts.{enough-left, too-little-left}
use Rattle.pack_objects.proofs.entries.left_after.Goals as goal

pub returns-then-len-left : goal.returns-then-len-left
returns-then-len-left c = λ kind.
    let text = entry_text (content_from kind c.args.contents.now) in
    let few = c.if-prove.false in
    let size : c.entry_len-len.result ≡ length text = c.entry_len-len.ensures (content_from kind c.args.contents.now) refl (omega (arith, few)) in
    enough-left c.in_ok-left.left c.entry_len-len.result text size c.if-len-left.true
    ∙ ap (λ (o : Option ℕ). left_after o text) (sym c.in_ok-left.was)

pub returns-else-len-left : goal.returns-else-len-left
returns-else-len-left c = λ kind.
    let text = entry_text (content_from kind c.args.contents.now) in
    let few = c.if-prove.false in
    let size : c.entry_len-len.result ≡ length text = c.entry_len-len.ensures (content_from kind c.args.contents.now) refl (omega (arith, few)) in
    too-little-left c.in_ok-left.left c.entry_len-len.result text size c.if-len-left.false
    ∙ ap (λ (o : Option ℕ). left_after o text) (sym c.in_ok-left.was)
