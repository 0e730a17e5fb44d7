-- Lines that were written stand where they stood, whatever is appended.
use Rattle.std.proofs.Common.{◌≡◌, ℕ, ◌+◌, ◌-◌, ◌≤◌, List, [], ◌++◌, length, get_or, take, drop, slice_range, refl, sym, ap, ◌∙◌, arith, Result, Ok, Err}
use Rattle.std.specs.Prelude.{OnOk}
use Rattle.std.proofs.lemmas.List.{take-append-drop, take-append-le, drop-append-le, take_all, drop_at, length-append, length-drop}
use Rattle.git_model.specs.Repository.{Object}
use Rattle.export_text.specs.declared.told.Directory.{Directory}
use Rattle.export_text.specs.declared.told.Directories.{Directories}
use Rattle.export_text.specs.Lines.{IsTold, AreTold, lines_within}

range-append : (old more : List ℕ) (start end : ℕ) → start ≤ end → end ≤ length old
    → slice_range (old ++ more) start end ≡ slice_range old start end
range-append old more start end forward within =
    ap (take (end - start)) (drop-append-le start old more (omega (arith, forward, within)))
    ∙ take-append-le (end - start) (drop start old) more
    (let n = length-drop start old in omega (arith, forward, within, n))

pub last-range : (old new text : List ℕ) → new ≡ old ++ text
    → slice_range new (length old) (length new) ≡ text
last-range old new text is =
    ap (take (length new - length old)) (ap (drop (length old)) is ∙ drop_at old text (length old) refl)
    ∙ take_all (length new - length old) text
    (let n = ap length is in let m = length-append old text in omega (arith, n, m))

pub longer : (old new : List ℕ) → take (length old) new ≡ old → length old ≤ length new
longer old new kept =
    let n = ap length (sym (take-append-drop (length old) new) ∙ ap (λ front. front ++ drop (length old) new) kept) in
    let m = length-append old (drop (length old) new) in
    omega (arith, n, m)

stays : (os : List Object) (old new : List ℕ) (d : Directory) → take (length old) new ≡ old
    → IsTold os old d → IsTold os new d
stays os old new d kept told = record {
  forward = told.forward;
  within = let n = longer old new kept in let w = told.within in omega (arith, n, w);
  lines =
      ap (λ (text : List ℕ). slice_range text d.lines.start d.lines.end)
      (sym (take-append-drop (length old) new) ∙ ap (λ front. front ++ drop (length old) new) kept)
      ∙ range-append old (drop (length old) new) d.lines.start d.lines.end told.forward told.within
      ∙ told.lines;
}

pub still-told : (os : List Object) (old new : List ℕ) (told : Directories)
    → take (length old) new ≡ old → AreTold os old told → AreTold os new told
still-told os old new told kept are = λ i d lt.
    stays os old new (get_or told.directories.items i d) kept (are i d lt)

-- ---- a directory of no level

pub no-lines : (os : List Object) (prefix tree : List ℕ) → lines_within os 0 prefix tree ≡ []
unfolding lines_within
no-lines os prefix tree = refl

-- ---- what holds after every call

pub on-ok : {T E P : Type 0} (r : Result T E) → P → OnOk r P
on-ok (Ok x) p = p
on-ok (Err e) p = tt
