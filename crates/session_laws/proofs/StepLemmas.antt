-- What an item leaves of a running stream.
use Rattle.std.proofs.Common.{◌≡◌, ℕ, List, [], Result, Ok}
use Rattle.std.specs.Prelude.{IfOk}
use Rattle.std.proofs.lemmas.Bool.{cond_both}
use Rattle.stream_lex.specs.Items.{Item}
use Rattle.stream_parts.specs.declared.fault.Fault.{Fault}
use Rattle.import_session.specs.Stream.{Running, Step, step, taken}
use Rattle.import_session.proofs.SoundEnds.{from_ok}

-- what holds of the stream as it was, and of what is taken, holds of what the item leaves
pub step_leaves : (P : Step → Type 0) (digest : List ℕ → List ℕ) (now : Running) (item : Item)
    (left : Step) → P (record { running = now; reply = [] }) → IfOk (taken digest now item) P
    → step digest now item ≡ Ok left → P left
unfolding step
step_leaves P digest now item left at later is =
    let over : Result Step Fault = Ok (record { running = now; reply = [] }) in
    from_ok P (step digest now item) left is
    (cond_both now.is_done over (taken digest now item) (λ r. IfOk r P) (λ done. at) (λ runs. later))
