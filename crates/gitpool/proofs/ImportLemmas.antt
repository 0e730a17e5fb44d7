-- What an import has done so far.
use Rattle.std.proofs.Common.{◌≡◌, ◌≢◌, ℕ, ◌+◌, ◌-◌, ◌^◌, ◌<◌, ◌≤◌, inl, inr, Bool, true, false, List, [], ◌∷◌, ◌++◌, length, take, codes, Option, None, Some, Result, Ok, Err, refl, sym, ap, subst, ◌∙◌, append-nil, arith}
use Rattle.std.proofs.lemmas.List.{length-append}
use Rattle.std.specs.Io.KnownBytes.{Appends, Consumes, Keeps, IsAtEnd}
use Rattle.git_model.specs.Repository.{Repository}
use Rattle.import_session.specs.Stream.{StreamStatus, End as StreamEnd, finished}
use Rattle.git_objects.specs.Device.{Device, HasRead, counted_on, HasFault, IsWell, AppendsFront}
use Rattle.git_objects.proofs.KnownBytes.{Appends-nil, Appends-trans, Consumes-nil, HasRead-trans, HasRead-kept}
use Rattle.service_steps.specs.declared.answer.Answer.{Answer}
use Rattle.service_steps.specs.declared.answer.Answer.TheVariants as answer
use Rattle.service_steps.specs.Reading.{HasReadWell}
use Rattle.service_steps.proofs.ReadLemmas.{one_well}
use Rattle.service_steps.proofs.WriteLemmas.{front_of_later}
use Rattle.tenant_service.specs.Alone.{Open, Feed, End, stream_of}
use Rattle.tenant_refs.specs.TenantName.{is_tenant_name}
use Rattle.tenant_service.specs.TenantState.{TenantStates, empty_repository, held_of}
use Rattle.tenant_service.specs.HeldObjects.{has_read_done}
use Rattle.gitpool.specs.declared.step_fault.StepFault.{StepFault}
use Rattle.gitpool.specs.declared.step_fault.StepFault.TheVariants as fault
use Rattle.gitpool.specs.StepFaults.{as_result}
use Rattle.gitpool.specs.Devices.{AreWell}
use Rattle.gitpool.specs.Import.{ServiceEffect, HasAsked, IsImported, IsGivenUp, IsStopped, IsDevice, AsksForMore, ImportsInto, end_in}
use Rattle.gitpool.specs.Importing.{CanOpen, HasImported, HasTakenCalls, HasFed, Fed, IsStreaming, Passes, IsRefusedWith, IsWrittenFront, PassesOn, IsReadThrough, IsEndWritten, EndsImport, ReadsAll, GivesUp, replies_to}
use Rattle.gitpool.proofs.StreamLemmas.{front_of_front, whole_front, stands-so, new-replies, new-running, asks-for-more, replies-whole, settled-done, settled-refused}
use Rattle.gitpool.proofs.StepLemmas.{imported-none, fed-none, fed-more, fed-ended, FedAs, fed-front, EndedAs, ended-front}

-- what an import has done so far, by so many reads
pub record SoFar (digest : List ℕ → List ℕ) (tenant : List ℕ) (repository : Repository) (before now : TenantStates) (r0 r w0 w : Device)
    (count : ℕ) : Type 0 where
  pub bytes : List ℕ
  pub fed : HasFed digest tenant before now false bytes
  pub streaming : IsStreaming digest tenant repository bytes now
  pub running : has_read_done (held_of tenant now) ≡ false
  pub read : HasRead r0 r bytes
  pub often : counted_on r0.calls count ≤ r.calls
  pub asked : r.calls ≤ r0.calls + count
  pub giving : count ≤ length bytes
  pub written : Appends w0.known w.known (stream_of digest repository bytes).replies
  pub well : AreWell r0 r w0 w

-- one call of `read` gave a piece
pub record HasGiven (old new : Device) (piece : List ℕ) : Type 0 where
  pub well : HasReadWell old new piece
  pub called : new.calls ≡ counted_on old.calls 1
  pub some : length piece ≢ 0

pub gives_piece : (old new : Device) (n : ℕ) (buf piece : List ℕ) → piece ≡ take n buf → n ≡ length (take n buf)
    → Consumes old.known new.known (take n buf) → new.passed ≡ counted_on old.passed n → new.faults ≡ old.faults
    → new.calls ≡ counted_on old.calls 1 → n ≢ 0 → HasGiven old new piece
gives_piece old new n buf piece is size consumed passed faults called some = record {
  well = subst (HasReadWell old new) (sym is) (one_well old new n buf size consumed passed faults);
  called = called;
  some = λ none. some (size ∙ ap (λ (l : List ℕ). length l) (sym is) ∙ none);
}

-- before the first byte
pub so_far_new : (digest : List ℕ → List ℕ) (tenant : List ℕ) (repository : Repository) (held : TenantStates) (r w : Device)
    → r.passed ≤ 2 ^ 64 - 1 → IsStreaming digest tenant repository [] held → SoFar digest tenant repository held held r r w w 0
so_far_new digest tenant repository held r w fits streaming = record {
  bytes = [];
  fed = fed-none digest tenant held;
  streaming = streaming;
  running = new-running digest repository (held_of tenant held) streaming.1;
  read = record { consumed = Consumes-nil r.known; passed = omega (arith, fits) };
  often = omega arith;
  asked = omega arith;
  giving = omega arith;
  written = subst (λ (l : List ℕ). Appends w.known w.known l) (sym (new-replies digest repository)) (Appends-nil w.known);
  well = (refl, refl);
}

module _ (digest : List ℕ → List ℕ) (tenant : List ℕ) (repository : Repository) (before now : TenantStates) (r0 r w0 w : Device) (count : ℕ)
    (s : SoFar digest tenant repository before now r0 r w0 w count) where
  -- it asks for more
  asks_so_far : AsksForMore (stream_of digest repository s.bytes).status
  asks_so_far = asks-for-more digest repository s.bytes (held_of tenant now) s.streaming.1 s.running

  -- one call more, whatever it gave
  asked_more : (r' : Device) (piece : List ℕ) → count < 2 ^ 32 → r'.calls ≡ counted_on r.calls 1 → HasAsked r0 r' (s.bytes ++ piece)
  asked_more r' piece few called =
      let a = s.asked in let g = s.giving in let n = length-append s.bytes piece in
      record { giving = omega (arith, a, g, n, called); bounded = omega (arith, a, few, called) }

  asked_last : (r' : Device) → count < 2 ^ 32 → r'.calls ≡ counted_on r.calls 1 → HasAsked r0 r' s.bytes
  asked_last r' few called = subst (HasAsked r0 r') (append-nil s.bytes) (asked_more r' [] few called)

  -- the replies to a piece stand after all before
  whole_written : (w' : Device) (piece : List ℕ) → Appends w.known w'.known (replies_to digest repository s.bytes piece)
      → Appends w0.known w'.known (stream_of digest repository (s.bytes ++ piece)).replies
  whole_written w' piece written =
      subst (λ (l : List ℕ). Appends w0.known w'.known l)
      (sym (replies-whole digest repository s.bytes piece (held_of tenant now) (stands-so digest repository s.bytes (held_of tenant now) s.streaming.1)))
      (Appends-trans w0.known w.known w'.known _ (replies_to digest repository s.bytes piece) s.written written)

  front_after : (w' : Device) (piece : List ℕ) → IsWrittenFront digest repository s.bytes piece w w'
      → AppendsFront w0.known w'.known (stream_of digest repository (s.bytes ++ piece)).replies
  front_after w' piece front =
      subst (λ (l : List ℕ). AppendsFront w0.known w'.known l)
      (sym (replies-whole digest repository s.bytes piece (held_of tenant now) (stands-so digest repository s.bytes (held_of tenant now) s.streaming.1)))
      (front_of_later w0.known w.known w'.known _ (replies_to digest repository s.bytes piece) s.written front)

  -- one piece more
  pub so_far_more : (after : TenantStates) (r' w' : Device) (piece : List ℕ) → HasGiven r r' piece
      → HasTakenCalls digest tenant now after (Feed piece ∷ []) → Passes digest tenant repository s.bytes piece w after w'
      → has_read_done (held_of tenant after) ≡ false → SoFar digest tenant repository before after r0 r' w0 w' (count + 1)
  so_far_more after r' w' piece gives taken p running = record {
    bytes = s.bytes ++ piece;
    fed = fed-more digest tenant before now after s.bytes piece s.fed taken;
    streaming = p.streaming;
    running = running;
    read = HasRead-trans r0 r r' s.bytes piece s.read gives.well.read;
    often = let m = s.often in let c = gives.called in omega (arith, m, c);
    asked = let m = s.asked in let c = gives.called in omega (arith, m, c);
    giving = let m = s.giving in let n = length-append s.bytes piece in let some = gives.some in omega (arith, m, n, some);
    written = whole_written w' piece p.written;
    well = (gives.well.well ∙ s.well.0, p.well ∙ s.well.1);
  }

  -- `done` was read
  pub through_done : (after : TenantStates) (r' w' : Device) (piece : List ℕ) → count < 2 ^ 32 → HasGiven r r' piece
      → HasTakenCalls digest tenant now after (Feed piece ∷ []) → Passes digest tenant repository s.bytes piece w after w'
      → has_read_done (held_of tenant after) ≡ true → IsReadThrough digest tenant repository before r0 r' w0 after w'
  through_done after r' w' piece few gives taken p done = record {
    bytes = s.bytes ++ piece;
    fed = fed-more digest tenant before now after s.bytes piece s.fed taken;
    read = HasRead-trans r0 r r' s.bytes piece s.read gives.well.read;
    asked = asked_more r' piece few gives.called;
    written = whole_written w' piece p.written;
    streaming = p.streaming;
    last = inr (settled-done digest repository (s.bytes ++ piece) (held_of tenant after) p.streaming.1 done);
    well = (gives.well.well ∙ s.well.0, p.well ∙ s.well.1);
  }

  -- the end of the input
  pub through_end : (r' : Device) → count < 2 ^ 32 → Consumes r.known r'.known [] → IsAtEnd r'.known
      → r'.passed ≡ counted_on r.passed 0 → r'.faults ≡ r.faults → r'.calls ≡ counted_on r.calls 1
      → IsReadThrough digest tenant repository before r0 r' w0 now w
  through_end r' few consumed at_end passed well called = record {
    bytes = s.bytes;
    fed = s.fed;
    read = subst (HasRead r0 r') (append-nil s.bytes)
        (HasRead-trans r0 r r' s.bytes [] s.read (record { consumed = consumed; passed = passed }));
    asked = asked_last r' few called;
    written = s.written;
    streaming = s.streaming;
    last = inl at_end;
    well = (well ∙ s.well.0, s.well.1);
  }

  -- what came of a piece that did not pass
  refused_piece : (after : TenantStates) (r' w' : Device) (piece : List ℕ) (code : ℕ) → count < 2 ^ 32 → HasGiven r r' piece
      → HasTakenCalls digest tenant now after (Feed piece ∷ []) → IsRefusedWith digest repository s.bytes piece code w w'
      → IsImported digest repository (Fed digest tenant before after) r0 r' w0 w' (Some code)
  refused_piece after r' w' piece code few gives taken p =
      let same = ap (λ (x : StreamStatus). finished digest x) p.refused in
      record {
        bytes = s.bytes ++ piece;
        effect = fed-more digest tenant before now after s.bytes piece s.fed taken;
        read = HasRead-trans r0 r r' s.bytes piece s.read gives.well.read;
        asked = asked_more r' piece few gives.called;
        written = subst (λ (l : List ℕ). Appends w0.known w'.known l)
            (sym (ap (λ (e : StreamEnd). (stream_of digest repository (s.bytes ++ piece)).replies ++ e.reply) same ∙ append-nil _))
            (whole_written w' piece p.written);
        ended = ap (λ (e : StreamEnd). e.fault) same;
        last = inr (settled-refused digest repository (s.bytes ++ piece) code p.left p.refused);
        well = (gives.well.well ∙ s.well.0, p.well ∙ s.well.1);
      }

  unwritten : (after : TenantStates) (r' w' : Device) (piece : List ℕ) → count < 2 ^ 32 → HasGiven r r' piece
      → HasTakenCalls digest tenant now after (Feed piece ∷ [])
      → IsWrittenFront digest repository s.bytes piece w w' × HasFault w.faults w'.faults
      → (g : IsGivenUp digest repository (Fed digest tenant before after) r0 r' w0 w') × (g.at_end ≡ false)
  unwritten after r' w' piece few gives taken f =
      let failed : HasFault w0.faults w'.faults = subst (λ (n : ℕ). HasFault n w'.faults) s.well.1 f.1 in (
        record {
          bytes = s.bytes ++ piece;
          read = HasRead-trans r0 r r' s.bytes piece s.read gives.well.read;
          asked = asked_more r' piece few gives.called;
          at_end = false;
          effect = fed-more digest tenant before now after s.bytes piece s.fed taken;
          end = λ (none : false ≡ true). cc none;
          written = record { front = front_after w' piece f.0; whole = inl failed };
          blamed = inl (gives.well.well ∙ s.well.0, failed);
        },
        refl,
      )

  stopped : (after : TenantStates) (r' w' : Device) (piece : List ℕ) → count < 2 ^ 32 → HasGiven r r' piece
      → HasTakenCalls digest tenant now after (Feed piece ∷ [])
      → IsWrittenFront digest repository s.bytes piece w w' × IsWell w w'
      → IsStopped digest repository (Fed digest tenant before after) r0 r' w0 w'
  stopped after r' w' piece few gives taken f = record {
    bytes = s.bytes ++ piece;
    ended = true;
    unopened = λ (none : true ≡ false). cc none;
    effect = fed-more digest tenant before now after s.bytes piece s.fed taken;
    read = HasRead-trans r0 r r' s.bytes piece s.read gives.well.read;
    asked = asked_more r' piece few gives.called;
    written = front_after w' piece f.0;
    well = (gives.well.well ∙ s.well.0, f.1 ∙ s.well.1);
  }

  pub imported_piece : (after : TenantStates) (r' w' : Device) (piece : List ℕ) (e : StepFault) → count < 2 ^ 32 → HasGiven r r' piece
      → HasTakenCalls digest tenant now after (Feed piece ∷ [])
      → PassesOn digest tenant repository s.bytes piece w (Err e) after w'
      → ReadsAll digest tenant repository before r0 r' w0 (Err e) after w'
  imported_piece after r' w' piece (fault.Refused code) few gives taken p = refused_piece after r' w' piece code few gives taken p
  imported_piece after r' w' piece fault.Device few gives taken p = unwritten after r' w' piece few gives taken p
  imported_piece after r' w' piece fault.Memory few gives taken p = stopped after r' w' piece few gives taken p

  -- all replies to what was read stand written
  all_written : (r' : Device) → HasRead r0 r' s.bytes → HasAsked r0 r' s.bytes → IsDevice digest repository s.bytes r0 r' w0 w
      → (g : IsGivenUp digest repository (Fed digest tenant before now) r0 r' w0 w) × (g.at_end ≡ false)
  all_written r' had asked blamed =
      let replies = (stream_of digest repository s.bytes).replies in (
        record {
          bytes = s.bytes;
          read = had;
          asked = asked;
          at_end = false;
          effect = s.fed;
          end = λ (none : false ≡ true). cc none;
          written = record {
            front = record {
              front = replies;
              rest = [];
              parts = sym (append-nil replies);
              appends = s.written;
            };
            whole = inr s.written;
          };
          blamed = blamed;
        },
        refl,
      )

  -- a read failed
  pub unread : (r' : Device) → count < 2 ^ 32 → Keeps r.known r'.known → r'.passed ≡ r.passed
      → r'.faults ≡ counted_on r.faults 1 → r'.calls ≡ counted_on r.calls 1
      → ReadsAll digest tenant repository before r0 r' w0 (Err fault.Device) now w
  unread r' few keeps passed failed called =
      all_written r' (HasRead-kept r0 r r' s.bytes s.read keeps passed) (asked_last r' few called)
      (inr (asks_so_far, inl (failed ∙ ap (λ (n : ℕ). counted_on n 1) s.well.0, s.well.1)))

  -- the reader never ends
  pub endless : count ≡ 2 ^ 32 → ReadsAll digest tenant repository before r0 r w0 (Err fault.Device) now w
  endless all =
      let a = s.asked in let g = s.giving in let o = s.often in
      all_written r s.read (record { giving = omega (arith, a, g); bounded = omega (arith, a, all) })
      (inr (asks_so_far, inr (record { often = omega (arith, o, all); giving = omega (arith, g, all); well = s.well })))

-- ---- a piece, once its replies were written

pub passes_on : (digest : List ℕ → List ℕ) (tenant : List ℕ) (repository : Repository) (bytes piece : List ℕ) (w w' : Device) (a : Answer)
    (out : List ℕ) (before after : TenantStates) → IsStreaming digest tenant repository bytes before
    → FedAs digest repository bytes piece a out (held_of tenant after) → Appends w.known w'.known out → IsWell w w'
    → PassesOn digest tenant repository bytes piece w (as_result a) after w'
passes_on digest tenant repository bytes piece w w' answer.Ok out before after streaming f written well = record {
  streaming = (streaming.0, f.0);
  written = subst (λ (l : List ℕ). Appends w.known w'.known l) f.1 written;
  well = well;
}
passes_on digest tenant repository bytes piece w w' (answer.Fault code) out before after streaming f written well = record {
  left = f.0;
  refused = f.1;
  written = subst (λ (l : List ℕ). Appends w.known w'.known l) f.2 written;
  well = well;
}
passes_on digest tenant repository bytes piece w w' (answer.Memory count) out before after streaming f written well =
    (whole_front w.known w'.known out _ written f, well)

pub pass_fails : (digest : List ℕ → List ℕ) (tenant : List ℕ) (repository : Repository) (bytes piece : List ℕ) (w w' : Device) (a : Answer)
    (out : List ℕ) (after : TenantStates)
    → FedAs digest repository bytes piece a out (held_of tenant after) → AppendsFront w.known w'.known out → HasFault w.faults w'.faults
    → PassesOn digest tenant repository bytes piece w (Err fault.Device) after w'
pass_fails digest tenant repository bytes piece w w' a out after f front failed =
    (front_of_front w.known w'.known out _ front (fed-front digest repository bytes piece a out (held_of tenant after) f), failed)

-- ---- the end, once its reply was written

pub ends_import : (digest : List ℕ → List ℕ) (repository : Repository) (bytes : List ℕ) (w w' : Device) (a : Answer) (out : List ℕ)
    → EndedAs digest repository bytes a out → Appends w.known w'.known out → IsWell w w'
    → EndsImport digest repository bytes w (as_result a) w'
ends_import digest repository bytes w w' answer.Ok out e written well = record {
  ended = e.0;
  written = subst (λ (l : List ℕ). Appends w.known w'.known l) e.1 written;
  well = well;
}
ends_import digest repository bytes w w' (answer.Fault code) out e written well = record {
  ended = e.0;
  written = subst (λ (l : List ℕ). Appends w.known w'.known l) e.1 written;
  well = well;
}
ends_import digest repository bytes w w' (answer.Memory count) out e written well =
    (subst (λ (l : List ℕ). Appends w.known w'.known l) e written, well)

pub end_fails : (digest : List ℕ → List ℕ) (repository : Repository) (bytes : List ℕ) (w w' : Device) (a : Answer) (out : List ℕ)
    → EndedAs digest repository bytes a out → AppendsFront w.known w'.known out → HasFault w.faults w'.faults
    → EndsImport digest repository bytes w (Err fault.Device) w'
end_fails digest repository bytes w w' a out e front failed =
    (front_of_front w.known w'.known out _ front (ended-front digest repository bytes a out e), failed)

-- ---- all of it

module _ (digest : List ℕ → List ℕ) (tenant : List ℕ) (repository : Repository) (before between after : TenantStates) (r0 r w0 w w' : Device)
    (s : IsReadThrough digest tenant repository before r0 r w0 between w) (taken : HasTakenCalls digest tenant between after (End ∷ [])) where
  fed_and_ended : HasFed digest tenant before after true s.bytes
  fed_and_ended = fed-ended digest tenant before between after s.bytes s.fed taken

  ends_as : (end : Option ℕ) → IsEndWritten digest repository s.bytes end w w'
      → IsImported digest repository (HasFed digest tenant before after) r0 r w0 w' end
  ends_as end e = record {
    bytes = s.bytes;
    effect = fed_and_ended;
    read = s.read;
    asked = s.asked;
    written = Appends-trans w0.known w.known w'.known _ (end_in digest repository s.bytes).reply s.written e.written;
    ended = e.ended;
    last = s.last;
    well = (s.well.0, e.well ∙ s.well.1);
  }

  end_unwritten : AppendsFront w.known w'.known (end_in digest repository s.bytes).reply → HasFault w.faults w'.faults
      → IsGivenUp digest repository (HasFed digest tenant before after) r0 r w0 w'
  end_unwritten front failed =
      let blamed : HasFault w0.faults w'.faults = subst (λ (n : ℕ). HasFault n w'.faults) s.well.1 failed in
      record {
        bytes = s.bytes;
        read = s.read;
        asked = s.asked;
        at_end = true;
        effect = fed_and_ended;
        end = λ (_ : true ≡ true). (s.well.0, s.last);
        written = record {
          front = front_of_later w0.known w.known w'.known _ (end_in digest repository s.bytes).reply
              s.written front;
          whole = inl blamed;
        };
        blamed = inl (s.well.0, blamed);
      }

  pub imported_end : (result : Result Unit StepFault) → EndsImport digest repository s.bytes w result w'
      → ImportsInto digest repository (HasFed digest tenant before after) r0 r w0 w' result
  imported_end (Ok u) e = ends_as None e
  imported_end (Err (fault.Refused code)) e = ends_as (Some code) e
  imported_end (Err fault.Device) e = end_unwritten e.0 e.1
  imported_end (Err fault.Memory) e = let replies = (stream_of digest repository s.bytes).replies in record {
    bytes = s.bytes;
    ended = true;
    unopened = λ (none : true ≡ false). cc none;
    effect = fed_and_ended;
    read = s.read;
    asked = s.asked;
    written = record {
      front = replies ++ [];
      rest = [];
      parts = sym (append-nil (replies ++ []) ∙ append-nil replies);
      appends = Appends-trans w0.known w.known w'.known replies [] s.written e.0;
    };
    well = (s.well.0, e.1 ∙ s.well.1);
  }

-- a device failed before the end
pub given_up : (digest : List ℕ → List ℕ) (tenant : List ℕ) (repository : Repository) (before after : TenantStates) (r r' w w' : Device)
    → ReadsAll digest tenant repository before r r' w (Err fault.Device) after w'
    → ImportsInto digest repository (HasFed digest tenant before after) r r' w w' (Err fault.Device)
given_up digest tenant repository before after r r' w w' g = record {
  bytes = g.0.bytes;
  read = g.0.read;
  asked = g.0.asked;
  at_end = g.0.at_end;
  effect = subst (λ (b : Bool). HasFed digest tenant before after b g.0.bytes) (sym g.1) g.0.effect;
  end = g.0.end;
  written = g.0.written;
  blamed = g.0.blamed;
}

-- an import with another effect on the service
imported-effect : (digest : List ℕ → List ℕ) (repository : Repository) (D E : ServiceEffect) (r r' w w' : Device) (end : Option ℕ)
    → ((bytes : List ℕ) → D true bytes → E true bytes)
    → IsImported digest repository D r r' w w' end → IsImported digest repository E r r' w w' end
imported-effect digest repository D E r r' w w' end so i = record {
  bytes = i.bytes;
  effect = so i.bytes i.effect;
  read = i.read;
  asked = i.asked;
  written = i.written;
  ended = i.ended;
  last = i.last;
  well = i.well;
}

stopped-effect : (digest : List ℕ → List ℕ) (repository : Repository) (D E : ServiceEffect) (r r' w w' : Device)
    → ((ended : Bool) (bytes : List ℕ) → D ended bytes → E ended bytes)
    → IsStopped digest repository D r r' w w' → IsStopped digest repository E r r' w w'
stopped-effect digest repository D E r r' w w' so i = record {
  bytes = i.bytes;
  ended = i.ended;
  unopened = i.unopened;
  effect = so i.ended i.bytes i.effect;
  read = i.read;
  asked = i.asked;
  written = i.written;
  well = i.well;
}

pub imports-effect : (digest : List ℕ → List ℕ) (repository : Repository) (D E : ServiceEffect) (r r' w w' : Device) (result : Result Unit StepFault)
    → ((ended : Bool) (bytes : List ℕ) → D ended bytes → E ended bytes)
    → ImportsInto digest repository D r r' w w' result → ImportsInto digest repository E r r' w w' result
imports-effect digest repository D E r r' w w' (Ok u) so i = imported-effect digest repository D E r r' w w' None (so true) i
imports-effect digest repository D E r r' w w' (Err (fault.Refused code)) so i =
    imported-effect digest repository D E r r' w w' (Some code) (so true) i
imports-effect digest repository D E r r' w w' (Err fault.Device) so i = record {
  bytes = i.bytes;
  read = i.read;
  asked = i.asked;
  at_end = i.at_end;
  effect = so i.at_end i.bytes i.effect;
  end = i.end;
  written = i.written;
  blamed = i.blamed;
}
imports-effect digest repository D E r r' w w' (Err fault.Memory) so i = stopped-effect digest repository D E r r' w w' so i

-- what is done after a fault
pub gives_up : (digest : List ℕ → List ℕ) (tenant : List ℕ) (before after : TenantStates) (e : StepFault) → (e ≡ fault.Device → ⊥)
    → HasTakenCalls digest tenant before after (End ∷ []) → GivesUp digest tenant before after e
gives_up digest tenant before after (fault.Refused code) other taken = taken
gives_up digest tenant before after fault.Device other taken = absurd (other refl)
gives_up digest tenant before after fault.Memory other taken = taken

pub given_up_by : (digest : List ℕ → List ℕ) (tenant : List ℕ) (repository : Repository) (before between after : TenantStates) (r r' w w' : Device)
    (e : StepFault) → ReadsAll digest tenant repository before r r' w (Err e) between w' → GivesUp digest tenant between after e
    → ImportsInto digest repository (HasFed digest tenant before after) r r' w w' (Err e)
given_up_by digest tenant repository before between after r r' w w' (fault.Refused code) i taken =
    imported-effect digest repository (Fed digest tenant before between) (HasFed digest tenant before after) r r' w w' (Some code)
    (λ bytes fed. fed-ended digest tenant before between after bytes fed taken) i
given_up_by digest tenant repository before between after r r' w w' fault.Device i same =
    subst (λ (h : TenantStates). ImportsInto digest repository (HasFed digest tenant before h) r r' w w' (Err fault.Device)) (sym same)
    (given_up digest tenant repository before between r r' w w' i)
given_up_by digest tenant repository before between after r r' w w' fault.Memory i taken = record {
  bytes = i.bytes;
  ended = true;
  unopened = λ (none : true ≡ false). cc none;
  effect = fed-ended digest tenant before between after i.bytes i.effect taken;
  read = i.read;
  asked = i.asked;
  written = i.written;
  well = i.well;
}

-- nothing was read
pub nothing_read : (digest : List ℕ → List ℕ) (repository : Repository) (Effect : ServiceEffect) (r w : Device) → r.passed ≤ 2 ^ 64 - 1 → Effect false []
    → IsStopped digest repository Effect r r w w
nothing_read digest repository Effect r w fits effect = record {
  bytes = [];
  ended = false;
  unopened = λ _. refl;
  effect = effect;
  read = record { consumed = Consumes-nil r.known; passed = omega (arith, fits) };
  asked = record { giving = omega arith; bounded = omega arith };
  written = record { front = []; rest = (stream_of digest repository []).replies; parts = refl; appends = Appends-nil w.known };
  well = (refl, refl);
}

-- ---- Open, by its answer

pub ok-answer : (a : Answer) → Ok tt ≡ as_result a → a ≡ answer.Ok
ok-answer answer.Ok e = refl
ok-answer (answer.Fault code) e = cc e
ok-answer (answer.Memory count) e = cc e

pub ok-not-fault : (a : Answer) (code : ℕ) → a ≡ answer.Ok → a ≡ answer.Fault code → ⊥
ok-not-fault a code ok fault =
    let none : answer.Ok ≡ answer.Fault code = sym ok ∙ fault in cc none

-- it ran out of memory, since no number refuses it
pub open_fails : (digest : List ℕ → List ℕ) (tenant : List ℕ) (repository : Repository) (before after : TenantStates) (r w : Device) (a : Answer)
    (e : StepFault) → r.passed ≤ 2 ^ 64 - 1 → Err e ≡ as_result a → ((code : ℕ) → a ≡ answer.Fault code → ⊥)
    → HasTakenCalls digest tenant before after (Open ∷ [])
    → ImportsInto digest repository (HasImported digest tenant before after) r r w w (Err e)
open_fails digest tenant repository before after r w answer.Ok e fits is unrefused taken =
    let none : ◌≡◌ {A = Result Unit StepFault} (Err e) (Ok tt) = is in cc none
open_fails digest tenant repository before after r w (answer.Fault code) e fits is unrefused taken = absurd (unrefused code refl)
open_fails digest tenant repository before after r w (answer.Memory count) e fits is unrefused taken =
    subst (λ (x : Result Unit StepFault). ImportsInto digest repository (HasImported digest tenant before after) r r w w x) (sym is)
    (nothing_read digest repository (HasImported digest tenant before after) r w fits (imported-none digest tenant before after taken))

-- ---- a new service

one-is-good : is_tenant_name (codes "one") ≡ true
unfolding is_tenant_name
one-is-good = refl

pub new-can-open : (tenant : List ℕ) (all : TenantStates) → all ≡ [] → tenant ≡ codes "one" → CanOpen tenant all empty_repository
new-can-open tenant all none named = (
  ap is_tenant_name named ∙ one-is-good,
  ap (λ (hs : TenantStates). held_of tenant hs) none,
)

-- An import of that tenant of a new service is one over an empty repository, and the service took its steps and no others.
pub new-imported : (digest : List ℕ → List ℕ) (tenant : List ℕ) (all after : TenantStates) (r r' w w' : Device) (result : Result Unit StepFault)
    → all ≡ [] → tenant ≡ codes "one"
    → ((repository : Repository) → CanOpen tenant all repository → ImportsInto digest repository (HasImported digest tenant all after) r r' w w' result)
    → ImportsInto digest empty_repository (HasImported digest tenant [] after) r r' w w' result
new-imported digest tenant all after r r' w w' result none named imported =
    imports-effect digest empty_repository (HasImported digest tenant all after) (HasImported digest tenant [] after) r r' w w' result
    (λ ended bytes effect. subst (λ (held : TenantStates). HasImported digest tenant held after ended bytes) none effect)
    (imported empty_repository (new-can-open tenant all none named))
