use Rattle.std.proofs.Common.{◌+◌, [], ◌∷◌, ◌++◌, refl, sym, ap, ◌∙◌, arith}
use Rattle.std.proofs.lemmas.Bool.{false≢true}
use Rattle.std.proofs.lemmas.List.{length-append}
use Rattle.stream_lex.specs.Looking.{item_of}
use Rattle.import_session.proofs.LentLemmas.{Keeps-refl, Keeps-then}
use Rattle.tenant_stream.proofs.CarryLemmas.{nothing_carried, reads_more, all_carried, tail_stops, carries_on, item_stops, took_item, gave_none, gave_fault}
use Rattle.tenant_stream.proofs.CountLemmas.{taken_at_most, left_falls}
use Rattle.tenant_stream.proofs.RoomLemmas.{room_left}
use Rattle.tenant_stream.proofs.SoundLemmas.{stays_sound}
use Rattle.tenant_stream.proofs.stream.carry.Goals as goal

pub items-init : goal.items-init
items-init g c = record {
  keeps = Keeps-refl _ c.args.pool.now c.args.table.now c.requires.stands;
  held = c.requires.held;
  items = [];
  reads = λ more. refl;
  counted = refl;
  carried_out = λ sound. nothing_carried _ _;
}

pub returns-then-is_done-clause-carries : goal.returns-then-is_done-clause-carries
returns-then-is_done-clause-carries g c sound =
    all_carried _ _ _ _ (c.items.invariant.carried_out sound) _ (λ more. refl)
    (λ none. let t = c.if-is_done.ensures in absurd (false≢true (sym none ∙ sym t)))

pub take-requires-clause-room : goal.take-requires-clause-room
take-requires-clause-room g c =
    room_left _ _ _ _ _ c.requires.room c.items.invariant.keeps

pub returns-in-Err-take-clause-carries : goal.returns-in-Err-take-clause-carries
returns-in-Err-take-clause-carries g c sound =
    let so_far = c.items.invariant.carried_out sound in
    rw c.stop_of.ensures
    (item_stops _ _ _ _ so_far _ _
    (took_item _ _ _ _ _ c.in-Ok-Some.is c.in-Ok-Some.field-0-is c.next.follows.holds-at-none.first)
    _ _
    (record {
      carried_out = so_far;
      running = sym c.is_done.ensures ∙ c.if-is_done.false;
      printed = c.in-Err-take.ensures.printed;
      checkpoint = c.in-Err-take.ensures.checkpoint;
    })
    c.items.invariant.counted
    (c.in-Err-take.ensures.taken (stays_sound _ g.met.N.Naming.answers_names _ _ _ so_far sound)))

pub overflow_add-count : goal.overflow_add-count
overflow_add-count g c =
    let most = taken_at_most _ _ _ _ _ c.items.invariant.reads
    (took_item _ _ _ _ _ c.in-Ok-Some.is c.in-Ok-Some.field-0-is c.next.follows.holds-at-none.first)
    in
    let counted = c.items.invariant.counted in
    let bound = c.held-most.type_inv in
    let same = c.held-most.ensures in
    omega (arith, most, counted, bound, same)

pub items-smaller : goal.items-smaller
items-smaller g c =
    left_falls _ _ _ (took_item _ _ _ _ _ c.in-Ok-Some.is c.in-Ok-Some.field-0-is
    c.next.follows.holds-at-none.first)

pub items-preserved : goal.items-preserved
items-preserved g c =
    let took = took_item _ _ _ _ _ c.in-Ok-Some.is c.in-Ok-Some.field-0-is
    c.next.follows.holds-at-none.first in
    record {
      keeps = Keeps-then _ _ _ _ _ _ _ c.items.invariant.keeps c.take.ensures.keeps;
      held = c.in_default.ensures.held;
      items = c.items.invariant.items ++ item_of c.in-Ok-Some.item ∷ [];
      reads = reads_more _ _ _ _ _ c.items.invariant.reads took;
      counted = length-append c.items.invariant.items (item_of c.in-Ok-Some.item ∷ [])
          ∙ ap (λ n. n + 1) c.items.invariant.counted;
      carried_out = λ sound.
          let so_far = c.items.invariant.carried_out sound in
          carries_on _ _ _ _ so_far _ _ took
          (c.in_default.ensures.taken (stays_sound _ g.met.N.Naming.answers_names _ _ _ so_far sound));
    }

pub returns-in-Ok-None-clause-carries : goal.returns-in-Ok-None-clause-carries
returns-in-Ok-None-clause-carries g c sound =
    let none = gave_none _ _ _ _ c.in-Ok-None.is c.in-Ok-None.field-0-is
    c.next.follows.holds-at-none.first in
    all_carried _ _ _ _ (c.items.invariant.carried_out sound) _ none.0 (λ _. none.1)

pub returns-in-Err-clause-carries : goal.returns-in-Err-clause-carries
returns-in-Err-clause-carries g c sound =
    rw c.code.ensures
    (tail_stops _ _ _ _ (c.items.invariant.carried_out sound) _ _
    (sym c.is_done.ensures ∙ c.if-is_done.false)
    (gave_fault _ _ _ _ c.in-Err.is c.next.follows.holds-at-none.first))
