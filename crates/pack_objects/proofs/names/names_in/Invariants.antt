use Rattle.std.proofs.Common.{◌≡◌, ◌*◌, take, drop, map}
use Rattle.std.specs.List.{range_with_len}
use Rattle.pack_objects.proofs.names.names_in.Given as goal

abbrev pub invariant-loop : goal.invariant-loop
invariant-loop l = (l.rest ≡ drop (20 * l.counter) l.bytes)
    × (l.names.items ≡ map (λ k. take 20 (drop (20 * k) l.bytes)) (range_with_len 0 l.counter))
