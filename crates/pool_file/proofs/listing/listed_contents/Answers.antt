use Rattle.std.specs.Prelude.{All}
use Rattle.std.proofs.Common.{◌≡◌, ◌<◌, ℕ, List, Option, length, sym, subst, ◌∙◌, arith}
use Rattle.std.proofs.lemmas.List.Elements.{All-contains}
use Rattle.std.proofs.lemmas.List.Sorted.{All-permutation}
use Rattle.content_pool.specs.Pool.{IsLive}
use Rattle.pool_file.specs.Slots.{AreListed, AreSeen, all_slots}
use Rattle.pool_file.proofs.ListedContents.{listed_moved, sorted_in_order}
use Rattle.pool_file.proofs.TenantSlots.{all_live}
use Rattle.pool_file.proofs.listing.listed_contents.Goals as goal

pub contents_in-requires : goal.contents_in-requires
contents_in-requires g c = λ n s e.
    let slots = all_slots c.args.tenants.now in
    let seen : AreSeen c.deref.result.now slots =
    subst (λ (l : List (Option ℕ)). AreSeen l slots) (sym c.deref.ensures.value) c.in_ok-seen.ensures in
    let at = seen.each n s e in (
      at.0,
      All-contains (IsLive c.args.pool.now) slots s
          (all_live g.N.Naming.digest_of c.args.pool.now c.args.tenants.now c.requires) at.1,
    )

pub returns-clause-listed : goal.returns-clause-listed
returns-clause-listed g c =
    let slots = all_slots c.args.tenants.now in
    listed_moved c.args.pool.now c.in_ok-contents.contents.items c.sort.new.self.items slots
    c.in_ok-sort.ensures.permutation
    (c.in_ok-contents.ensures.listed slots
    (subst (λ (l : List (Option ℕ)). AreSeen l slots) (sym c.deref.ensures.value) c.in_ok-seen.ensures))

pub returns-clause-order : goal.returns-clause-order
returns-clause-order g c =
    let slots = all_slots c.args.tenants.now in
    let new = c.sort.new.self.items in
    let listed : AreListed c.args.pool.now new slots =
    listed_moved c.args.pool.now c.in_ok-contents.contents.items new slots
    c.in_ok-sort.ensures.permutation
    (c.in_ok-contents.ensures.listed slots
    (subst (λ (l : List (Option ℕ)). AreSeen l slots) (sym c.deref.ensures.value) c.in_ok-seen.ensures)) in
    sorted_in_order c.args.pool.now new slots listed
    (all_live g.N.Naming.digest_of c.args.pool.now c.args.tenants.now c.requires)
    c.holds_each_once.ensures (λ k d l. c.in_ok-sort.ensures.sorted k d (omega arith) l)

pub returns-clause-within : goal.returns-clause-within
returns-clause-within g c =
    let within : All (λ x. x.slot < length c.deref.result.now) c.sort.new.self.items =
    All-permutation (λ x. x.slot < length c.deref.result.now) c.in_ok-contents.contents.items
    c.sort.new.self.items c.in_ok-sort.ensures.permutation c.in_ok-contents.ensures.within in
    let size : length c.deref.result.now ≡ c.len.result = c.deref.ensures.len ∙ sym c.len.ensures in
    subst (λ (n : ℕ). All (λ x. x.slot < n) c.sort.new.self.items) size within
