-- The pool of contents, as its callers see it: for each slot, what it holds and how often it is
-- held.
use Rattle.std.specs.Prelude.{◌≡◌, ◌≢◌, ℕ, ◌+◌, ◌-◌, ◌<◌, ◌^◌, List, Option, None, slice_index_or}
use Rattle.std.specs.Option.{option_map_or}
use Rattle.git_model.specs.Content.{Content, content_from, no_content}
use Rattle.content_pool.specs.declared.stored.Stored.{Stored}

-- The slots from 0 on, each with what is stored in it, or vacant.
abbrev pub Cells : Type 0
Cells = List (Option Stored)

-- What is stored in a slot.
abbrev pub cell : Cells → ℕ → Option Stored
cell p s = slice_index_or p s None

-- The content of what is stored.
abbrev pub content_of : Stored → Content
content_of e = content_from e.kind e.bytes

-- How often a slot is held; 0 if nothing is stored in it.
unfoldable pub holds : Cells → ℕ → ℕ
holds p s = option_map_or (λ e. e.holds) (cell p s) 0

-- What a slot holds; no content if nothing is stored in it.
unfoldable pub content : Cells → ℕ → Content
content p s = option_map_or content_of (cell p s) no_content

-- A slot is live while someone holds it.
abbrev pub IsLive : Cells → ℕ → Type 0
IsLive p s = 0 < holds p s

-- One more hold of this slot can be counted.
abbrev pub CanHold : Cells → ℕ → Type 0
CanHold p s = holds p s < 2 ^ 64 - 1

-- One more hold of any slot can be counted.
abbrev pub HasHoldsLeft : Cells → Type 0
HasHoldsLeft p = (s : ℕ) → CanHold p s

-- Nothing is held.
abbrev pub IsVacant : Cells → Type 0
IsVacant p = (s : ℕ) → holds p s ≡ 0

-- Each content is stored once: no two live slots have the same content.
abbrev pub HoldsEachOnce : Cells → Type 0
HoldsEachOnce p = (s t : ℕ) → IsLive p s → IsLive p t → content p s ≡ content p t → s ≡ t

-- No live slot has this content.
abbrev pub IsAbsent : Cells → Content → Type 0
IsAbsent p c = (s : ℕ) → IsLive p s → content p s ≡ c → ⊥

-- The slot has this content and one more hold. If the slot was live, it had this content before.
-- Every other slot keeps its content and count.
pub record Puts (old new : Cells) (slot : ℕ) (c : Content) : Type 0 where
  pub has : content new slot ≡ c
  pub had : IsLive old slot → content old slot ≡ c
  pub held : holds new slot ≡ holds old slot + 1
  pub others : (s : ℕ) → s ≢ slot → holds new s ≡ holds old s
  pub other_contents : (s : ℕ) → s ≢ slot → content new s ≡ content old s

-- The slot has one hold less. Every other slot keeps its count, and every slot that is still live
-- keeps its content.
pub record Releases (old new : Cells) (slot : ℕ) : Type 0 where
  pub held : holds new slot + 1 ≡ holds old slot
  pub others : (s : ℕ) → s ≢ slot → holds new s ≡ holds old s
  pub contents : (s : ℕ) → IsLive new s → content new s ≡ content old s
