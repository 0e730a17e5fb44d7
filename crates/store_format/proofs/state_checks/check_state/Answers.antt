use Rattle.std.proofs.Common.{refl}
use Rattle.std.proofs.lemmas.Bool.{iff_false}
use Rattle.store_format.proofs.state_checks.check_state.Goals as goal

pub returns-then-not-are_sound_listings : goal.returns-then-not-are_sound_listings
returns-then-not-are_sound_listings c = (refl, λ s. iff_false c.are_sound_listings.ensures c.if-not-are_sound_listings.true s.listings)

pub returns-then-not-are_sound_files : goal.returns-then-not-are_sound_files
returns-then-not-are_sound_files c =
    let sound = rw c.deref.ensures.value at c.are_sound_files.ensures in
    (refl, λ s. iff_false sound c.if-not-are_sound_files.true s.contents)

pub returns : goal.returns
returns c =
    let sound = rw c.deref.ensures.value at c.are_sound_files.ensures in
    record { listings = c.are_sound_listings.ensures.0 c.if-not-are_sound_listings.false; contents = sound.0 c.if-not-are_sound_files.false }
