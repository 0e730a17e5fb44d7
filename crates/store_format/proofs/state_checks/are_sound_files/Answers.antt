use Rattle.std.proofs.Common.{refl, sym, subst}
use Rattle.std.proofs.lemmas.List.{drop_all}
use Rattle.std.proofs.lemmas.Bool.{false≢true, iff_false}
use Rattle.store_format.specs.Sound.{AreSoundFrom}
use Rattle.store_format.specs.Shown.{contents_files_of, state_of}
use Rattle.store_format.proofs.SoundFiles.{sound_more}
use Rattle.store_format.proofs.state_checks.are_sound_files.Goals as goal

pub loop-file-init : goal.loop-file-init
loop-file-init c = (λ h. h, λ h. h)

pub returns-then-not-is_sound_file : goal.returns-then-not-is_sound_file
returns-then-not-is_sound_file c = (
  λ e. absurd (false≢true e),
  λ q. absurd (iff_false c.is_sound_file.ensures c.if-not-is_sound_file.true
      ((sound_more (state_of c.args.state.now) c.loop-file.last c.args.files.now c.loop-file.file-index _ c.loop-file-test.true).0 (c.loop-file.invariant.1 q)).0),
)

pub loop-file-preserved : goal.loop-file-preserved
loop-file-preserved c = (
  λ h. c.loop-file.invariant.0 ((sound_more (state_of c.args.state.now) c.loop-file.last c.args.files.now c.loop-file.file-index _ c.loop-file-test.true).1
      (c.is_sound_file.ensures.0 c.if-not-is_sound_file.false, h)),
  λ q. ((sound_more (state_of c.args.state.now) c.loop-file.last c.args.files.now c.loop-file.file-index _ c.loop-file-test.true).0 (c.loop-file.invariant.1 q)).1,
)

pub returns : goal.returns
returns c =
    let none = drop_all c.loop-file.file-index c.args.files.now c.loop-file-test.false in (
      λ e. c.loop-file.invariant.0 (subst (λ left. AreSoundFrom (state_of c.args.state.now) c.loop-file.last (contents_files_of left)) (sym none) tt),
      λ q. refl,
    )
