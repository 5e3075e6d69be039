use Rattle.recovery.specs.Opened.{IsOpenedFrom}
use Rattle.recovery.specs.Cores.{IsReopened}
use Rattle.recovery.proofs.OpenedCores.{if_ok, rest_is_early, rest_is_sound, reopens}
use Rattle.recovery.proofs.cores.reopen.Goals as goal

pub recover_sound-requires-clause-sound : goal.recover_sound-requires-clause-sound
recover_sound-requires-clause-sound c = rest_is_sound c.args.core c.in_ok-image.image c.in_ok-image.ensures.words c.in_ok-image.ensures.rest

pub recover_sound-requires-clause-next : goal.recover_sound-requires-clause-next
recover_sound-requires-clause-next c = rest_is_early c.args.core c.in_ok-image.image c.in_ok-image.ensures.words c.in_ok-image.ensures.rest c.requires.next

pub returns : goal.returns
returns c =
    if_ok (IsOpenedFrom c.in_ok-image.image) (IsReopened c.args.core) c.recover_sound.result
    (λ next opened. reopens c.args.core next c.in_ok-image.image c.in_ok-image.ensures.words c.in_ok-image.ensures.rest opened) c.recover_sound.ensures
