-- How an image is opened that a crash left.
use Rattle.std.proofs.Common.{sym, subst}
use Rattle.pm_words.specs.Images.{Row}
use Rattle.image_layer_rules.specs.Sound.{IsSoundByAll}
use Rattle.recovery.specs.Crashed.{CrashIsUndamaged}

pub crash_is_undamaged : CrashIsUndamaged
crash_is_undamaged s image cuts rule word crash damaged =
    let sound : IsSoundByAll image.layout image.words = subst (λ (row : Row). IsSoundByAll row.layout row.words) (sym crash.leaves) crash.sound in
    let at = damaged.first in
    sound rule at.0 at.1.lowest.0.word at.1.lowest.0.holds
