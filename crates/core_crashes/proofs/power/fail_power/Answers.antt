use Rattle.core_rounds.specs.recovery.specs.Opened.{IsOpenedFrom}
use Rattle.core_rounds.specs.recovery.proofs.OpenedCores.{if_ok}
use Rattle.core_crashes.specs.Power.{IsBehindCrash}
use Rattle.core_crashes.proofs.Failing.{is_early, is_sound, opened_behind}
use Rattle.core_crashes.proofs.power.fail_power.Goals as goal

pub recover_sound-requires-clause-sound : goal.recover_sound-requires-clause-sound
recover_sound-requires-clause-sound c =
    is_sound c.args.core c.evict_by_seed.new.core c.args.seed c.evict_by_seed.ensures.evicted c.evict_by_seed.ensures.index c.crash-crashed.result.image c.crash-crashed.result.cuts c.crash-crashed.ensures

pub recover_sound-requires-clause-next : goal.recover_sound-requires-clause-next
recover_sound-requires-clause-next c =
    is_early c.args.core c.evict_by_seed.new.core c.args.seed c.evict_by_seed.ensures.evicted c.evict_by_seed.ensures.index c.crash-crashed.result.image c.crash-crashed.result.cuts c.crash-crashed.ensures c.requires.next

pub returns : goal.returns
returns c =
    if_ok (IsOpenedFrom c.crash-crashed.result.image) (IsBehindCrash c.args.seed c.args.core) c.recover_sound.result
    (opened_behind c.args.core c.evict_by_seed.new.core c.args.seed c.evict_by_seed.ensures.evicted c.evict_by_seed.ensures.index c.crash-crashed.result.image c.crash-crashed.result.cuts c.crash-crashed.ensures)
    c.recover_sound.ensures
