use Rattle.std.proofs.Common.{subst}
use Rattle.pm_words.specs.declared.layout.Layout.{Layout}
use Rattle.std.specs.Prelude.{◌<◌}
use Rattle.core_crashes.proofs.CrashMaps.{begun_stoppable}
use Rattle.core_crashes.proofs.crash_map.CrashMap.of_core.Goals as goal

pub invariant_of-result : goal.invariant_of-result
invariant_of-result g c = (
  begun_stoppable g.K.CrashRun.anchors c.args.core c.requires.index c.requires.quiet c.requires.stamps c.requires.begins c.requires.anchors,
  c.requires.run,
  subst (λ (l : Layout). c.args.caller < l.callers) c.requires.run.layout c.requires.caller,
)
