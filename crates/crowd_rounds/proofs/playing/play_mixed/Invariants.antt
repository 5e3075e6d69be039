use Rattle.std.proofs.Common.{◌≡◌, ◌-◌, ◌<◌, length, take}
use Rattle.pm_words.specs.Images.{Row}
use Rattle.core_crashes.specs.recovery.specs.Opened.{IsOpenedFrom}
use Rattle.crowd_rounds.specs.Segments.{AreFirstPlayed, WorkOn}
use Rattle.crowd_rounds.proofs.playing.play_mixed.Given as goal

-- the first rounds are played, and their crash rounds do their work, and where some are left, an image was opened as the core
abbrev pub invariant-loop-at : goal.invariant-loop-at
invariant-loop-at g l = record {
  many : l.at ≡ length l.reports.items;
  first : AreFirstPlayed l.fn.core l.plans l.reports.items l.core;
  works : WorkOn l.fn.core (take (length l.reports.items) l.plans) l.reports.items;
  opened : l.at < length l.plans → (image : Row) × IsOpenedFrom image l.core;
}

-- fewer are left
abbrev pub decreases-loop-at : goal.decreases-loop-at
decreases-loop-at g l = length l.plans - l.at
