-- What a round of several callers comes to.
use Rattle.std.specs.Prelude.{◌≡◌, ℕ, ◌+◌, ◌<◌, ◌≤◌, List, All, Option, Some, None, length}
use Rattle.std.specs.FinMap.{len}
use Rattle.cat_history.specs.Maps.{Map, map_of}
use Rattle.cat_history.specs.CrashEnds.{IsCrashEnd, after_changes}
use Rattle.cat_history.specs.CrashRounds.{IsStoppedRound, changes_cut}
use Rattle.cat_history.specs.Writes.{after_all}
use Rattle.cat_history.specs.Records.{numbered}
use Rattle.cat_history.specs.Rounds.{IsJoinedRound}
use Rattle.cat_history.specs.declared.op.Write.{Write}
use Rattle.cat_history.specs.declared.plan.CrashPlan.{CrashPlan}
use Rattle.cat_history.specs.declared.plan.RoundPlan.{RoundPlan}
use Rattle.cat_history.specs.declared.record.Record.{Record}
use Rattle.pm_words.specs.Images.{Row}
use Rattle.pm_words.specs.Locations.{Clock, at}
use Rattle.image_rules.specs.Rules.{header_generation}
use Rattle.image_rules.specs.Sound.{IsMapOf}
use Rattle.image_rules.specs.Weights.{image_weight}
use Rattle.pac_index.specs.image_layer_rules.specs.Sound.{IsSoundByAll}
use Rattle.shapes.specs.ShapeRounds.{puts_added, FullIsPaid}
use Rattle.cat_text.specs.ReportGrammar.{IsReportReply, StandByCaller}
use Rattle.caller_rounds.specs.Apart.{AreApart, TookPlace, changes_asked}
use Rattle.pac_index.specs.index_core.specs.CrashLaws.{chosen_index, crash_image}
use Rattle.pac_index.specs.index_core.specs.Indexes.{Index, IsIndex}
use Rattle.pac_index.specs.index_core.specs.Lone.{IsQuiet}
use Rattle.pac_index.specs.index_core.specs.Weights.{weight_of}
use Rattle.pac_index.specs.Stamps.{stamp_in}
use Rattle.thread_rounds.specs.declared.round.Finish.{Finish}
use Rattle.thread_rounds.specs.declared.round.Finish.TheVariants.{Joined, Crashed}
use Rattle.thread_rounds.specs.declared.round.Round.{Round}
use Rattle.thread_rounds.specs.Played.{IsToldOnceSettled}

-- The plan's calls were made from this core on, by their callers at once, and are a legal round that was joined. Its
-- records stand by caller, each caller's in the order of its calls, and each reply is one of a report. It has so many
-- writes, which are the history of the core in which the callers met. Each full answer is paid for by the weight and
-- the names of the first core and the puts that added a name, and the second one weighs no more than that. Where calls
-- of different callers are about different names and each took place, the map is that of the calls in the script's
-- order.
pub record IsRunRound (core : Index) (plan : RoundPlan) (records : List Record) (writes : ℕ) (met : Index) : Type 0
  where
    pub legal : IsJoinedRound (map_of core.base) (numbered plan.ops) plan.limit records met.history
        (after_all (map_of core.base) met.history)
    pub stand : StandByCaller records
    pub replies : All (λ r. IsReportReply r.op r.reply) records
    pub paid : All (FullIsPaid core.layout.slots core.layout.nodes (weight_of core + puts_added records)
        (len (map_of core.base) + puts_added records)) records
    pub apart : AreApart plan.ops → All (λ r. TookPlace r.reply) records →
        after_all (map_of core.base) met.history ≡ after_changes (map_of core.base) (changes_asked plan.ops)
    pub weight : weight_of met ≤ weight_of core + puts_added records
    pub writes_are : writes ≡ length met.history
    pub layout : met.layout ≡ core.layout
    pub generation : met.generation ≡ core.generation
    pub base : met.base ≡ core.base
    pub index : IsIndex met
    pub quiet : IsQuiet met
    pub clock : at met.layout met.words Clock ≡ length met.history
    pub stamps : (n : ℕ) → n < met.layout.nodes → stamp_in met.layout met.words n ≤ 1

-- The image is what a crash leaves of an index of the core's run, of the same base, once those words are durable that
-- the seed chooses.
pub record IsLeftByCrash (core : Index) (seed : ℕ) (image : Row) : Type 0 where
  pub left : Index
  pub index : IsIndex left
  pub layout : left.layout ≡ core.layout
  pub generation : left.generation ≡ core.generation
  pub base : left.base ≡ core.base
  pub leaves : image ≡ crash_image (chosen_index left seed)

-- The plan's calls were made from this core on, by their callers at once, and are a legal round that stopped at this
-- crash: each caller came as far as its budget let it. Its records stand by caller, each caller's in the order of its
-- calls, and each reply is one of a report once it is settled. So many writes have their place, in the order of the
-- history. Each full answer is paid for by the weight and the names of the core and the puts that added a name, or may
-- have added one as they were cut off.
--
-- The image is what the crash left of the index, by its seed. It is sound by all rules, and of the layout and the
-- generation of the core. Its map is the one after the history and after those of the changes that were cut off without
-- a place that are found in it. It weighs no more than is paid for.
pub record IsRunCrash (core : Index) (plan : RoundPlan) (crash : CrashPlan) (records : List Record) (writes : ℕ)
    (image : Row) : Type 0 where
  pub history : List Write
  pub legal : IsStoppedRound (map_of core.base) (numbered plan.ops) plan.limit crash.budgets records history
  pub stand : StandByCaller records
  pub replies : All IsToldOnceSettled records
  pub paid : All (FullIsPaid core.layout.slots core.layout.nodes (weight_of core + puts_added records)
      (len (map_of core.base) + puts_added records)) records
  pub writes_are : writes ≡ length history
  pub leaves : IsLeftByCrash core crash.seed image
  pub layout : image.layout ≡ core.layout
  pub generation : header_generation image.layout image.words ≡ core.generation
  pub sound : IsSoundByAll image.layout image.words
  pub end : Map
  pub keeps : IsMapOf image.layout image.words end
  pub ends : IsCrashEnd (after_all (map_of core.base) history) (changes_cut records) end
  pub weight : image_weight image.layout image.words ≤ weight_of core + puts_added records

-- The callers were joined, and the first holds of the core in which they met; or a crash left an image, and the second
-- holds of that.
abbrev pub IsJoinedAnd : Finish → (Index → Type 0) → Type 0
IsJoinedAnd (Joined core) holds = holds core
IsJoinedAnd (Crashed image) holds = ⊥

abbrev pub IsCrashedAnd : Finish → (Row → Type 0) → Type 0
IsCrashedAnd (Joined core) holds = ⊥
IsCrashedAnd (Crashed image) holds = holds image

-- A round is joined, or ended by its crash if it has one.
abbrev pub EndsAs : Option CrashPlan → Index → RoundPlan → Round → Type 0
EndsAs None core plan round = IsJoinedAnd round.finish (IsRunRound core plan round.records round.writes)
EndsAs (Some crash) core plan round = IsCrashedAnd round.finish (IsRunCrash core plan crash round.records round.writes)

abbrev pub IsRun : Index → RoundPlan → Round → Type 0
IsRun core plan round = EndsAs plan.crash core plan round
