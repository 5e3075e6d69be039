-- What a round of one caller comes to, and one of several, joined or ended by a crash, and what rounds do, one after
-- another.
use Rattle.std.specs.Prelude.{◌≡◌, ℕ, ◌+◌, ◌%◌, ◌<◌, ◌≤◌, false, true, List, [], ◌∷◌, ◌++◌, All, length, map, take}
use Rattle.std.specs.Prelude.{Some, None}
use Rattle.std.specs.FinMap.{len}
use Rattle.cat_history.specs.CrashEnds.{after_changes}
use Rattle.cat_history.specs.CrashRounds.{IsCrashRound}
use Rattle.cat_history.specs.Maps.{Map}
use Rattle.cat_history.specs.Writes.{after_all}
use Rattle.cat_history.specs.LoneRounds.{writes_of, IsLoneRound, IsSpentExactly}
use Rattle.cat_history.specs.Records.{call_of, numbered}
use Rattle.cat_history.specs.Rounds.{IsJoinedRound, answered_records}
use Rattle.cat_history.specs.declared.op.Write.{Write}
use Rattle.cat_history.specs.declared.plan.CrashPlan.{CrashPlan}
use Rattle.cat_history.specs.declared.plan.RoundPlan.{RoundPlan}
use Rattle.cat_history.specs.declared.record.Record.{Record}
use Rattle.cat_text.specs.declared.report.RoundReport.{RoundReport}
use Rattle.shapes.specs.Anchors.{Anchors}
use Rattle.shapes.specs.Runs.{opening, IsFullInTime}
use Rattle.shapes.specs.ShapeRounds.{anchors_end, puts_added, FullIsPaid, IsBoundedByShape, IsShapeWithin}
use Rattle.caller_rounds.specs.Apart.{AreApart, TookPlace, changes_asked}
use Rattle.core_rounds.specs.LoneCalls.{AreLoneCalls}

-- A legal round of the plan's calls under the plan's limit, from the base map and shape, joined and reported: each call
-- answered on the map as the earlier ones left it, its records in the order of the script, `spent` exactly where a put
-- or a delete comes when the placed writes reach the limit, `full` exactly where a call comes before that and is a put
-- that is full in the shape that the earlier calls left, each part of a scan bounded by that shape, and at its end the
-- number of placed writes and of names. The members have so many slots each, and there can be as many members as nodes
-- at each call.
pub record IsPlayedRound (slots nodes : ℕ) (base : Map) (anchors : Anchors) (plan : RoundPlan) (report : RoundReport)
    (writes : List Write) : Type 0 where
  pub legal : IsJoinedRound base (numbered plan.ops) plan.limit report.records writes (after_all base writes)
  pub answers : IsLoneRound base report.records
  pub in_script_order : map call_of report.records ≡ numbered plan.ops
  pub spent : IsSpentExactly plan.limit base report.records
  pub full : IsFullInTime slots nodes plan.limit (opening base anchors) report.records
  pub bounds : IsBoundedByShape slots base anchors report.records
  pub joined : report.crashed ≡ false
  pub placed : report.writes ≡ length writes
  pub names : report.names ≡ len (after_all base writes)

-- The first calls of such a round were played, this many of them, and reported so; the map and the shape are as they
-- left them.
pub record IsPlayedSoFar (slots nodes : ℕ) (base : Map) (anchors : Anchors) (plan : RoundPlan) (count : ℕ)
    (records : List Record) (end : Map) (shape : Anchors) : Type 0 where
  pub answers : IsLoneRound base records
  pub in_script_order : map call_of records ≡ numbered (take count plan.ops)
  pub spent : IsSpentExactly plan.limit base records
  pub full : IsFullInTime slots nodes plan.limit (opening base anchors) records
  pub bounds : IsBoundedByShape slots base anchors records
  pub after : end ≡ after_all base (writes_of records)
  pub after_shape : shape ≡ anchors_end slots base anchors records

-- A round that stops within the calls of its plan: some first ones of them were played.
abbrev pub StopsWithin : ℕ → ℕ → Map → Anchors → RoundPlan → Map → Anchors → Type 0
StopsWithin slots nodes base anchors plan end shape =
    (count : ℕ) × (records : List Record) × IsPlayedSoFar slots nodes base anchors plan count records end shape

-- Where the updater makes a turn behind each so many calls of a round, it makes one behind this many; none where 0.
abbrev pub IsTurnDue : ℕ → ℕ → Type 0
IsTurnDue turns calls = (0 < turns) × (calls % turns ≡ 0)

-- A round with calls has a turn behind the last of them.
abbrev pub EndsWithTurn : RoundPlan → Type 0
EndsWithTurn plan = (0 < length plan.ops) × IsTurnDue plan.updater (length plan.ops)

-- So has the last of these rounds.
abbrev pub RoundsEndWithTurn : List RoundPlan → Type 0
RoundsEndWithTurn [] = ⊥
RoundsEndWithTurn (plan ∷ []) = EndsWithTurn plan
RoundsEndWithTurn (plan ∷ next ∷ plans) = RoundsEndWithTurn (next ∷ plans)

-- Each full answer of a round is paid for by so much weight and so many names at its opening, and the puts of the round
-- that added a name or were cut off.
abbrev pub FullsArePaid : ℕ → ℕ → ℕ → ℕ → List Record → Type 0
FullsArePaid slots nodes weighs names records =
    All (FullIsPaid slots nodes (weighs + puts_added records) (names + puts_added records)) records

-- A round with these records leaves a shape of this map that is paid for so.
abbrev pub LeavesShape : ℕ → ℕ → ℕ → ℕ → List Record → Map → Anchors → Type 0
LeavesShape slots nodes weighs names records end next =
    IsShapeWithin slots nodes (weighs + puts_added records) (names + puts_added records) end next

-- ---- rounds of several callers

-- A legal round of the plan's calls under the plan's limit, by several callers at once, from the base map on, joined
-- and reported: with these writes, in the order of their places. Each full answer is paid for by so much weight and so
-- many names, and the puts of the round that added a name. At its end the report has the number of placed writes and of
-- names. Where calls of different callers are about different names, and each took place, the map is that of the calls
-- in the order of the script.
pub record IsCrowdRound (slots nodes weighs names : ℕ) (base : Map) (plan : RoundPlan) (report : RoundReport)
    (writes : List Write) : Type 0 where
  pub legal : IsJoinedRound base (numbered plan.ops) plan.limit report.records writes (after_all base writes)
  pub paid : FullsArePaid slots nodes weighs names report.records
  pub apart : AreApart plan.ops → All (λ r. TookPlace r.reply) report.records →
      after_all base writes ≡ after_changes base (changes_asked plan.ops)
  pub joined : report.crashed ≡ false
  pub placed : report.writes ≡ length writes
  pub names_are : report.names ≡ len (after_all base writes)

-- ---- rounds that a crash ends

-- A round of the plan's calls under the plan's limit, from the base map on, that this crash ended, settled and
-- reported: each caller came as far as its budget let it, these are the writes that have a place, in the order of their
-- places, and the map that was found again is the one after them and after those cut off without a place that are
-- reported found. At its end the report has the number of placed writes, and that of the names of the map found.
pub record IsCrashedRound (base : Map) (plan : RoundPlan) (crash : CrashPlan) (report : RoundReport)
    (writes : List Write) (end : Map) : Type 0 where
  pub legal : IsCrashRound base (numbered plan.ops) plan.limit crash.budgets report.records writes end
  pub crashed : report.crashed ≡ true
  pub placed : report.writes ≡ length writes
  pub names_are : report.names ≡ len end

-- In one of one caller its records are in the order of the script, and its answered calls are as in a round that is
-- joined: each answered on the map as the earlier ones left it, `spent` exactly where the placed writes reach the
-- limit, `full` exactly by the shape, and each part of a scan bounded by it.
pub record IsLoneCrash (slots nodes : ℕ) (base : Map) (anchors : Anchors) (plan : RoundPlan) (records : List Record) :
    Type 0 where
  pub in_script_order : map call_of records ≡ numbered plan.ops
  pub answers : IsLoneRound base (answered_records records)
  pub spent : IsSpentExactly plan.limit base (answered_records records)
  pub full : IsFullInTime slots nodes plan.limit (opening base anchors) (answered_records records)
  pub bounds : IsBoundedByShape slots base anchors (answered_records records)

-- ---- rounds, one after another

-- Rounds of these plans were played and reported, each on the map and the shape that the one before it left, the first
-- on this map and these anchors; at the end the map and the anchors are those. The members have so many slots each, and
-- there can be as many members as nodes. The first two numbers are what the opening weighed and how many names it had,
-- each with the puts since then that added a name or were cut off: they pay for each full answer.
--
-- Behind a joined round in which one caller at most has calls, the shape is what its calls made of the one before.
-- Behind any other round it has the names of the map that the round left, and no more weight than is paid for.
pub data ArePlayed (slots nodes : ℕ) : ℕ → ℕ → Map → Anchors → List RoundPlan → List RoundReport → Map → Anchors →
    Type 0 where
  ends : {weighs names : ℕ} {base : Map} {anchors : Anchors} →
      ArePlayed slots nodes weighs names base anchors [] [] base anchors
  lone : {weighs names : ℕ} {base end : Map} {anchors shape : Anchors} {plan : RoundPlan} {report : RoundReport}
      {plans : List RoundPlan} {reports : List RoundReport} →
      AreLoneCalls plan.ops → plan.crash ≡ None →
      IsPlayedRound slots nodes base anchors plan report (writes_of report.records) →
      FullsArePaid slots nodes weighs names report.records →
      ArePlayed slots nodes (weighs + puts_added report.records) (names + puts_added report.records)
      (after_all base (writes_of report.records)) (anchors_end slots base anchors report.records) plans reports end
      shape →
      ArePlayed slots nodes weighs names base anchors (plan ∷ plans) (report ∷ reports) end shape
  crowd : {weighs names : ℕ} {base end : Map} {anchors shape : Anchors} {plan : RoundPlan} {report : RoundReport}
      {plans : List RoundPlan} {reports : List RoundReport} →
      ¬ AreLoneCalls plan.ops → plan.crash ≡ None →
      (writes : List Write) → IsCrowdRound slots nodes weighs names base plan report writes →
      (next : Anchors) → LeavesShape slots nodes weighs names report.records (after_all base writes) next →
      ArePlayed slots nodes (weighs + puts_added report.records) (names + puts_added report.records)
      (after_all base writes) next plans reports end shape →
      ArePlayed slots nodes weighs names base anchors (plan ∷ plans) (report ∷ reports) end shape
  lone_crash : {weighs names : ℕ} {base found end : Map} {anchors shape : Anchors} {plan : RoundPlan}
      {report : RoundReport} {plans : List RoundPlan} {reports : List RoundReport} →
      AreLoneCalls plan.ops → (crash : CrashPlan) → plan.crash ≡ Some crash →
      IsCrashedRound base plan crash report (writes_of report.records) found →
      IsLoneCrash slots nodes base anchors plan report.records →
      FullsArePaid slots nodes weighs names report.records → (next : Anchors) →
      LeavesShape slots nodes weighs names report.records found next →
      ArePlayed slots nodes (weighs + puts_added report.records) (names + puts_added report.records) found next plans
      reports end shape →
      ArePlayed slots nodes weighs names base anchors (plan ∷ plans) (report ∷ reports) end shape
  crowd_crash : {weighs names : ℕ} {base found end : Map} {anchors shape : Anchors} {plan : RoundPlan}
      {report : RoundReport} {plans : List RoundPlan} {reports : List RoundReport} →
      ¬ AreLoneCalls plan.ops → (crash : CrashPlan) → plan.crash ≡ Some crash →
      (writes : List Write) → IsCrashedRound base plan crash report writes found →
      FullsArePaid slots nodes weighs names report.records → (next : Anchors) →
      LeavesShape slots nodes weighs names report.records found next →
      ArePlayed slots nodes (weighs + puts_added report.records) (names + puts_added report.records) found next plans
      reports end shape →
      ArePlayed slots nodes weighs names base anchors (plan ∷ plans) (report ∷ reports) end shape

-- How many puts added a name in all these rounds, or were cut off and may have added one.
abbrev pub added_in : List RoundReport → ℕ
added_in [] = 0
added_in (report ∷ reports) = puts_added report.records + added_in reports

-- ---- laws

-- Rounds that go on where others ended are played behind them.
abbrev pub RoundsGoOn : Type 0
RoundsGoOn = (slots nodes weighs names : ℕ) (base mid end : Map) (anchors between shape : Anchors)
    (plans later : List RoundPlan) (reports more : List RoundReport) →
    ArePlayed slots nodes weighs names base anchors plans reports mid between →
    ArePlayed slots nodes (weighs + added_in reports) (names + added_in reports) mid between later more end shape →
    ArePlayed slots nodes weighs names base anchors (plans ++ later) (reports ++ more) end shape

-- With more weight and more names at the opening all is paid for, too.
abbrev pub MorePays : Type 0
MorePays = (slots nodes weighs names weighs' names' : ℕ) (base end : Map) (anchors shape : Anchors)
    (plans : List RoundPlan) (reports : List RoundReport) → weighs ≤ weighs' → names ≤ names' →
    ArePlayed slots nodes weighs names base anchors plans reports end shape →
    ArePlayed slots nodes weighs' names' base anchors plans reports end shape

-- In each round a call is answered full only where all nodes are paid for by the weight at the opening, and the slots
-- of one by the names then, together with the puts since then, up to the end of that round, that added a name or were
-- cut off.
abbrev pub ArePaidRounds : ℕ → ℕ → ℕ → ℕ → List RoundReport → Type 0
ArePaidRounds slots nodes weighs names [] = Unit {0}
ArePaidRounds slots nodes weighs names (report ∷ reports) =
    FullsArePaid slots nodes weighs names report.records
    × ArePaidRounds slots nodes (weighs + puts_added report.records) (names + puts_added report.records) reports

abbrev pub PlayedArePaid : Type 0
PlayedArePaid = (slots nodes weighs names : ℕ) (base end : Map) (anchors shape : Anchors) (plans : List RoundPlan)
    (reports : List RoundReport) → ArePlayed slots nodes weighs names base anchors plans reports end shape →
    ArePaidRounds slots nodes weighs names reports

-- There are as many reports as plans.
abbrev pub EachIsReported : Type 0
EachIsReported = (slots nodes weighs names : ℕ) (base end : Map) (anchors shape : Anchors) (plans : List RoundPlan)
    (reports : List RoundReport) → ArePlayed slots nodes weighs names base anchors plans reports end shape →
    length reports ≡ length plans

-- A legal round of the plan's calls, whoever makes them, that was joined and leaves this map.
pub record IsRoundTo (base : Map) (plan : RoundPlan) (report : RoundReport) (end : Map) : Type 0 where
  pub writes : List Write
  pub legal : IsJoinedRound base (numbered plan.ops) plan.limit report.records writes end
  pub names_are : report.names ≡ len end

-- The only round is such a one, where no crash ends it.
abbrev pub OnlyRoundIsLegal : Type 0
OnlyRoundIsLegal = (slots nodes weighs names : ℕ) (base end : Map) (anchors shape : Anchors) (plan : RoundPlan)
    (report : RoundReport) → plan.crash ≡ None →
    ArePlayed slots nodes weighs names base anchors (plan ∷ []) (report ∷ []) end shape →
    IsRoundTo base plan report end
