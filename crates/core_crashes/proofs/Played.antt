-- A round of one caller that stopped, its crash, and the index that is opened behind it.
use Rattle.std.proofs.Common.{◌≡◌, ℕ, suc, ◌+◌, ◌<◌, ◌≤◌, ◌^◌, List, [], ◌∷◌, true, false, length, get_or, map, take}
use Rattle.std.proofs.Common.{All, refl, sym, ap, subst, ◌∙◌, arith}
use Rattle.std.proofs.lemmas.Option.{slice_get-get_or}
use Rattle.std.specs.Prelude.{Some, slice_get}
use Rattle.std.specs.FinMap.{len}
use Rattle.pm_words.specs.declared.layout.Layout.{Layout}
use Rattle.pm_words.specs.Images.{Row}
use Rattle.pm_words.specs.Locations.{Clock, Volatile}
use Rattle.pm_words.proofs.Apart.{at-set_other}
use Rattle.pm_words.specs.Offsets.{stamp_offset}
use Rattle.cat_history.specs.Maps.{Map, map_of}
use Rattle.cat_history.specs.Writes.{after_all}
use Rattle.cat_history.specs.CrashEnds.{IsCrashEnd}
use Rattle.cat_history.specs.CrashRounds.{IsCrashRound, all_settled, changes_cut}
use Rattle.cat_history.specs.LoneRounds.{writes_of, IsLoneRound, IsSpentExactly}
use Rattle.cat_history.specs.Records.{call_of, numbered}
use Rattle.cat_history.specs.Rounds.{answered_records}
use Rattle.cat_history.specs.declared.op.CallerOp.{CallerOp}
use Rattle.cat_history.specs.declared.op.Write.{Write}
use Rattle.cat_history.specs.declared.plan.CrashPlan.{CrashPlan}
use Rattle.cat_history.specs.declared.plan.RoundPlan.{RoundPlan}
use Rattle.cat_history.specs.declared.record.Record.{Record}
use Rattle.cat_history.proofs.SettleLemmas.{settled_is_crash_round}
use Rattle.cat_text.proofs.LoneReports.{lone_stand}
use Rattle.shapes.specs.Anchors.{Anchors}
use Rattle.shapes.specs.Runs.{IsFullInTime, opening}
use Rattle.shapes.specs.ShapeRounds.{FullIsPaid, IsBoundedByShape, IsShapeWithin, RoundInShape, puts_added}
use Rattle.shapes.proofs.PaidRounds.{timely_rounds_are_paid}
use Rattle.shapes.proofs.RoundLemmas.{stops_within}
use Rattle.stopped_rounds.specs.InTime.{AreInTime, AreOnNames, HasNoTurns, HasTimelyTurns}
use Rattle.stopped_rounds.specs.Replies.{SettlesToReport}
use Rattle.stopped_rounds.specs.Stops.{HasStopped}
use Rattle.stopped_rounds.specs.declared.crash_round.StoppedRound.{StoppedRound}
use Rattle.stopped_rounds.proofs.LoneStopLemmas.{answered_are_done, lone_stops_are_stopped}
use Rattle.stopped_rounds.proofs.MoreCutsLemmas.{more_cuts_are_crash_ends}
use Rattle.core_rounds.specs.updater_row_law.proofs.RowColumns.{column-same}
use Rattle.core_rounds.specs.lone_updater_law.specs.LoneTurns.{stamp_in}
use Rattle.index_law.specs.Anchors.{anchors_in}
use Rattle.index_law.specs.Weights.{weight_sum}
use Rattle.core_rounds.specs.index_core.specs.Costs.{turn_actions}
use Rattle.core_rounds.specs.index_core.specs.CrashLaws.{chosen_index, crash_image}
use Rattle.core_rounds.specs.index_core.specs.Crashes.{cut_changes}
use Rattle.core_rounds.specs.index_core.specs.Fulls.{HasLowStamps}
use Rattle.core_rounds.specs.index_core.specs.Indexes.{Index, IsIndex, map_of_index, world}
use Rattle.core_rounds.specs.index_core.specs.Lone.{IsQuiet}
use Rattle.core_rounds.specs.index_core.specs.Rounds.{BeginsRound, round_index}
use Rattle.core_rounds.specs.index_core.specs.Weights.{weight_of}
use Rattle.core_rounds.specs.index_core.proofs.MachineLaw.{idle_weigh}
use Rattle.core_rounds.specs.index_core.proofs.Rounds.{round_is}
use Rattle.caller_rounds.proofs.Settling.{settled_stay}
use Rattle.core_rounds.specs.CoreMaps.{IsCoreMap}
use Rattle.core_rounds.specs.Rounds.{IsLoneCrash}
use Rattle.core_rounds.specs.Waiting.{puts_among}
use Rattle.core_rounds.proofs.CoreMaps.{core_in_shape, opened_is_map}
use Rattle.core_rounds.specs.CrashWork.{most_events}
use Rattle.core_crashes.specs.CrashMaps.{MakeNoTurns, Stoppable, anchors_by, members_by, members_of, most_between}
use Rattle.core_crashes.specs.CrashMaps.{state_of, weighs_of}
use Rattle.core_crashes.specs.Power.{IsBehindCrash}
use Rattle.core_crashes.specs.Rounds.{IsPlayedLoneCrash}
use Rattle.core_crashes.specs.Stops.{StopsOn}
use Rattle.core_crashes.proofs.Settled.{answered-settled, calls-settled, names-found}
use Rattle.core_crashes.proofs.Settled.{told-settled, writes-settled}
use Rattle.core_crashes.proofs.Turnless.{in_time-of, in_time-settled}

-- ---- a core in which the round begins

-- the index as the round begins, once room for its writes is made
pub record IsBegun (core mid : Index) : Type 0 where
  pub layout : mid.layout ≡ core.layout
  pub generation : mid.generation ≡ core.generation
  pub history : mid.history ≡ []
  pub map : map_of_index mid ≡ map_of_index core
  pub anchors : anchors_in (world mid) ≡ anchors_in (world core)
  pub weighs : weight_of mid ≡ weight_of core

module _ (core round mid : Index) (begins : BeginsRound core round) (kept : mid ≡ record round { spare = mid.spare }) where
  pub begun : IsBegun core mid
  begun = record {
    layout = ap (λ (s : Index). s.layout) kept ∙ ap (λ (s : Index). s.layout) begins.is;
    generation = ap (λ (s : Index). s.generation) kept ∙ ap (λ (s : Index). s.generation) begins.is;
    history = ap (λ (s : Index). s.history) kept ∙ ap (λ (s : Index). s.history) begins.is;
    map = ap map_of_index kept ∙ begins.map;
    anchors = ap (λ (s : Index). anchors_in (world s)) kept ∙ begins.shape;
    weighs = ap weight_of kept ∙ begins.weighs;
  }

  pub round_path : mid ≡ round_index core mid.spare
  round_path = kept ∙ ap (λ (s : Index). record s { spare = mid.spare }) begins.is

  pub begun_index : IsIndex core → IsQuiet core → IsIndex mid
  begun_index index quiet = subst IsIndex (sym round_path) (round_is core index quiet mid.spare)

  pub begun_quiet : IsQuiet round → IsQuiet mid
  begun_quiet quiet = subst IsQuiet (sym kept) (record { calls = quiet.calls; turns = quiet.turns; rechecks = quiet.rechecks })

  -- stamps stand in words of their own
  same_stamps : stamp_in (world (round_index core 0)) ≡ stamp_in (world core)
  same_stamps = column-same core.layout core.words (round_index core 0).words core.layout.nodes (λ n. Volatile n stamp_offset)
      (λ n here. at-set_other core.layout core.words Clock (Volatile n stamp_offset) 0 tt (here, omega arith) (λ e. cc))

  pub begun_stamps : HasLowStamps core → HasLowStamps mid
  begun_stamps low = subst HasLowStamps (sym round_path)
      (λ n here. subst (λ (stamps : ℕ → ℕ). stamps n ≤ 1) (sym same_stamps) (low n here))

-- the one caller is one of the layout, and has a budget
of_layout : (n caller : ℕ) (ops : List CallerOp) → 0 < n → All (λ (a : CallerOp). a.caller < n) ops → All (λ (a : CallerOp). a.caller ≡ caller) ops → (length ops ≡ 0 → caller ≡ 0) → caller < n
of_layout n caller [] some within lone first = let none = first refl in omega (arith, none, some)
of_layout n caller (a ∷ ops) some within lone first =
    let here = within 0 a (omega arith) in
    let own = lone 0 a (omega arith) in
    omega (arith, here, own)

-- as the code reads its calls and the budgets
pub caller_within : (core : Index) (caller : ℕ) (ops asked : List CallerOp) → IsIndex core → All (λ (a : CallerOp). a.caller < core.layout.callers) ops → asked ≡ ops → All (λ (a : CallerOp). a.caller ≡ caller) asked →
    (length asked ≡ 0 → caller ≡ 0) → caller < core.layout.callers
caller_within core caller ops asked index within same lone first =
    let callers = index.lawful.row.layout.callers in
    of_layout core.layout.callers caller ops (omega (arith, callers)) within (subst (λ (l : List CallerOp). All (λ (a : CallerOp). a.caller ≡ caller) l) same lone) (λ none. first (ap length same ∙ none))

pub has_budget : (caller callers : ℕ) (budgets read : List ℕ) → caller < callers → length budgets ≡ callers → read ≡ budgets → slice_get budgets caller ≡ Some (get_or read caller 0)
has_budget caller callers budgets read within sizes same =
    ap (λ (l : List ℕ). slice_get l caller) (sym same) ∙ slice_get-get_or read caller 0 (omega (arith, within, sizes, ap length same))

-- ---- the round as far as it came

pub stopped_on : (first : Anchors) (core new : Index) (m m' : Stoppable) (plan : RoundPlan) (budget updater_budget : ℕ) (round : StoppedRound) → m ≡ record { index = core; stopped = false; turning = false; placed = false } → new ≡ m'.index →
    core.history ≡ [] → first ≡ anchors_in (world core) → IsIndex new → new.layout ≡ core.layout → new.generation ≡ core.generation →
    HasStopped m.index.layout.slots m.index.layout.nodes plan.limit budget (state_of first m) plan.ops round.records (state_of first m') → round.writes ≡ length (writes_of round.records) →
    All SettlesToReport round.records → weighs_of m' ≤ weighs_of m + puts_added round.records → (MakeNoTurns core plan.ops → AreOnNames plan.ops → HasNoTurns plan → AreInTime most_events budget round.records) →
    (MakeNoTurns core (take plan.updater plan.ops) → length (anchors_in (world core)) + puts_among plan.ops < core.layout.nodes → AreOnNames plan.ops → HasTimelyTurns most_between (turn_actions core.layout) plan updater_budget → AreInTime most_events budget round.records) →
    StopsOn core plan budget updater_budget round new
stopped_on first core new m m' plan budget updater_budget round is left begins anchors index layout generation stopped placed told weighs in_time with_turns =
    let begin : Stoppable = record { index = core; stopped = false; turning = false; placed = false } in
    let members : members_by first core ≡ anchors_in (world core) = ap (anchors_by core.layout.slots (map_of core.base) first) begins ∙ anchors in
    let here : HasStopped core.layout.slots core.layout.nodes plan.limit budget (state_of first begin) plan.ops round.records (state_of first m') =
    subst (λ (b : Stoppable). HasStopped b.index.layout.slots b.index.layout.nodes plan.limit budget (state_of first b) plan.ops round.records (state_of first m')) is stopped in
    let from = subst (λ (a : Anchors). HasStopped core.layout.slots core.layout.nodes plan.limit budget (record { contents = map_of_index core; anchors = a; cut = cut_changes core.states }) plan.ops round.records (state_of first m')) members here in
    record {
      members = members_of first m';
      stopped = subst (λ (n : Index). HasStopped core.layout.slots core.layout.nodes plan.limit budget (record { contents = map_of_index core; anchors = anchors_in (world core); cut = cut_changes core.states }) plan.ops round.records
          (record { contents = map_of_index n; anchors = members_of first m'; cut = cut_changes n.states })) (sym left) from;
      placed = placed;
      told = told;
      weighs =
          let before = ap weighs_of is in
          let after = ap (λ (n : Index). weight_sum (world n)) left in
          omega (arith, weighs, before, after);
      in_time = in_time;
      in_time_with_turns = with_turns;
      index = index;
      layout = layout;
      generation = generation;
    }

-- ---- the round that was played

module _ (core mid stopped next : Index) (plan : RoundPlan) (crash : CrashPlan) (caller budget : ℕ) (round : StoppedRound) (index : IsIndex core) (quiet : IsQuiet core) (stamps : HasLowStamps core)
    (begun : IsBegun core mid) (still : IsQuiet mid) (stops : StopsOn mid plan budget crash.updater_budget round stopped) (behind : IsBehindCrash crash.seed stopped next)
    (lone : All (λ (a : CallerOp). a.caller ≡ caller) plan.ops) (has : slice_get crash.budgets caller ≡ Some budget) (turnless : (asked : List CallerOp) → MakeNoTurns core asked → MakeNoTurns mid asked) where
  abbrev base : Map
  base = map_of_index core

  abbrev anchors : Anchors
  anchors = anchors_in (world core)

  abbrev slots : ℕ
  slots = core.layout.slots

  abbrev nodes : ℕ
  nodes = core.layout.nodes

  abbrev end : Map
  end = map_of_index next

  abbrev image : Row
  image = crash_image (chosen_index stopped crash.seed)

  abbrev records : List Record
  records = all_settled end round.records

  abbrev added : ℕ
  added = puts_added round.records

  h : HasStopped slots nodes plan.limit budget (record { contents = base; anchors = anchors; cut = cut_changes mid.states }) plan.ops round.records
      (record { contents = map_of_index stopped; anchors = stops.members; cut = cut_changes stopped.states })
  h = subst (λ (q : Layout × Map × Anchors). HasStopped (q.0).slots (q.0).nodes plan.limit budget (record { contents = q.1; anchors = q.2; cut = cut_changes mid.states }) plan.ops round.records
      (record { contents = map_of_index stopped; anchors = stops.members; cut = cut_changes stopped.states }))
      (λ k. (begun.layout k, begun.map k, begun.anchors k)) stops.stopped

  -- the map that was found
  ends : IsCrashEnd (after_all base (writes_of round.records)) (changes_cut round.records) end
  ends = subst (λ (m : Map). IsCrashEnd m (changes_cut round.records) end) h.leaves
      (more_cuts_are_crash_ends (map_of_index stopped) (cut_changes stopped.states) (changes_cut round.records) end h.cut behind.ends)

  -- what is told of it
  legal : IsCrashRound base (numbered plan.ops) plan.limit crash.budgets records (writes_of records) end
  legal = subst (λ (ws : List Write). IsCrashRound base (numbered plan.ops) plan.limit crash.budgets records ws end) (sym (writes-settled end round.records))
      (settled_is_crash_round base (numbered plan.ops) plan.limit crash.budgets round.records (writes_of round.records) end
      (lone_stops_are_stopped base caller budget plan.ops plan.limit crash.budgets round.records lone h.in_script_order has h.within h.stop) ends)

  done_is : answered_records round.records ≡ h.stop.done
  done_is = answered_are_done plan.limit base round.records h.stop

  told_is : answered_records records ≡ h.stop.done
  told_is = answered-settled end round.records ∙ done_is

  calls : map call_of records ≡ numbered plan.ops
  calls = calls-settled end round.records ∙ h.in_script_order

  lone_crash : IsLoneCrash slots nodes base anchors plan records
  lone_crash = record {
    in_script_order = calls;
    answers = subst (IsLoneRound base) (sym told_is) h.stop.answers;
    spent = subst (IsSpentExactly plan.limit base) (sym told_is) h.stop.spent;
    full = subst (IsFullInTime slots nodes plan.limit (opening base anchors)) (sym told_is) h.full;
    bounds = subst (IsBoundedByShape slots base anchors) (sym told_is) h.bounds;
  }

  -- what it pays for
  core_map : IsCoreMap core (len base)
  core_map = record { index = index; quiet = quiet; stamps = stamps; counted = refl }

  opens_within : IsShapeWithin slots nodes (weight_of core) (len base) base anchors
  opens_within = let within = core_in_shape core (len base) core_map in record { shape = within.shape; light = within.light; few = omega arith }

  in_shape : RoundInShape slots nodes base anchors h.stop.done
  in_shape =
      let enough = index.lawful.row.layout.slots in
      timely_rounds_are_paid slots nodes plan.limit base anchors h.stop.done (omega (arith, enough)) opens_within.shape h.stop.answers h.stop.spent h.full

  paid : All (FullIsPaid slots nodes (weight_of core + added) (len base + added)) round.records
  paid = (stops_within slots nodes (weight_of core) (len base) base anchors round.records opens_within (subst (RoundInShape slots nodes base anchors) (sym done_is) in_shape)).0

  few : len end ≤ len base + added
  few = names-found plan.limit base round.records end h.stop in_shape.names ends

  light : weight_of next ≤ weight_of core + added
  light =
      let found = behind.weighs in
      let cut = stops.weighs in
      let rests = idle_weigh mid still.calls in
      let same = begun.weighs in
      omega (arith, found, cut, rests, same)

  layout_is : next.layout ≡ core.layout
  layout_is = behind.layout ∙ stops.layout ∙ begun.layout

  within : IsShapeWithin slots nodes (weight_of core + added) (len base + added) end (anchors_in (world next))
  within =
      let there = subst (λ (l : Layout). IsShapeWithin l.slots l.nodes (weight_of next) (len end) end (anchors_in (world next))) layout_is (opened_is_map image next behind.opened).within in
      let heavy = there.light in
      record { shape = there.shape; light = omega (arith, heavy, light); few = omega (arith, few) }

  pub crash_played : (names : ℕ) → names ≡ length next.base → round.writes < 2 ^ 64 → names < 2 ^ 64 → (told : List Record) → told ≡ all_settled (map_of next.base) round.records →
      IsPlayedLoneCrash core plan crash (record { records = told; crashed = true; writes = round.writes; names = names }) next
  crash_played names counted writes-fit names-fit told is =
      let found : map_of next.base ≡ end = sym (ap (after_all (map_of next.base)) behind.opened.history) in
      let stay = settled_stay round.records end in
      let same : puts_added records ≡ added = stay.added in
      let count : names ≡ len end = counted ∙ (opened_is_map image next behind.opened).counted in
      subst (λ (rs : List Record). IsPlayedLoneCrash core plan crash (record { records = rs; crashed = true; writes = round.writes; names = names }) next)
      (sym (is ∙ ap (λ (m : Map). all_settled m round.records) found))
      (record {
        round = record { legal = legal; crashed = refl; placed = stops.placed ∙ ap length (sym (writes-settled end round.records)); names_are = count };
        answers = lone_crash;
        told = record {
          records = told-settled end round.records stops.told;
          by_caller = lone_stand caller plan.ops records lone calls;
          writes = writes-fit;
          names = names-fit;
        };
        pays = record {
          paid = subst (λ (n : ℕ). All (FullIsPaid slots nodes (weight_of core + n) (len base + n)) records) (sym same)
              (stay.paid slots nodes (weight_of core + added) (len base + added) paid);
          within = subst (λ (n : ℕ). IsShapeWithin slots nodes (weight_of core + n) (len base + n) end (anchors_in (world next))) (sym same) within;
          weighs = omega (arith, light, same);
        };
        in_time = λ of given own gives none named still. in_time-settled end most_events given round.records
            (in_time-of caller of budget given plan.ops crash.budgets most_events round.records lone own h.in_script_order has gives (stops.in_time (turnless plan.ops none) named still));
        in_time_with_turns = λ of given own gives none room named timely.
            let nodes = ap (λ (l : Layout). l.nodes) begun.layout in
            let members = ap length begun.anchors in
            let each = subst (λ (l : Layout). HasTimelyTurns most_between (turn_actions l) plan crash.updater_budget) (sym begun.layout) timely in
            in_time-settled end most_events given round.records
            (in_time-of caller of budget given plan.ops crash.budgets most_events round.records lone own h.in_script_order has gives
            (stops.in_time_with_turns (turnless (take plan.updater plan.ops) none) (omega (arith, nodes, members, room)) named each));
        layout = layout_is;
        generation = behind.generation ∙ ap suc (stops.generation ∙ begun.generation);
        image = image;
        opened = behind.opened;
        left = stopped;
        places = h.leaves ∙ ap (after_all base) (sym (writes-settled end round.records));
        leaves = refl;
      })
