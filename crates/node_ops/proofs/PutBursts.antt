-- The parts of a put that make several turns one after another, as turns of the whole.
use Rattle.std.proofs.Common.{◌≡◌, ℕ, ◌+◌, ◌<◌, ◌≤◌, refl, ap, sym, ◌∙◌}
use Rattle.std.proofs.Common.{arith}
use Rattle.std.specs.Prelude.{Option, Some, None}
use Rattle.pm_words.specs.Images.{Row}
use Rattle.pm_words.specs.Rows.{CanAct, acted, got}
use Rattle.pm_words.specs.Turns.{GoesBelow, turn_of}
use Rattle.pm_words.specs.declared.action.Action.{Action}
use Rattle.pm_words.specs.declared.machine.Turn.{Turn}
use Rattle.pm_words.specs.declared.machine.Turn.TheVariants.{Go, Done}
use Rattle.data_node.specs.Bits.{lowest_clear}
use Rattle.call_stages.specs.declared.once.Once.{Once}
use Rattle.call_stages.specs.declared.once.Placed.{Placed}
use Rattle.machine_runs.specs.Runs.{Holds, Bursts, IsOnRun, MayGo}
use Rattle.machine_runs.proofs.Inside.{part_may, part_bursts}
use Rattle.machine_runs.proofs.Running.{burst_behind, burst_goes, run_begins, run_can, run_goes, run_may, run_takes}
use Rattle.node_ops.specs.declared.call.Call.{Call}
use Rattle.node_ops.specs.declared.lookup.Found.{Found}
use Rattle.node_ops.specs.declared.lookup.Lookup.{Lookup}
use Rattle.node_ops.specs.declared.lookup.Looked.{Looked}
use Rattle.node_ops.specs.declared.lookup.Looked.TheVariants as looked_as
use Rattle.node_ops.specs.declared.lookup.Hit.{Hit}
use Rattle.node_ops.specs.declared.lookup.Hold.{Hold}
use Rattle.node_ops.specs.declared.fill.Fill.{Fill}
use Rattle.node_ops.specs.declared.fill.FillAt.{FillAt}
use Rattle.node_ops.specs.declared.finish.Finish.{Finish}
use Rattle.node_ops.specs.declared.put.Put.{Put}
use Rattle.node_ops.specs.declared.put.Put.TheVariants.{Single}
use Rattle.node_ops.specs.declared.single_put.SinglePut.{SinglePut}
use Rattle.node_ops.specs.declared.single_put.SinglePut.TheVariants.{Looking, Filling, Replacing, Finishing}
use Rattle.node_ops.specs.Calls.{IsCall}
use Rattle.node_ops.specs.LookupSteps.{IsFoundBy, lookup_asks, lookup_turned, lookup_left, lookup_takes}
use Rattle.node_ops.specs.FillSteps.{fill_asks, fill_turned, fill_left, fill_takes}
use Rattle.node_ops.specs.FillSteps.{fill_at_left, fill_at_turned}
use Rattle.node_ops.specs.FinishSteps.{finish_asks, finish_turned, finish_left, finish_takes}
use Rattle.node_ops.specs.PutSteps.{put_asks, put_turned, put_left, put_takes}
use Rattle.node_ops.specs.PutSteps.{IsReplacing, put_filled, put_finished, put_full, put_into, put_looked}
use Rattle.node_ops.specs.PutSteps.{replaced, replaced_hit}
use Rattle.node_ops.specs.Bursts.{LookupBursts}
use Rattle.node_ops.proofs.WriteTurns.{fill_turn_is}
use Rattle.node_ops.proofs.CallBursts.{looked_call, looked_found, looking_bursts}

-- a turn of what a put does leaves the put fewer actions where it leaves that fewer
put_into_below : (call : Call) (found : Found) (value bound : ℕ) (clear : Option ℕ)
    → put_left (put_into call found value clear) < bound + 30057
put_into_below call found value bound (Some slot) = omega arith
put_into_below call found value bound None = by found.hit
  where
    by : (hit : Option Hit) → put_left (put_full call found.hold found.directory.bitmap hit value) < bound + 30057
    by (Some hit) = omega arith
    by None = omega arith

put_looked_below : (call : Call) (value bound : ℕ) (turn : Turn Lookup Looked)
    → GoesBelow {A = Looked} lookup_left bound turn
    → GoesBelow {A = Once Placed} put_left (bound + 30057) (put_looked call value turn)
put_looked_below call value bound (Go lookup) below = omega arith
put_looked_below call value bound (Done (looked_as.Early answer)) below = tt
put_looked_below call value bound (Done (looked_as.Found found)) below = put_into_below call found value bound _

put_filled_below : (fill : Fill) (at : FillAt) (number : ℕ)
    → GoesBelow {A = Finish} fill_left (fill_at_left at) (fill_at_turned fill at number)
    → GoesBelow {A = Once Placed} put_left (fill_at_left at + 18) (put_filled (fill_at_turned fill at number))
put_filled_below fill at number =
    fill_turn_is (λ (turn : Turn Fill Finish). GoesBelow {A = Finish} fill_left (fill_at_left at) turn
    → GoesBelow {A = Once Placed} put_left (fill_at_left at + 18) (put_filled turn)) fill at number
    (λ next below. omega arith)
    (λ is below. let one : fill_at_left at ≡ 1 = ap fill_at_left is in omega arith)

put_finished_below : (bound : ℕ) (turn : Turn Finish (Once Placed))
    → GoesBelow {A = Once Placed} finish_left bound turn
    → GoesBelow {A = Once Placed} put_left bound (put_finished turn)
put_finished_below bound (Go finish) below = below
put_finished_below bound (Done answer) below = tt

-- a put that looks, that fills a slot, and that finishes
pub looking_put : (value : ℕ) → Holds lookup_asks lookup_turned lookup_left lookup_takes
    put_asks put_turned put_left put_takes (λ (l : Lookup). Single (Looking l value))
looking_put value = record {
  asked = λ lookup. refl;
  on = λ lookup next number goes. ap (put_looked lookup.call value) goes;
  taken = λ lookup number takes. (takes.0.0, takes.1);
  fewer = λ lookup number takes below.
      put_looked_below lookup.call value (lookup_left lookup) (lookup_turned lookup number) below;
}

pub filling_put : Holds fill_asks fill_turned fill_left fill_takes put_asks put_turned put_left put_takes
    (λ (f : Fill). Single (Filling f))
filling_put = record {
  asked = λ fill. refl;
  on = λ fill next number goes. ap put_filled goes;
  taken = λ fill number takes. (takes.0, takes.1);
  fewer = λ fill number takes below. put_filled_below fill fill.at number below;
}

pub finishing_put : Holds finish_asks finish_turned finish_left finish_takes put_asks put_turned put_left put_takes
    (λ (f : Finish). Single (Finishing f))
finishing_put = record {
  asked = λ finish. refl;
  on = λ finish next number goes. ap put_finished goes;
  taken = λ finish number takes. (takes.0, takes.1);
  fewer = λ finish number takes below.
      put_finished_below (finish_left finish) (finish_turned finish number) below;
}

module _ (s : SinglePut) (lookup : Lookup) (value : ℕ) (is : s ≡ Looking lookup value) {old : Row}
    (may : MayGo put_asks put_turned put_left put_takes old.layout old.words (Single s)) where
  single_is : Single s ≡ Single (Looking lookup value)
  single_is = ap (λ (x : SinglePut). Single x) is

  pub put_looking_may : MayGo lookup_asks lookup_turned lookup_left lookup_takes old.layout old.words lookup
  put_looking_may = part_may (looking_put value) single_is may

  pub put_looked_call : {new : Row} {last : Lookup} {looked : Looked} {begun ended : ℕ}
      → LookupBursts old new lookup last (Some looked) begun ended → IsCall last.call
  put_looked_call b = looked_call (looking_put value) single_is may b

  pub put_looked_found : {new : Row} {last : Lookup} {looked : Looked} {begun ended : ℕ} → (found : Found)
      → LookupBursts old new lookup last (Some looked) begun ended → looked ≡ looked_as.Found found
      → IsFoundBy last.call.view.layout.slots found
  put_looked_found found b is_found =
      looked_found (looking_put value) single_is may (λ l number takes. takes.0.2) found b is_found

  pub put_looking_bursts : {new : Row} {last : Lookup} {looked : Option Looked} {end : Turn Put (Once Placed)}
      {begun ended : ℕ} → LookupBursts old new lookup last looked begun ended
      → put_looked last.call value (turn_of last looked) ≡ end
      → Bursts put_asks put_turned put_left old new (Single s) end begun ended
  put_looking_bursts b to =
      looking_bursts (looking_put value) (λ (call : Call). put_looked call value) (λ l number. refl) (λ call l. refl)
      single_is may b to

-- a put that has found a slot whose value it replaces, and goes on from there
found_replaces : (call : Call) (found : Found) (value : ℕ) (clear : Option ℕ) (hit : Hit)
    → replaced_hit clear found.hit ≡ Some hit
    → put_into call found value clear ≡ Single (Replacing call found.hold found.directory.bitmap hit value)
found_replaces call found value (Some slot) hit is = absurd (cc)
found_replaces call found value None hit is =
    ap (λ (o : Option Hit). put_full call found.hold found.directory.bitmap o value) is

module _ (s : SinglePut) (lookup : Lookup) (value : ℕ) (is : s ≡ Looking lookup value) {old : Row}
    (may : MayGo put_asks put_turned put_left put_takes old.layout old.words (Single s)) {now : Row} {last : Lookup}
    {looked : Looked} {begun steps : ℕ} (found : Found) (hit : Hit)
    (b : LookupBursts old now lookup last (Some looked) begun steps) (is_found : looked ≡ looked_as.Found found)
    (replaces : replaced_hit (lowest_clear found.directory.bitmap last.call.view.layout.slots) found.hit ≡ Some hit)
  where
    replacing_run : IsOnRun put_asks put_turned put_left old now (Single s)
        (Single (Replacing last.call found.hold found.directory.bitmap hit value)) begun steps
    replacing_run =
        burst_goes (put_looking_bursts s lookup value is may b
        (ap (λ (f : Looked). put_looked last.call value (Done f)) is_found
        ∙ ap (λ (p : Put). Go p) (found_replaces last.call found value _ hit replaces))) refl

    pub put_replacing_may : MayGo put_asks put_turned put_left put_takes now.layout now.words
        (Single (Replacing last.call found.hold found.directory.bitmap hit value))
    put_replacing_may = run_may put_takes may replacing_run

    pub put_replacing_bursts : {after : Row} {end : Turn Put (Once Placed)} {later : ℕ}
        → Bursts put_asks put_turned put_left now after
        (Single (Replacing last.call found.hold found.directory.bitmap hit value)) end steps later
        → Bursts put_asks put_turned put_left old after (Single s) end begun later
    put_replacing_bursts more = burst_behind replacing_run more

-- it stores the value, and makes it durable
module _ (call : Call) (hold : Hold) (bitmap : ℕ) (hit : Hit) (value : ℕ) {old : Row}
    (may : MayGo put_asks put_turned put_left put_takes old.layout old.words
    (Single (Replacing call hold bitmap hit value))) where
  pub replacing_sound : IsReplacing call hold bitmap hit value
  replacing_sound =
      (run_takes put_takes may (run_begins old (Single (Replacing call hold bitmap hit value)) 0) refl refl).0

  pub replacing_slot : hit.slot < 64
  replacing_slot =
      let within : hit.slot < call.view.layout.slots = replacing_sound.hit.within in
      let limit : call.view.layout.slots ≤ 64 = replacing_sound.call.view.layout.slots.1 in
      omega arith

  module _ {action : Action} (asked : action ≡ put_asks (Single (Replacing call hold bitmap hit value))) where
    pub replacing_can : CanAct old.layout old.words action
    replacing_can =
        run_can put_takes may (run_begins old (Single (Replacing call hold bitmap hit value)) 0) asked

    module _ {now : Row} {number : ℕ} (acts : now ≡ record old { words = acted old.layout old.words action })
        (given : number ≡ got old.layout old.words action) where
      stored_run : (begun steps : ℕ) → steps ≡ begun + 1
          → IsOnRun put_asks put_turned put_left old now (Single (Replacing call hold bitmap hit value))
          (Single (Finishing (replaced call hold hit value))) begun steps
      stored_run begun steps ticks =
          run_goes (run_begins old (Single (Replacing call hold bitmap hit value)) begun) tt asked acts given ticks
          (omega arith) refl

      stored_may : MayGo put_asks put_turned put_left put_takes now.layout now.words
          (Single (Finishing (replaced call hold hit value)))
      stored_may = run_may put_takes may (stored_run 0 1 (omega arith))

      pub replaced_may : MayGo finish_asks finish_turned finish_left finish_takes now.layout now.words
          (replaced call hold hit value)
      replaced_may = part_may finishing_put refl stored_may

      pub replaced_bursts : {after : Row} {last : Finish} {begun steps later : ℕ} → steps ≡ begun + 1
          → Bursts finish_asks finish_turned finish_left now after (replaced call hold hit value) (Go last) steps later
          → Bursts put_asks put_turned put_left old after (Single (Replacing call hold bitmap hit value))
          (Go (Single (Finishing last))) begun later
      replaced_bursts {begun = begun} {steps = steps} ticks b =
          burst_behind (stored_run begun steps ticks)
          (part_bursts finishing_put refl stored_may b (ap put_finished (sym b.ends)))
