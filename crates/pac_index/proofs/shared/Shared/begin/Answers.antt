use Rattle.std.proofs.Common.{◌≡◌, ℕ, ◌<◌, sym, ap, ◌∙◌, subst}
use Rattle.pm_words.specs.declared.action.Action.{Action}
use Rattle.pm_words.specs.declared.machine.Turn.{Turn}
use Rattle.pm_words.specs.declared.machine.Turn.TheVariants.{Go}
use Rattle.pm_words.specs.Locations.{row_words}
use Rattle.pm_words.specs.Rows.{given, action_address}
use Rattle.call_stages.specs.declared.once.Once.{Once}
use Rattle.call_stages.specs.declared.once.Placed.{Placed}
use Rattle.node_ops.specs.declared.running.Running.{Running}
use Rattle.node_ops.specs.Asked.{IsOf}
use Rattle.node_ops.specs.RunningSteps.{running_asks, running_turned, IsRunning}
use Rattle.index_core.specs.CoreCalls.{op_of}
use Rattle.index_core.proofs.MachineLaw.{first_ready}
use Rattle.pac_index.specs.declared.rule.About.{About}
use Rattle.pac_index.specs.Kept.{May, Starts, Goes, party, view_in, machine_in, calling}
use Rattle.pac_index.specs.Calls.{Runs}
use Rattle.pac_index.proofs.Allowed.{allows_first, inside_table, place_inside}
use Rattle.pac_index.proofs.Running.{runs_first, runs_on}
use Rattle.pac_index.proofs.shared.Shared.begin.Goals as goal

pub act-got-requires-clause-allowed : goal.act-got-requires-clause-allowed
act-got-requires-clause-allowed g c =
    let seat = c.args.seat.now in
    let s = c.args.self.now in
    let t = s.table.shared in
    let m = machine_in (party seat.me) g.C.BeginsCall.call in
    let here : IsRunning m = subst IsRunning c.requires.machine c.requires.sound in
    let action : c.action.result ≡ running_asks m = c.action.ensures ∙ ap running_asks c.requires.machine in
    let ready = first_ready (view_in (party seat.me)) g.C.BeginsCall.call here in
    let within = place_inside (party seat.me).about.layout (running_asks m) ready.names in
    let inside : action_address t.key.layout (running_asks m) < t.table_id.words =
    inside_table s.about t.key t.table_id.words (running_asks m) s.key s.words
    (subst (λ (b : About). action_address b.layout (running_asks m) < row_words b.layout) c.requires.about within) in
    subst (λ (x : Action). May t.key t.table_id.words t.table_id.slots seat.id seat.me x (Starts g.C.BeginsCall.call g.C.BeginsCall.index)) (sym action)
    (allows_first t.key t.table_id.words t.table_id.slots seat.id seat.me g.C.BeginsCall.call g.C.BeginsCall.index c.requires.lone c.requires.idle here inside)

pub returns : goal.returns
returns g c =
    let seat = c.args.seat.now in
    let v = party seat.me in
    let call = g.C.BeginsCall.call in
    let index = g.C.BeginsCall.index in
    let m = machine_in v call in
    let w = party c.act-got.new.seat.me in
    let here : IsRunning m = subst IsRunning c.requires.machine c.requires.sound in
    let of : IsOf (op_of call) m = subst (IsOf (op_of call)) c.requires.machine c.requires.op in
    let told = c.act-got.ensures.told in
    let began = told.heard in
    let got : c.act-got.result ≡ given (running_asks m) told.found = told.is ∙ ap (λ (a : Action). given a told.found) (c.action.ensures ∙ ap running_asks c.requires.machine) in
    let goes = subst (λ (n : ℕ). Goes m (calling v call index began.since) n w) (sym got) began.goes in
    let runs = runs_on call index v (calling v call index began.since) w (Go m) m c.act-got.result (runs_first call index v began.since began.later here of) (λ k. Go m) goes in
    record {
      seat = c.act-got.ensures.seat;
      lone = began.lone;
      runs = subst (λ (u : Turn Running (Once Placed)). Runs call index v u w) (sym (ap (λ (q : Running). running_turned q c.act-got.result) c.requires.machine) ∙ c.advance.ensures.turned) runs;
      turned = (c.act-got.result, c.advance.ensures.turned);
      taken = goes.stepped.taken;
    }
