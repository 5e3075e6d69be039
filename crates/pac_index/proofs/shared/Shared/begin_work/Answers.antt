use Rattle.std.proofs.Common.{◌≡◌, ℕ, ◌-◌, ◌<◌, ◌≤◌, ◌^◌, sym, ap, ◌∙◌, subst, arith}
use Rattle.pm_words.specs.declared.action.Action.{Action}
use Rattle.pm_words.specs.declared.machine.Turn.{Turn}
use Rattle.pm_words.specs.declared.machine.Turn.TheVariants.{Go}
use Rattle.pm_words.specs.Locations.{row_words}
use Rattle.pm_words.specs.Rows.{given, action_address}
use Rattle.updater.specs.declared.making.MakeTurn.{MakeTurn}
use Rattle.updater.specs.declared.making.MakeTurn.TheVariants.{Working}
use Rattle.updater.specs.declared.terms.Turned.{Turned}
use Rattle.updater.specs.declared.work.Work.{Work}
use Rattle.updater.specs.Makings.{making_asks, worked}
use Rattle.updater.specs.Works.{work_from, work_turned}
use Rattle.pac_index.specs.declared.rule.About.{About}
use Rattle.pac_index.specs.Kept.{May, party}
use Rattle.pac_index.specs.Turns.{work_in, turning_at, StartsWork, TurnGoes, actions_left}
use Rattle.pac_index.proofs.Allowed.{inside_table}
use Rattle.pac_index.proofs.TurnSteps.{work_allows_first}
use Rattle.pac_index.proofs.TurnRunning.{work_lessens}
use Rattle.pac_index.proofs.shared.Shared.begin_work.Goals as goal

pub act-got-requires-clause-allowed : goal.act-got-requires-clause-allowed
act-got-requires-clause-allowed g c =
    let seat = c.args.seat.now in
    let s = c.args.self.now in
    let t = s.table.shared in
    let v = party seat.me in
    let epoch = c.args.epoch in
    let making : MakeTurn = Working c.args.work.now in
    let same : making ≡ work_in v epoch = ap Working c.requires.work ∙ ap (λ (b : About). Working (work_from b.layout b.generation epoch (epoch - 2))) (sym c.requires.about) in
    let action : c.action.result ≡ making_asks (work_in v epoch) = c.action.ensures ∙ ap making_asks same in
    let within : action_address s.about.layout (making_asks (work_in v epoch)) < row_words s.about.layout = c.requires.ready.1 in
    let inside : action_address t.key.layout (making_asks (work_in v epoch)) < t.table_id.words = inside_table s.about t.key t.table_id.words (making_asks (work_in v epoch)) s.key s.words within in
    let bounds = c.requires.epoch in
    let some : 1 ≤ epoch = let first = bounds.0 in omega arith in
    let fits : epoch < 2 ^ 64 = let last = bounds.1 in omega arith in
    subst (λ (x : Action). May t.key t.table_id.words t.table_id.slots seat.id seat.me x (StartsWork g.E.HasEpoch.epoch)) (sym action)
    (subst (λ (e : ℕ). May t.key t.table_id.words t.table_id.slots seat.id seat.me (making_asks (work_in v epoch)) (StartsWork e)) c.requires.chosen
    (work_allows_first t.key t.table_id.words t.table_id.slots seat.id seat.me epoch c.requires.lone c.requires.flies some fits inside))

pub advance-requires : goal.advance-requires
advance-requires g c =
    let v = party c.args.seat.now.me in
    let epoch = c.args.epoch in
    let told = c.act-got.ensures.told in
    let making : MakeTurn = Working c.args.work.now in
    let same : making ≡ work_in v epoch = ap Working c.requires.work ∙ ap (λ (b : About). Working (work_from b.layout b.generation epoch (epoch - 2))) (sym c.requires.about) in
    let heard : StartsWork epoch c.args.seat.now.me told.found c.act-got.new.seat.me = subst (λ (e : ℕ). StartsWork e c.args.seat.now.me told.found c.act-got.new.seat.me) (sym c.requires.chosen) told.heard in
    let got : c.act-got.result ≡ given (making_asks (work_in v epoch)) told.found = told.is ∙ ap (λ (a : Action). given a told.found) (c.action.ensures ∙ ap making_asks same) in
    let goes : TurnGoes making (turning_at v epoch) c.act-got.result (party c.act-got.new.seat.me) =
    subst (λ (q : MakeTurn × ℕ). TurnGoes q.0 (turning_at v epoch) q.1 (party c.act-got.new.seat.me)) (λ k. (sym same k, sym got k)) heard.1 in
    goes.takes

pub returns : goal.returns
returns g c =
    let v = party c.args.seat.now.me in
    let epoch = c.args.epoch in
    let work = c.args.work.now in
    let told = c.act-got.ensures.told in
    let making : MakeTurn = Working work in
    let same : making ≡ work_in v epoch = ap Working c.requires.work ∙ ap (λ (b : About). Working (work_from b.layout b.generation epoch (epoch - 2))) (sym c.requires.about) in
    let heard : StartsWork epoch c.args.seat.now.me told.found c.act-got.new.seat.me = subst (λ (e : ℕ). StartsWork e c.args.seat.now.me told.found c.act-got.new.seat.me) (sym c.requires.chosen) told.heard in
    let got : c.act-got.result ≡ given (making_asks (work_in v epoch)) told.found = told.is ∙ ap (λ (a : Action). given a told.found) (c.action.ensures ∙ ap making_asks same) in
    record {
      seat = c.act-got.ensures.seat;
      lone = heard.0;
      steps = record {
        told = c.act-got.result;
        goes = subst (λ (q : MakeTurn × ℕ). TurnGoes q.0 (turning_at v epoch) q.1 (party c.act-got.new.seat.me)) (λ k. (sym same k, sym got k)) heard.1;
        turned = c.advance.ensures.turned;
        fewer = subst (λ (t : Turn Work Turned). actions_left (worked t) < actions_left (Go making)) c.advance.ensures.turned (work_lessens work (work_turned work c.act-got.result) c.advance.ensures.fewer);
      };
    }
