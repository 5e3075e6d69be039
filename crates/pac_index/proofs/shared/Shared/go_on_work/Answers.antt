use Rattle.std.proofs.Common.{◌≡◌, ℕ, ◌<◌, sym, ap, ◌∙◌, subst}
use Rattle.pm_words.specs.declared.action.Action.{Action}
use Rattle.pm_words.specs.declared.machine.Turn.{Turn}
use Rattle.pm_words.specs.declared.machine.Turn.TheVariants.{Go}
use Rattle.pm_words.specs.Rows.{given, action_address}
use Rattle.updater.specs.declared.making.MakeTurn.{MakeTurn}
use Rattle.updater.specs.declared.making.MakeTurn.TheVariants.{Working}
use Rattle.updater.specs.declared.terms.Turned.{Turned}
use Rattle.updater.specs.declared.work.Work.{Work}
use Rattle.updater.specs.Makings.{making_asks, worked}
use Rattle.updater.specs.Works.{work_takes, work_turned}
use Rattle.pac_index.specs.Kept.{May, party}
use Rattle.pac_index.specs.Turns.{TellsTurn, TurnGoes, actions_left}
use Rattle.pac_index.proofs.Allowed.{inside_table}
use Rattle.pac_index.proofs.TurnSteps.{turn_allows}
use Rattle.pac_index.proofs.TurnRunning.{work_lessens}
use Rattle.pac_index.proofs.shared.Shared.go_on_work.Goals as goal

pub act-got-requires-clause-allowed : goal.act-got-requires-clause-allowed
act-got-requires-clause-allowed g c =
    let seat = c.args.seat.now in
    let s = c.args.self.now in
    let t = s.table.shared in
    let making : MakeTurn = Working c.args.work.now in
    let inside : action_address t.key.layout (making_asks making) < t.table_id.words =
    inside_table s.about t.key t.table_id.words (making_asks making) s.key s.words c.requires.ready.1 in
    subst (λ (a : Action). May t.key t.table_id.words t.table_id.slots seat.id seat.me a TellsTurn) (sym c.action.ensures)
    (turn_allows t.key t.table_id.words t.table_id.slots seat.id seat.me making c.requires.lone c.requires.flies inside)

pub advance-requires : goal.advance-requires
advance-requires g c =
    let told = c.act-got.ensures.told in
    let making : MakeTurn = Working c.args.work.now in
    let got : c.act-got.result ≡ given (making_asks making) told.found = told.is ∙ ap (λ (a : Action). given a told.found) c.action.ensures in
    subst (work_takes c.args.work.now) (sym got) (told.heard making c.requires.flies).1.takes

pub returns : goal.returns
returns g c =
    let seat = c.args.seat.now in
    let work = c.args.work.now in
    let making : MakeTurn = Working work in
    let w = party c.act-got.new.seat.me in
    let told = c.act-got.ensures.told in
    let got : c.act-got.result ≡ given (making_asks making) told.found = told.is ∙ ap (λ (a : Action). given a told.found) c.action.ensures in
    let heard = told.heard making c.requires.flies in
    record {
      seat = c.act-got.ensures.seat;
      lone = heard.0;
      steps = record {
        told = c.act-got.result;
        goes = subst (λ (n : ℕ). TurnGoes making (party seat.me) n w) (sym got) heard.1;
        turned = c.advance.ensures.turned;
        fewer = subst (λ (t : Turn Work Turned). actions_left (worked t) < actions_left (Go making)) c.advance.ensures.turned (work_lessens work (work_turned work c.act-got.result) c.advance.ensures.fewer);
      };
    }
