use Rattle.std.proofs.Common.{◌≡◌, ℕ, ◌<◌, sym, ap, ◌∙◌, subst}
use Rattle.pm_words.specs.declared.action.Action.{Action}
use Rattle.pm_words.specs.Rows.{action_address}
use Rattle.call_stages.specs.declared.once.Once.{Once}
use Rattle.call_stages.specs.declared.view.View.{View}
use Rattle.node_ops.specs.declared.recheck.Recheck.{Recheck}
use Rattle.node_ops.specs.declared.recheck.Recheck.TheVariants.{Dating, Checking}
use Rattle.node_ops.specs.declared.recheck.Same.{Same}
use Rattle.node_ops.specs.RecheckSteps.{IsRecheck, recheck_asks, recheck_takes, rechecked}
use Rattle.pac_index.specs.declared.rule.About.{About}
use Rattle.pac_index.specs.Kept.{May, party}
use Rattle.pac_index.specs.Rechecked.{EndsRecheck, Rechecked, StartsRecheck}
use Rattle.std.specs.Prelude.{Option}
use Rattle.pac_index.specs.Budgets.{Pays}
use Rattle.pac_index.proofs.Allowed.{inside_table}
use Rattle.pac_index.proofs.Budgeting.{paid, pays_first, pays_on, unpaid}
use Rattle.pac_index.proofs.Looking.{checks_allowed, checks_told, dates_allowed, dates_told, ends_checked, goes_checking, load_inside, rechecks_so, takes_clock, takes_version}
use Rattle.pac_index.proofs.shared.Shared.run_recheck.Goals as goal

pub act-clock-requires-clause-allowed : goal.act-clock-requires-clause-allowed
act-clock-requires-clause-allowed g c =
    let seat = c.args.seat.now in
    let s = c.args.self.now in
    let t = s.table.shared in
    let view = c.view-view.result in
    let r = Dating view c.args.node c.args.version in
    let here : IsRecheck r = subst IsRecheck c.new-first.ensures.new c.new-first.ensures.sound in
    let layout : view.layout ≡ s.about.layout = ap (λ (v : View). v.layout) c.view-view.ensures.view in
    let action : c.action-dates.result ≡ recheck_asks r = c.action-dates.ensures ∙ ap recheck_asks c.new-first.ensures.new in
    let inside : action_address t.key.layout (recheck_asks r) < t.table_id.words = inside_table s.about t.key t.table_id.words (recheck_asks r) s.key s.words (load_inside s.about.layout r here layout) in
    subst (λ (a : Action). May t.key t.table_id.words t.table_id.slots seat.id seat.me a StartsRecheck) (sym action)
    (dates_allowed t.key t.table_id.words t.table_id.slots seat.id seat.me view c.args.node c.args.version c.requires.lone here
    (layout ∙ ap (λ (b : About). b.layout) (sym s.key)) (ap (λ (v : View). v.generation) c.view-view.ensures.view ∙ ap (λ (b : About). b.generation) (sym s.key))
    (layout ∙ ap (λ (b : About). b.layout) (sym c.requires.about)) inside)

pub resume-requires : goal.resume-requires
resume-requires g c =
    let v = party c.args.seat.now.me in
    let w = party c.act-clock.new.seat.me in
    let view = c.view-view.result in
    let first = c.new-first.ensures in
    let here : IsRecheck (Dating view c.args.node c.args.version) = subst IsRecheck first.new first.sound in
    let dates = dates_told c.args.seat.now.me c.act-clock.new.seat.me c.action-dates.result c.act-clock.result view c.args.node c.args.version c.new-first.result c.act-clock.ensures.told c.action-dates.ensures first.new in
    let layout : v.about.layout ≡ view.layout = ap (λ (b : About). b.layout) c.requires.about ∙ ap (λ (u : View). u.layout) (sym c.view-view.ensures.view) in
    let generation : v.about.generation ≡ view.generation = ap (λ (b : About). b.generation) c.requires.about ∙ ap (λ (u : View). u.generation) (sym c.view-view.ensures.view) in
    subst (λ (r : Recheck). recheck_takes r c.act-clock.result) (sym first.new) (takes_clock v w view c.args.node c.args.version c.act-clock.result here layout generation dates)

pub act-found-requires-clause-allowed : goal.act-found-requires-clause-allowed
act-found-requires-clause-allowed g c =
    let seat = c.act-clock.new.seat in
    let s = c.args.self.now in
    let t = s.table.shared in
    let view = c.view-view.result in
    let first = c.new-first.ensures in
    let told = c.act-clock.ensures.told in
    let clock = c.act-clock.result in
    let r = Checking view c.args.node c.args.version clock in
    let here : IsRecheck r = subst IsRecheck first.new first.sound in
    let layout : view.layout ≡ s.about.layout = ap (λ (v : View). v.layout) c.view-view.ensures.view in
    let next : c.in-Go.last ≡ r = goes_checking view c.args.node c.args.version clock c.new-first.result c.in-Go.last c.resume.result first.new c.resume.ensures.turned c.in-Go.is in
    let action : c.action-checks.result ≡ recheck_asks r = c.action-checks.ensures ∙ ap recheck_asks next in
    let inside : action_address t.key.layout (recheck_asks r) < t.table_id.words = inside_table s.about t.key t.table_id.words (recheck_asks r) s.key s.words (load_inside s.about.layout r here layout) in
    let about : (party seat.me).about ≡ s.about = told.heard.1.looks.about ∙ c.requires.about in
    subst (λ (a : Action). May t.key t.table_id.words t.table_id.slots c.act-clock.new.seat.id seat.me a (EndsRecheck g.N.ChecksNode.node)) (sym action)
    (subst (λ (n : ℕ). May t.key t.table_id.words t.table_id.slots seat.id seat.me (recheck_asks r) (EndsRecheck n)) c.requires.chosen
    (checks_allowed t.key t.table_id.words t.table_id.slots seat.id seat.me view c.args.node c.args.version clock told.heard.0 here
    (layout ∙ ap (λ (b : About). b.layout) (sym s.key)) (ap (λ (v : View). v.generation) c.view-view.ensures.view ∙ ap (λ (b : About). b.generation) (sym s.key))
    (layout ∙ ap (λ (b : About). b.layout) (sym about)) inside))

pub resume-requires-2 : goal.resume-requires-2
resume-requires-2 g c =
    let mid = party c.act-clock.new.seat.me in
    let w = party c.act-found.new.seat.me in
    let view = c.view-view.result in
    let first = c.new-first.ensures in
    let clock = c.act-clock.result in
    let here : IsRecheck (Checking view c.args.node c.args.version clock) = subst IsRecheck first.new first.sound in
    let next = goes_checking view c.args.node c.args.version clock c.new-first.result c.in-Go.last c.resume.result first.new c.resume.ensures.turned c.in-Go.is in
    let ends = checks_told c.act-clock.new.seat.me c.act-found.new.seat.me c.action-checks.result c.act-found.result view c.args.node c.args.version clock g.N.ChecksNode.node c.in-Go.last c.act-found.ensures.told c.requires.chosen c.action-checks.ensures next in
    let about : mid.about ≡ c.args.self.now.about = c.act-clock.ensures.told.heard.1.looks.about ∙ c.requires.about in
    let layout : mid.about.layout ≡ view.layout = ap (λ (b : About). b.layout) about ∙ ap (λ (u : View). u.layout) (sym c.view-view.ensures.view) in
    let generation : mid.about.generation ≡ view.generation = ap (λ (b : About). b.generation) about ∙ ap (λ (u : View). u.generation) (sym c.view-view.ensures.view) in
    subst (λ (q : Recheck). recheck_takes q c.act-found.result) (sym next) (takes_version mid w view c.args.node c.args.version clock c.act-found.result here layout generation ends.1)

-- cut off behind the load of the clock
pub returns-then-not-pay-clause-answered : goal.returns-then-not-pay-clause-answered
returns-then-not-pay-clause-answered g c =
    let dates = dates_told c.args.seat.now.me c.act-clock.new.seat.me c.action-dates.result c.act-clock.result c.view-view.result c.args.node c.args.version c.new-first.result c.act-clock.ensures.told c.action-dates.ensures c.new-first.ensures.new in
    let none = unpaid c.pay.result _ _ c.if-not-pay.true c.pay.ensures in
    (none.1 ∙ none.0, (c.act-clock.result, dates))

pub returns-then-not-pay-clause-paid : goal.returns-then-not-pay-clause-paid
returns-then-not-pay-clause-paid g c =
    let told = c.act-clock.ensures.told in
    let none = unpaid c.pay.result _ _ c.if-not-pay.true c.pay.ensures in
    let taken = told.heard.1.looks.taken in
    subst (λ (o : Option ℕ). Pays c.args.left.now o (party c.args.seat.now.me).taken (party c.act-clock.new.seat.me).taken) (sym none.1) (pays_first c.args.left.now c.pay_one.new.left (party c.args.seat.now.me).taken (party c.act-clock.new.seat.me).taken c.pay_one.ensures taken)

pub returns : goal.returns
returns g c =
    let v = party c.args.seat.now.me in
    let mid = party c.act-clock.new.seat.me in
    let w = party c.act-found.new.seat.me in
    let view = c.view-view.result in
    let first = c.new-first.ensures in
    let clock = c.act-clock.result in
    let found = c.act-found.result in
    let next = goes_checking view c.args.node c.args.version clock c.new-first.result c.in-Go.last c.resume.result first.new c.resume.ensures.turned c.in-Go.is in
    let dates = dates_told c.args.seat.now.me c.act-clock.new.seat.me c.action-dates.result clock view c.args.node c.args.version c.new-first.result c.act-clock.ensures.told c.action-dates.ensures first.new in
    let ends = checks_told c.act-clock.new.seat.me c.act-found.new.seat.me c.action-checks.result c.act-found.result view c.args.node c.args.version clock g.N.ChecksNode.node c.in-Go.last c.act-found.ensures.told c.requires.chosen c.action-checks.ensures next in
    let answer : c.in-Done.answer ≡ rechecked c.args.node c.args.version clock found = ends_checked view c.args.node c.args.version clock found c.in-Go.last c.resume-2.result c.in-Done.answer next c.resume-2.ensures.turned c.in-Done.is in
    let seats = c.act-clock.ensures.seat in
    record {
      seat = (c.act-found.ensures.seat.0 ∙ seats.0, c.act-found.ensures.seat.1 ∙ seats.1);
      lone = ends.0;
      answered = subst (λ (a : Once Same). Rechecked c.args.node c.args.version v a w) (sym answer) (rechecks_so c.args.node c.args.version v mid w clock found dates ends.1);
      paid = pays_on c.args.left.now c.pay_one.new.left c.pay.new.left v.taken mid.taken w.taken (pays_first c.args.left.now c.pay_one.new.left v.taken mid.taken c.pay_one.ensures dates.looks.taken) (paid c.pay.result _ _ c.if-not-pay.false c.pay.ensures) ends.1.looks.taken;
    }
