use Rattle.std.proofs.Common.{◌≡◌, ℕ, ◌<◌, sym, ap, ◌∙◌, subst}
use Rattle.pm_words.specs.declared.action.Action.{Action}
use Rattle.pm_words.specs.Locations.{Updater, row_words, address_of}
use Rattle.pm_words.specs.Rows.{given, action_address}
use Rattle.pm_words.proofs.Apart.{addresses_within}
use Rattle.updater.specs.Makings.{making_asks}
use Rattle.epochs.specs.Kept.{first_epoch}
use Rattle.pac_index.specs.declared.rule.About.{About}
use Rattle.pac_index.specs.Kept.{May, party}
use Rattle.pac_index.specs.Turns.{turn_in, turning, StartsTurn, TurnGoes}
use Rattle.pac_index.proofs.Allowed.{inside_table}
use Rattle.pac_index.proofs.TurnSteps.{turn_allows_first}
use Rattle.pac_index.proofs.shared.Shared.lock_turn.Goals as goal

pub act-requires-clause-allowed : goal.act-requires-clause-allowed
act-requires-clause-allowed g c =
    let seat = c.args.seat.now in
    let s = c.args.self.now in
    let t = s.table.shared in
    let v = party seat.me in
    let asks = making_asks (turn_in v first_epoch) in
    let action : c.take_turn.result ≡ asks = c.take_turn.ensures v.about.layout in
    let within : address_of s.about.layout Updater < row_words s.about.layout = addresses_within s.about.layout Updater tt in
    let inside : action_address t.key.layout asks < t.table_id.words =
    inside_table s.about t.key t.table_id.words asks s.key s.words
    (subst (λ (b : About). address_of b.layout Updater < row_words s.about.layout) (sym c.requires.about) within) in
    subst (λ (x : Action). May t.key t.table_id.words t.table_id.slots seat.id seat.me x StartsTurn) (sym action)
    (turn_allows_first t.key t.table_id.words t.table_id.slots seat.id seat.me c.requires.lone c.requires.resting inside)

pub returns : goal.returns
returns g c =
    let v = party c.args.seat.now.me in
    let w = party c.act.new.seat.me in
    let told = c.act.ensures.told in
    let asks = making_asks (turn_in v first_epoch) in
    let got : c.act.result ≡ given asks told.found =
    told.is ∙ ap (λ (a : Action). given a told.found) (c.take_turn.ensures v.about.layout) in
    record {
      seat = c.act.ensures.seat;
      lone = told.heard.0;
      goes = subst (λ (n : ℕ). TurnGoes (turn_in v first_epoch) (turning v) n w) (sym got) told.heard.1;
    }
