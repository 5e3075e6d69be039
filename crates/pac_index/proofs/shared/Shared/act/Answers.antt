use Rattle.std.proofs.Common.{◌≡◌, ℕ, ◌+◌, ◌<◌, refl, sym, ap, ◌∙◌, subst}
use Rattle.pm_words.specs.Locations.{image_words}
use Rattle.pm_words.specs.declared.action.Action.{Action}
use Rattle.atomic_table.specs.Table.{Allows}
use Rattle.pac_index.specs.Kept.{Kept, May}
use Rattle.pac_index.specs.declared.rule.About.{About}
use Rattle.pac_index.proofs.Allowed.{small_mod}
use Rattle.pac_index.proofs.shared.Shared.act.Goals as goal

pub load-requires : goal.load-requires
load-requires g c =
    let seat = c.args.seat.now in
    let t = c.args.self.now.table.shared in
    let may = subst (λ (a : Action). May t.key t.table_id.words t.table_id.slots seat.id seat.me a g.T.Outcome.tells) c.in-Load.is c.requires.allowed in
    (c.requires.table, may.0, may.1 (λ n. n) (λ n. n) (λ n fits can. refl) (λ n. refl))

pub store-requires : goal.store-requires
store-requires g c =
    let seat = c.args.seat.now in
    let t = c.args.self.now.table.shared in
    let may = subst (λ (a : Action). May t.key t.table_id.words t.table_id.slots seat.id seat.me a g.T.Outcome.tells) c.in-Store.is c.requires.allowed in
    (c.requires.table, may.0, may.1 (λ _. c.in-Store.value) (λ _. c.in-Store.value) (λ n fits can. refl) (λ n. refl))

pub compare_exchange-requires : goal.compare_exchange-requires
compare_exchange-requires g c =
    let seat = c.args.seat.now in
    let t = c.args.self.now.table.shared in
    let may = subst (λ (a : Action). May t.key t.table_id.words t.table_id.slots seat.id seat.me a g.T.Outcome.tells) c.in-Exchange.is c.requires.allowed in
    (c.requires.table, may.0, may.1 _ (λ n. n) (λ n fits can. refl) (λ n. refl))

pub fetch_add-requires : goal.fetch_add-requires
fetch_add-requires g c =
    let seat = c.args.seat.now in
    let t = c.args.self.now.table.shared in
    let may = subst (λ (a : Action). May t.key t.table_id.words t.table_id.slots seat.id seat.me a g.T.Outcome.tells) c.in-Add.is c.requires.allowed in
    (c.requires.table, may.0, may.1 _ (λ n. n) (λ n fits can. small_mod n can) (λ n. refl))

pub store-requires-in-Drain : goal.store-requires-in-Drain
store-requires-in-Drain g c =
    let seat = c.args.seat.now in
    let t = c.args.self.now.table.shared in
    let may = subst (λ (a : Action). May t.key t.table_id.words t.table_id.slots seat.id seat.me a g.T.Outcome.tells) c.in-Drain.is c.requires.allowed in
    let address : c.in-Drain.address + image_words t.key.layout ≡ c.in-Drain.address + c.image_words.result =
    ap (λ (b : About). c.in-Drain.address + image_words b.layout) c.args.self.now.key ∙ ap (λ (n : ℕ). c.in-Drain.address + n) (sym c.image_words.ensures.words) in
    let allowed = may.1 (λ _. c.in-Drain.value) (λ _. c.in-Drain.value) (λ n fits can. refl) (λ n. refl) in (
      c.requires.table,
      subst (λ (n : ℕ). n < t.table_id.words) address may.0,
      subst (λ (p : ℕ). Allows (Kept t.key) t.table_id.slots seat.id seat.me p (λ _. c.in-Drain.value) (λ n. g.T.Outcome.tells seat.me c.in-Drain.value)) address allowed,
    )
