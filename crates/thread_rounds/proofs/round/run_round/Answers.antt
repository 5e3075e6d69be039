use Rattle.std.proofs.Common.{◌<◌, sym, subst}
use Rattle.std.specs.Prelude.{All}
use Rattle.cat_history.specs.declared.op.CallerOp.{CallerOp}
use Rattle.std.proofs.lemmas.Result.{IfOk-weaker}
use Rattle.pac_index.specs.index_core.specs.Indexes.{parties_of}
use Rattle.pac_index.specs.declared.rule.About.{About}
use Rattle.pac_index.specs.Callers.{HasCallers}
use Rattle.thread_rounds.proofs.Meeting.{all-rest, crashes, have-callers, joins}
use Rattle.thread_rounds.proofs.round.run_round.Goals as goal

pub joined-requires-clause-callers : goal.joined-requires-clause-callers
joined-requires-clause-callers g c =
    let s = c.in_ok-shared.shared in
    let opened = c.in_ok-shared.ensures.opened in
    have-callers s c.args.plan.now (parties_of s.about.layout) c.in_ok-shared.callers.items c.in_ok-played.played.items c.in_ok-callers.callers.items c.in_ok-callers.records.items
    (subst (λ (a : About). HasCallers s (parties_of a.layout) c.in_ok-shared.callers.items) (sym opened.about) opened.callers_of) c.in_ok-played.ensures c.in_ok-callers.ensures

pub joined-requires-clause-rests : goal.joined-requires-clause-rests
joined-requires-clause-rests g c =
    all-rest c.args.core c.in_ok-shared.shared c.args.plan.now c.in_ok-shared.callers.items c.in_ok-played.played.items c.in_ok-callers.callers.items c.in_ok-callers.records.items c.requires.start c.requires.callers
    c.in_ok-shared.ensures.opened c.in_ok-played.ensures c.in_ok-callers.ensures c.in-None.is

pub crashed-requires : goal.crashed-requires
crashed-requires g c =
    let s = c.in_ok-shared.shared in
    let opened = c.in_ok-shared.ensures.opened in
    record {
      callers = have-callers s c.args.plan.now (parties_of s.about.layout) c.in_ok-shared.callers.items c.in_ok-played.played.items c.in_ok-callers.callers.items c.in_ok-callers.records.items
          (subst (λ (a : About). HasCallers s (parties_of a.layout) c.in_ok-shared.callers.items) (sym opened.about) opened.callers_of) c.in_ok-played.ensures c.in_ok-callers.ensures;
    }

pub returns-in-None : goal.returns-in-None
returns-in-None g c = record {
  run = IfOk-weaker c.joined.result _ _
      (λ round met.
      joins c.args.core c.in_ok-shared.shared c.args.plan.now c.in_ok-shared.callers.items c.in_ok-played.played.items c.in_ok-callers.callers.items c.in_ok-callers.records.items c.requires.start c.requires.callers
      c.in_ok-shared.ensures.opened c.in_ok-played.ensures c.in_ok-callers.ensures round c.in-None.is met)
      c.joined.ensures;
}

pub returns-in-Some : goal.returns-in-Some
returns-in-Some g c = record {
  run = IfOk-weaker c.crashed.result _ _
      (λ round ended.
      crashes c.args.core c.in_ok-shared.shared c.args.plan.now c.in_ok-shared.callers.items c.in_ok-played.played.items c.in_ok-callers.callers.items c.in_ok-callers.records.items c.requires.start c.requires.callers
      c.in_ok-shared.ensures.opened c.in_ok-played.ensures c.in_ok-callers.ensures round c.in-Some.crash c.in-Some.is ended)
      c.crashed.ensures;
}

pub all_play-requires-clause-callers : goal.all_play-requires-clause-callers
all_play-requires-clause-callers g c κs lives =
    let opened = c.in_ok-shared.ensures.opened in
    subst (λ (a : About). HasCallers c.in_ok-shared.shared (parties_of a.layout) c.in_ok-shared.callers.items) (sym opened.about) opened.callers_of

pub all_play-requires-clause-new : goal.all_play-requires-clause-new
all_play-requires-clause-new g c κs lives = c.in_ok-shared.ensures.opened.fresh

pub all_play-requires-clause-asked : goal.all_play-requires-clause-asked
all_play-requires-clause-asked g c κs lives =
    subst (λ (a : About). All (λ (o : CallerOp). o.caller < a.layout.callers) c.args.plan.now.ops) (sym c.in_ok-shared.ensures.opened.about) c.requires.callers
