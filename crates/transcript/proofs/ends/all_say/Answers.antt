use Rattle.std.proofs.Common.{All, refl, subst}
use Rattle.std.proofs.lemmas.List.{take_all}
use Rattle.std.proofs.lemmas.List.Elements.{All-more}
use Rattle.cat_history.specs.CrashRounds.{ReplySays}
use Rattle.cat_history.specs.declared.record.Record.{Record}
use Rattle.transcript.proofs.ends.all_say.Goals as goal

pub loop-record-preserved : goal.loop-record-preserved
loop-record-preserved c = λ m is.
    All-more (λ (r : Record). ReplySays m r.op r.reply) c.args.told.now c.loop-record.record-index c.record-item.result c.loop-record-test.true (c.loop-record.invariant m is)
    (subst (λ (r : Record). ReplySays m r.op r.reply) c.record-item.is ((c.says.ensures m is).0 c.if-not-says.false))

pub returns : goal.returns
returns c = λ m is. (
  λ _. subst (All (λ (r : Record). ReplySays m r.op r.reply)) (take_all c.loop-record.record-index c.args.told.now c.loop-record-test.false) (c.loop-record.invariant m is),
  λ _. refl,
)
