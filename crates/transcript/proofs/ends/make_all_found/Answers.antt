use Rattle.std.proofs.Common.{◌∙◌, List, take, ap, sym}
use Rattle.std.proofs.lemmas.List.Sums.{fold-append}
use Rattle.std.specs.FinMap.{entries}
use Rattle.std.specs.Option.{option_to_list}
use Rattle.cat_history.specs.CrashEnds.{after_changes}
use Rattle.cat_history.specs.Writes.{changed}
use Rattle.cat_history.specs.declared.op.Change.{Change}
use Rattle.cat_history.specs.declared.record.Record.{Record}
use Rattle.transcript.specs.Ends.{change_found, changes_found}
use Rattle.transcript.proofs.Giving.{given_more}
use Rattle.transcript.proofs.ends.make_all_found.Goals as goal

pub loop-record-preserved : goal.loop-record-preserved
loop-record-preserved c = λ m is.
    let told = c.args.told.now in
    let i = c.loop-record.record-index in
    let r : Record = c.record-item.result in
    let before : List Change = changes_found (take i told) in
    let here : List Change = option_to_list (change_found r.op r.reply) in
    c.in_ok-make_found.ensures.ok (after_changes m before) (c.loop-record.invariant m is)
    ∙ ap entries (sym (fold-append changed m before here))
    ∙ ap (λ (changes : List Change). entries (after_changes m changes)) (sym (given_more (λ (q : Record). change_found q.op q.reply) told i r c.loop-record-test.true c.record-item.is))
