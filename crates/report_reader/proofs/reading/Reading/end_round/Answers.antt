use Rattle.std.proofs.Common.{◌≡◌, ◌++◌, ◌∷◌, ◌∙◌, [], List, cond, ap, refl}
use Rattle.cat_history.specs.declared.record.Record.{Record}
use Rattle.cat_text.specs.declared.report.RoundReport.{RoundReport}
use Rattle.report_reader.proofs.StateLaws.{ended}
use Rattle.report_reader.proofs.reading.Reading.end_round.Goals as goal

pub returns-clause-ok : goal.returns-clause-ok
returns-clause-ok c =
    let was = c.args.self.now in
    let old = was.rounds.items in
    let made : RoundReport = record { records = c.of.result; crashed = c.args.crashed; writes = c.args.writes; names = c.args.names } in
    let taken : c.of.result ≡ was.records.items = c.of.ensures ∙ ap (λ v. v.items) c.replace-records.ensures.value in
    let rounds : c.push.new.self.items ≡ old ++ record { records = was.records.items; crashed = c.args.crashed; writes = c.args.writes; names = c.args.names } ∷ [] =
    c.push.ensures.items ∙ ap (λ t. cond t (old ++ made ∷ []) old) c.if-is_err.ensures.negation
    ∙ ap (λ (rs : List Record). old ++ record { records = rs; crashed = c.args.crashed; writes = c.args.writes; names = c.args.names } ∷ []) taken in
    let records : c.replace-records.new.dest.items ≡ [] = ap (λ v. v.items) c.replace-records.ensures.after ∙ c.new.ensures.items in
    ended was _ c.args.crashed c.args.writes c.args.names c.requires.is c.requires.closed c.requires.head
    (record { rounds = rounds; records = records; caller = refl; first = refl; scan = refl; parts_stay = refl })
