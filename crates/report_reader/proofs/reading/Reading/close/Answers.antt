use Rattle.std.proofs.Common.{◌≡◌, ◌-◌, ◌++◌, ◌∷◌, ◌∙◌, [], length, cond, ap, refl, arith}
use Rattle.cat_history.specs.declared.record.Record.{Record}
use Rattle.cat_history.specs.declared.record.Reply.{Reply}
use Rattle.report_reader.proofs.StateLaws.{recorded, record_made}
use Rattle.report_reader.proofs.reading.Reading.close.Goals as goal

pub returns-clause-ok : goal.returns-clause-ok
returns-clause-ok c =
    let was = c.args.self.now in
    let call = c.args.call in
    let old = was.records.items in
    let len : c.len.result ≡ length old = omega (arith, c.len.ensures, c.args.self.now.records.ok) in
    let made : Record = record { caller = call.caller; index = c.len.result - call.first; op = call.op; reply = c.reply_of.result } in
    let items : c.push.new.self.items ≡ old ++ record_made was call c.args.parts.items ∷ [] =
    c.push.ensures.items ∙ ap (λ t. cond t (old ++ made ∷ []) old) c.if-is_err.ensures.negation
    ∙ ap (λ n. old ++ record { caller = call.caller; index = n - call.first; op = call.op; reply = c.reply_of.result } ∷ []) len
    ∙ ap (λ (reply : Reply). old ++ record { caller = call.caller; index = length old - call.first; op = call.op; reply = reply } ∷ []) c.reply_of.ensures in
    recorded was _ call c.args.parts.items c.requires.is c.requires.closed c.requires.call c.requires.parts c.requires.all
    (record { rounds = refl; records = items; caller = refl; first = refl; scan = refl; parts_stay = refl })
