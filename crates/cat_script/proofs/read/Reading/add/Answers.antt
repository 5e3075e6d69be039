use Rattle.std.proofs.Common.{[], ◌∷◌, ◌++◌}
use Rattle.std.proofs.lemmas.Result.{err_from_is_err_and}
use Rattle.std.proofs.lemmas.Slice.Zip.{all_zipped_more}
use Rattle.cat_script.specs.Asks.{IsLine}
use Rattle.cat_script.proofs.ReadLemmas.{limit_behind, told_more}
use Rattle.cat_script.proofs.read.Reading.add.Goals as goal

pub returns-in_err-add-clause-err : goal.returns-in_err-add-clause-err
returns-in_err-add-clause-err c =
    let p = err_from_is_err_and c.from_residual-in_err-add.result c.from_residual-in_err-add.ensures.1 in
    rw (p.1, p.2) (λ before is. limit_behind before c.args.line.now c.in_ok-asked.asked c.args.self.now c.in_err-add.field-0.0 c.in_ok-asked.ensures.ok c.in_err-add.ensures.err is)

pub returns-clause-ok : goal.returns-clause-ok
returns-clause-ok c = λ before is.
    let asked = c.in_ok-asked.asked in
    record {
      said = is.said ++ asked ∷ [];
      lines = all_zipped_more IsLine before is.said c.args.line.now asked is.lines c.in_ok-asked.ensures.ok;
      counts = c.in_ok-add.ensures.ok is.said is.counts;
      rounds = c.in_ok-add-2.ensures is.said is.rounds;
      told = told_more before asked c.args.self.now c.add_line.new.lines.items is c.in_ok-add_line.ensures is;
    }
