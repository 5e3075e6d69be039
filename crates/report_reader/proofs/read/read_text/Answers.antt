use Rattle.std.proofs.Common.{◌<◌, length, ap, refl, sym, subst, arith}
use Rattle.std.proofs.lemmas.Bool.Decides.{nat_tests}
use Rattle.report_reader.specs.Faults.{IsRefusal}
use Rattle.report_reader.proofs.StepLaws.{read_on, refuse_line, refuse_rest}
use Rattle.report_reader.proofs.read.read_text.Goals as goal

pub returns-in-Err-clause-fault : goal.returns-in-Err-clause-fault
returns-in-Err-clause-fault c =
    let l = c.loop-line in
    subst (IsRefusal c.args.bytes.now) (sym c.fault_at.ensures)
    (refuse_line c.args.bytes.now l.rest.now c.in-Some.line.now c.in-Some.more.now l.number l.reading c.in-Err.fault l.invariant c.in-Some.ensures.whole c.in-Some.ensures.line c.in-Err.ensures.err)

pub loop-line-preserved : goal.loop-line-preserved
loop-line-preserved c =
    let l = c.loop-line in
    read_on c.args.bytes.now l.rest.now c.in-Some.line.now c.in-Some.more.now l.number l.reading c.add.new.self l.invariant c.in-Some.ensures.whole c.in-Some.ensures.line c.in_default-add.ensures.ok

pub returns-then-not-is_empty-clause-fault : goal.returns-then-not-is_empty-clause-fault
returns-then-not-is_empty-clause-fault c =
    let l = c.loop-line in
    let some : 0 < length l.rest.now = grind (arith, nat_tests, c.is_empty.ensures, c.if-not-is_empty.true) in
    refuse_rest c.args.bytes.now l.rest.now l.number l.reading l.invariant (c.in_default.ensures.none refl) (λ none report is same. omega (arith, some, ap length none))

pub returns-in-None-clause-fault : goal.returns-in-None-clause-fault
returns-in-None-clause-fault c =
    let l = c.loop-line in
    refuse_rest c.args.bytes.now l.rest.now l.number l.reading l.invariant (c.in_default.ensures.none refl) (λ _ report is same. c.in-None.ensures.none refl report is same)
