use Rattle.std.proofs.Common.{ℕ, sym, refl, ap, subst, ◌∙◌}
use Rattle.std.specs.Prelude.{Option, None}
use Rattle.pm_words.specs.declared.machine.Turn.TheVariants.{Go, Done}
use Rattle.machine_runs.proofs.Inside.{part_bursts, part_may}
use Rattle.node_ops.specs.declared.lookup.Looked.{Looked}
use Rattle.node_ops.specs.declared.del.Del.{Del}
use Rattle.node_ops.specs.declared.del.Del.TheVariants.{Single}
use Rattle.node_ops.specs.declared.single_del.SingleDel.{SingleDel}
use Rattle.node_ops.specs.declared.single_del.SingleDel.TheVariants.{Looking, Finishing}
use Rattle.node_ops.specs.DelSteps.{SingleDelTurns, del_finished, del_found, del_looked}
use Rattle.node_ops.proofs.DelBursts.{del_looking_may, del_looked_call, del_looked_found, del_looking_bursts, finishing_del}
use Rattle.node_ops.proofs.single_del.SingleDel.burst.Goals as goal

pub burst-requires : goal.burst-requires
burst-requires g c =
    del_looking_may c.args.self.now c.in-Looking.lookup c.in-Looking.is {old = c.args.memory.now} c.requires.may

pub found-requires-clause-call : goal.found-requires-clause-call
found-requires-clause-call g c =
    del_looked_call c.args.self.now c.in-Looking.lookup c.in-Looking.is {old = c.args.memory.now} c.requires.may
    c.in_ok-answer-in-Looking.ensures

pub found-requires-clause-found : goal.found-requires-clause-found
found-requires-clause-found g c =
    del_looked_found c.args.self.now c.in-Looking.lookup c.in-Looking.is {old = c.args.memory.now} c.requires.may
    c.in-Found.found c.in_ok-answer-in-Looking.ensures c.in-Found.is

pub returns-in_err-answer-in-Looking : goal.returns-in_err-answer-in-Looking
returns-in_err-answer-in-Looking g c = record {
  end = Go (Single (Looking c.burst.new.self));
  burst = del_looking_bursts c.args.self.now c.in-Looking.lookup c.in-Looking.is c.requires.may
      c.in_err-answer-in-Looking.ensures refl;
  turns = subst (SingleDelTurns (Go (Single (Looking c.burst.new.self))) (Looking c.burst.new.self))
      (sym c.from_residual.ensures) refl;
}

pub returns-in-Early : goal.returns-in-Early
returns-in-Early g c = record {
  end = Done c.in-Early.answer;
  burst = del_looking_bursts c.args.self.now c.in-Looking.lookup c.in-Looking.is c.requires.may
      c.in_ok-answer-in-Looking.ensures
      (ap (λ (f : Looked). del_looked c.burst.new.self.call (Done f)) c.in-Early.is);
  turns = refl;
}

pub returns-in-Found : goal.returns-in-Found
returns-in-Found g c = record {
  end = Go (del_found c.burst.new.self.call c.in-Found.found);
  burst = del_looking_bursts c.args.self.now c.in-Looking.lookup c.in-Looking.is c.requires.may
      c.in_ok-answer-in-Looking.ensures
      (ap (λ (f : Looked). del_looked c.burst.new.self.call (Done f)) c.in-Found.is);
  turns = ap (λ (d : Del). Go d) (sym c.found.ensures);
}

pub flush-requires-clause-may : goal.flush-requires-clause-may
flush-requires-clause-may g c =
    part_may finishing_del (ap (λ (s : SingleDel). Single s) (c.in-Finishing-default-None.is
    ∙ ap (λ (l : Option ℕ). Finishing c.in-Finishing-default-None.finish l) c.in-Finishing-default-None.line-is))
    {old = c.args.memory.now} c.requires.may

pub returns-in-Some : goal.returns-in-Some
returns-in-Some g c = record {
  end = Go (Single (Finishing c.flush.new.self None));
  burst = part_bursts finishing_del (ap (λ (s : SingleDel). Single s) (c.in-Finishing-default-None.is
      ∙ ap (λ (l : Option ℕ). Finishing c.in-Finishing-default-None.finish l) c.in-Finishing-default-None.line-is))
      c.requires.may c.flush.ensures.bursts (ap (del_finished None) (sym c.flush.ensures.bursts.ends));
  turns = ap (λ (l : Option ℕ). Go (Single (Finishing c.flush.new.self l)))
      (sym c.in-Finishing-default-None.line-is);
}
