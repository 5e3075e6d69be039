use Rattle.std.proofs.Common.{sym, refl, ap, subst, ◌∙◌}
use Rattle.pm_words.specs.declared.machine.Turn.TheVariants.{Go, Done}
use Rattle.machine_runs.proofs.Inside.{part_bursts, part_may}
use Rattle.node_ops.specs.declared.lookup.Looked.{Looked}
use Rattle.node_ops.specs.declared.put.Put.TheVariants.{Single}
use Rattle.node_ops.specs.declared.single_put.SinglePut.{SinglePut}
use Rattle.node_ops.specs.declared.single_put.SinglePut.TheVariants.{Looking, Finishing}
use Rattle.node_ops.specs.FillSteps.{filled}
use Rattle.node_ops.specs.PutSteps.{SinglePutTurns, put_filled, put_finished, put_found, put_looked}
use Rattle.node_ops.proofs.PutBursts.{put_looking_may, put_looked_call, put_looked_found, put_looking_bursts}
use Rattle.node_ops.proofs.PutBursts.{filling_put, finishing_put, put_replacing_bursts, put_replacing_may}
use Rattle.node_ops.proofs.single_put.SinglePut.burst.Goals as goal

pub burst-requires : goal.burst-requires
burst-requires g c =
    put_looking_may c.args.self.now c.in-Looking.lookup c.in-Looking.value c.in-Looking.is {old = c.args.memory.now}
    c.requires.may

pub found-requires-clause-call : goal.found-requires-clause-call
found-requires-clause-call g c =
    put_looked_call c.args.self.now c.in-Looking.lookup c.in-Looking.value c.in-Looking.is {old = c.args.memory.now}
    c.requires.may c.in_ok-answer-in-Looking.ensures

pub found-requires-clause-found : goal.found-requires-clause-found
found-requires-clause-found g c =
    put_looked_found c.args.self.now c.in-Looking.lookup c.in-Looking.value c.in-Looking.is {old = c.args.memory.now}
    c.requires.may c.in-Found.found c.in_ok-answer-in-Looking.ensures c.in-Found.is

pub replaced_hit-requires : goal.replaced_hit-requires
replaced_hit-requires g c =
    put_looked_call c.args.self.now c.in-Looking.lookup c.in-Looking.value c.in-Looking.is {old = c.args.memory.now}
    c.requires.may c.in_ok-answer-in-Looking.ensures

pub replaces-finish-requires : goal.replaces-finish-requires
replaces-finish-requires g c =
    put_replacing_may c.args.self.now c.in-Looking.lookup c.in-Looking.value c.in-Looking.is {old = c.args.memory.now}
    c.requires.may c.in-Found.found c.in-Some.hit c.in_ok-answer-in-Looking.ensures c.in-Found.is
    (sym c.replaced_hit.ensures ∙ c.in-Some.is)

pub returns-in-Some : goal.returns-in-Some
returns-in-Some g c = record {
  end = Go (Single (Finishing c.replaces-finish.result));
  burst = put_replacing_bursts c.args.self.now c.in-Looking.lookup c.in-Looking.value c.in-Looking.is
      {old = c.args.memory.now} c.requires.may c.in-Found.found c.in-Some.hit c.in_ok-answer-in-Looking.ensures
      c.in-Found.is (sym c.replaced_hit.ensures ∙ c.in-Some.is) c.replaces-finish.ensures;
  turns = refl;
}

pub returns-in_err-answer-in-Looking : goal.returns-in_err-answer-in-Looking
returns-in_err-answer-in-Looking g c = record {
  end = Go (Single (Looking c.burst.new.self c.in-Looking.value));
  burst = put_looking_bursts c.args.self.now c.in-Looking.lookup c.in-Looking.value c.in-Looking.is c.requires.may
      c.in_err-answer-in-Looking.ensures refl;
  turns = subst (SinglePutTurns (Go (Single (Looking c.burst.new.self c.in-Looking.value)))
      (Looking c.burst.new.self c.in-Looking.value)) (sym c.from_residual.ensures) refl;
}

pub returns-in-Early : goal.returns-in-Early
returns-in-Early g c = record {
  end = Done c.in-Early.answer;
  burst = put_looking_bursts c.args.self.now c.in-Looking.lookup c.in-Looking.value c.in-Looking.is c.requires.may
      c.in_ok-answer-in-Looking.ensures
      (ap (λ (f : Looked). put_looked c.burst.new.self.call c.in-Looking.value (Done f)) c.in-Early.is);
  turns = refl;
}

pub returns-in_default : goal.returns-in_default
returns-in_default g c = record {
  end = Go (put_found c.burst.new.self.call c.in-Found.found c.in-Looking.value);
  burst = put_looking_bursts c.args.self.now c.in-Looking.lookup c.in-Looking.value c.in-Looking.is c.requires.may
      c.in_ok-answer-in-Looking.ensures
      (ap (λ (f : Looked). put_looked c.burst.new.self.call c.in-Looking.value (Done f)) c.in-Found.is);
  turns = c.found.ensures;
}

pub run-requires : goal.run-requires
run-requires g c =
    part_may filling_put (ap (λ (s : SinglePut). Single s) c.in-Filling.is) {old = c.args.memory.now} c.requires.may

pub returns-in-Filling : goal.returns-in-Filling
returns-in-Filling g c = record {
  end = Go (Single (Finishing (filled c.run.new.self)));
  burst = part_bursts filling_put (ap (λ (s : SinglePut). Single s) c.in-Filling.is) c.requires.may c.run.ensures
      (ap put_filled (sym c.run.ensures.ends));
  turns = ap (λ (s : SinglePut). Go (Single s)) (sym (c.filled.ensures c.run.new.self refl));
}

pub flush-requires-clause-may : goal.flush-requires-clause-may
flush-requires-clause-may g c =
    part_may finishing_put (ap (λ (s : SinglePut). Single s) c.in-Finishing.is) {old = c.args.memory.now} c.requires.may

pub returns-in-Some-line_to_flush : goal.returns-in-Some-line_to_flush
returns-in-Some-line_to_flush g c = record {
  end = Go (Single (Finishing c.flush.new.self));
  burst = part_bursts finishing_put (ap (λ (s : SinglePut). Single s) c.in-Finishing.is) c.requires.may
      c.flush.ensures.bursts (ap put_finished (sym c.flush.ensures.bursts.ends));
  turns = refl;
}
