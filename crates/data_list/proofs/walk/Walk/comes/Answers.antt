use Rattle.std.proofs.Common.{ℕ, ap, refl, subst, arith}
use Rattle.std.proofs.lemmas.Result.{err_from_is_err_and}
use Rattle.pm_words.specs.declared.action.Action.TheVariants.{Load}
use Rattle.call_stages.specs.Kinds.{version_address}
use Rattle.machine_runs.specs.Runs.{IsOnRun}
use Rattle.machine_runs.proofs.Running.{run_begins, run_may, turn_fewer, burst_goes, burst_behind}
use Rattle.machine_runs.proofs.Inside.{same_bursts}
use Rattle.data_list.specs.declared.walk.Walk.{Walk}
use Rattle.data_list.specs.declared.walk.WalkAt.TheVariants as at
use Rattle.data_list.specs.Walks.{walk_asks, walk_turned, walk_left, walk_takes}
use Rattle.data_list.proofs.Loading.{hop_fewer}
use Rattle.data_list.proofs.Arriving.{walk_can, version_taken, version_bursts, hop_is, free_may, free_behind, hop_begins}
use Rattle.data_list.proofs.walk.Walk.comes.Goals as goal

pub hops-init : goal.hops-init
hops-init g c =
    subst (λ (w : Walk). IsOnRun walk_asks walk_turned walk_left c.args.memory.now c.args.memory.now c.args.self.now w
    c.args.steps.now c.args.steps.now)
    (λ k. record c.args.self.now { at = c.requires.begins k })
    (run_begins c.args.memory.now c.args.self.now c.args.steps.now)

pub address-requires-clause-layout : goal.address-requires-clause-layout
address-requires-clause-layout g c = (hop_is c.hops.self c.requires.may c.hops.invariant).layout

pub address-requires-clause-node : goal.address-requires-clause-node
address-requires-clause-node g c = (hop_is c.hops.self c.requires.may c.hops.invariant).node

pub act-version-requires : goal.act-version-requires
act-version-requires g c =
    walk_can c.hops.memory c.hops.self at.Version (run_may walk_takes c.requires.may c.hops.invariant)
    (ap (λ (a : ℕ). Load a) {y = version_address c.hops.self.layout c.hops.self.node} c.address.ensures)

pub returns-then-not-is_free : goal.returns-then-not-is_free
returns-then-not-is_free g c =
    burst_behind c.hops.invariant
    (same_bursts refl
    (version_bursts c.hops.self (run_may walk_takes c.requires.may c.hops.invariant) c.address.ensures
    c.act-version.ensures.row c.act-version.ensures.got c.act-version.ensures.tick)
    (version_taken c.hops.self c.act-version.result c.is_free.result c.is_free.ensures c.if-not-is_free.true))

pub leads-requires : goal.leads-requires
leads-requires g c = (
  c.act-version.result,
  free_may c.hops.self c.requires.may c.hops.invariant c.address.ensures c.act-version.ensures.row
      c.act-version.ensures.got c.act-version.ensures.tick c.is_free.result c.is_free.ensures c.if-not-is_free.false,
)

pub returns-in_default : goal.returns-in_default
returns-in_default g c =
    let may =
    free_may c.hops.self c.requires.may c.hops.invariant c.address.ensures c.act-version.ensures.row
    c.act-version.ensures.got c.act-version.ensures.tick c.is_free.result c.is_free.ensures c.if-not-is_free.false in
    let here = c.in_default.ensures c.act-version.result may in
    record {
      target = here.target;
      here = here.here;
      burst =
          free_behind c.hops.self c.requires.may c.hops.invariant c.address.ensures c.act-version.ensures.row
          c.act-version.ensures.got c.act-version.ensures.tick c.is_free.result c.is_free.ensures c.if-not-is_free.false
          (λ _. here.burst);
    }

pub hops_on-requires-clause-layout : goal.hops_on-requires-clause-layout
hops_on-requires-clause-layout g c = (hop_is c.hops.self c.requires.may c.hops.invariant).layout

pub hops_on-requires-clause-hops : goal.hops_on-requires-clause-hops
hops_on-requires-clause-hops g c = (hop_is c.hops.self c.requires.may c.hops.invariant).hops

pub hops-smaller : goal.hops-smaller
hops-smaller g c =
    turn_fewer walk_left _ (hop_fewer c.hops.self c.in-Some.to 10 (omega arith))
    (hop_begins c.hops.self c.hops_on.new.self c.in-Some.to c.in_ok-hops_on.ensures)

pub hops-preserved : goal.hops-preserved
hops-preserved g c =
    burst_goes
    (free_behind c.hops.self c.requires.may c.hops.invariant c.address.ensures c.act-version.ensures.row
    c.act-version.ensures.got c.act-version.ensures.tick c.is_free.result c.is_free.ensures c.if-not-is_free.false
    (c.in-Some.ensures c.act-version.result))
    (hop_begins c.hops.self c.hops_on.new.self c.in-Some.to c.in_ok-hops_on.ensures)

pub returns-in_err-hops_on : goal.returns-in_err-hops_on
returns-in_err-hops_on g c =
    let p = err_from_is_err_and c.from_residual.result c.from_residual.ensures.1 in
    rw (p.1, p.2)
    (same_bursts refl
    (free_behind c.hops.self c.requires.may c.hops.invariant c.address.ensures c.act-version.ensures.row
    c.act-version.ensures.got c.act-version.ensures.tick c.is_free.result c.is_free.ensures c.if-not-is_free.false
    (c.in-Some.ensures c.act-version.result))
    c.in_err-hops_on.ensures)
